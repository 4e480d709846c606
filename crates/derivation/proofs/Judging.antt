-- Answers of judging, passed on.
use Rattle.std.proofs.Common.{◌≡◌, ℕ, List, [], ◌∷◌, Result, Ok, Err, IsErr, IsErrAnd, sym, subst, subst₂}
use Rattle.std.proofs.lemmas.Bool.{false≢true}
use Rattle.certificates.specs.Reasons.{StepReason}
use Rattle.cert_model.specs.ReasonView.{step_reason_view}
use Rattle.derivation.specs.Errors.{Judged, IsHere, IsBelow}
use Rattle.derivation.specs.declared.errors.ReplayError.{ReplayError}
use Rattle.derivation.specs.declared.errors.ReplayError.TheVariants.{Bad, NoMemory}

-- a reason found here
pub judged_here : {T : Type 0} (Good : T → Type 0) (Fails : List ℕ → StepReason → Type 0) (reason : StepReason) (e : ReplayError) → IsHere reason e → Fails [] reason → Judged Good Fails (Err e)
judged_here Good Fails reason (Bad bad) (p, r) h = subst₂ Fails (sym p) (sym r) h
judged_here Good Fails reason NoMemory is h = absurd is

-- a reason found here, where no path is below
pub judged_empty : {T : Type 0} (Good : T → Type 0) (Fails : StepReason → Type 0) (reason : StepReason) (e : ReplayError) → IsHere reason e → Fails reason
    → Judged Good (λ path why. (path ≡ []) × Fails why) (Err e)
judged_empty Good Fails reason (Bad bad) (p, r) h = (p, subst Fails (sym r) h)
judged_empty Good Fails reason NoMemory is h = absurd is

-- an error that is passed on by `?`
pub judged_passed : {T U : Type 0} (Good : T → Type 0) (Fails : List ℕ → StepReason → Type 0) (Good' : U → Type 0) (Fails' : List ℕ → StepReason → Type 0) (r : Result U ReplayError) (e : ReplayError)
    → IsErr r → IsErrAnd r (λ x. x ≡ e) → ((path : List ℕ) (reason : StepReason) → Fails path reason → Fails' path reason) → Judged Good Fails (Err e) → Judged Good' Fails' r
judged_passed Good Fails Good' Fails' (Ok u) e is same f h = absurd (false≢true is)
judged_passed Good Fails Good' Fails' (Err x) e is same f h = subst (λ y. Judged Good' Fails' (Err y)) (sym same) (again e h)
  where
    again : (y : ReplayError) → Judged Good Fails (Err y) → Judged Good' Fails' (Err y)
    again (Bad bad) k = f bad.path.items (step_reason_view bad.reason) k
    again NoMemory k = tt

pub judged_map : {T : Type 0} (Good : T → Type 0) (Fails : List ℕ → StepReason → Type 0) (Good' : T → Type 0) (Fails' : List ℕ → StepReason → Type 0) (r : Result T ReplayError)
    → ((u : T) → Good u → Good' u) → ((path : List ℕ) (reason : StepReason) → Fails path reason → Fails' path reason) → Judged Good Fails r → Judged Good' Fails' r
judged_map Good Fails Good' Fails' (Ok u) f g h = f u h
judged_map Good Fails Good' Fails' (Err (Bad bad)) f g h = g bad.path.items (step_reason_view bad.reason) h
judged_map Good Fails Good' Fails' (Err NoMemory) f g h = tt

-- an error, with a number before its path
pub judged_below : {T U : Type 0} (Good : T → Type 0) (Fails : List ℕ → StepReason → Type 0) (Good' : U → Type 0) (Fails' : List ℕ → StepReason → Type 0) (n : ℕ) (e r : ReplayError)
    → IsBelow n e r → ((path : List ℕ) (reason : StepReason) → Fails path reason → Fails' (n ∷ path) reason) → Judged Good Fails (Err e) → Judged Good' Fails' (Err r)
judged_below Good Fails Good' Fails' n (Bad inner) (Bad outer) (p, q) f h = subst₂ Fails' (sym p) (sym q) (f inner.path.items (step_reason_view inner.reason) h)
judged_below Good Fails Good' Fails' n NoMemory (Bad outer) is f h = absurd is
judged_below Good Fails Good' Fails' n (Bad inner) NoMemory is f h = tt
judged_below Good Fails Good' Fails' n NoMemory NoMemory is f h = tt
