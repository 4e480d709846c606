-- Errors and their paths.
use Rattle.std.specs.Prelude.{◌≡◌, ℕ, List, [], ◌∷◌, Result, Ok, Err}
use Rattle.certificates.specs.Reasons.{StepReason}
use Rattle.cert_model.specs.ReasonView.{step_reason_view}
use Rattle.derivation.specs.declared.errors.ReplayError.{ReplayError}
use Rattle.derivation.specs.declared.errors.ReplayError.TheVariants.{Bad, NoMemory}

-- a good answer, or the path and the reason of a bad step
abbrev pub Judged : {T : Type 0} → (T → Type 0) → (List ℕ → StepReason → Type 0) → Result T ReplayError → Type 0
Judged Good Fails (Ok u) = Good u
Judged Good Fails (Err (Bad bad)) = Fails bad.path.items (step_reason_view bad.reason)
Judged Good Fails (Err NoMemory) = Unit {0}

-- the reason, with an empty path
abbrev pub IsHere : StepReason → ReplayError → Type 0
IsHere reason (Bad bad) = (bad.path.items ≡ []) × (step_reason_view bad.reason ≡ reason)
IsHere reason NoMemory = ⊥

-- the error with a number before its path
abbrev pub IsBelow : ℕ → ReplayError → ReplayError → Type 0
IsBelow n (Bad inner) (Bad outer) = (outer.path.items ≡ n ∷ inner.path.items) × (step_reason_view outer.reason ≡ step_reason_view inner.reason)
IsBelow n NoMemory (Bad outer) = ⊥
IsBelow n _ NoMemory = Unit {0}
