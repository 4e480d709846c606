-- What the parts of the run answer, each over the bindings before and after it.
use Rattle.std.specs.Prelude.{ℕ, ◌≡◌, ◌<◌, ◌⊎◌, true, false, List, [], ◌∷◌, map, length, Result, Ok, Err}
use Rattle.rewriting.specs.Terms as math
use Rattle.rewriting.specs.Prelude.{Terms, var, apply, occurs, append}
use Rattle.unifier_run.specs.Run.{Binding, value, extended, DoAllFit, Outcome, clash, too_large, Runs}
use Rattle.term_core.specs.View.{view}
use Rattle.term_core.specs.declared.terms.NoMemory.{NoMemory}
use Rattle.unifier_run.specs.Laws.{as_map}
use Rattle.unification.specs.declared.Unified.{Unified}
use Rattle.unification.specs.declared.Unified.TheVariants.{Mgu, Clash as NoUnifier, TooLarge as PassesSize}
use Rattle.unification.specs.declared.bound.Bound.{Bound}
use Rattle.unification.specs.declared.solving.Progress.{Progress}
use Rattle.unification.specs.declared.solving.Progress.TheVariants.{Solved, Clash, TooLarge}

-- a term that is no bound variable
abbrev pub IsHead : List Binding → math.Term → Type 0
IsHead b t = (x : ℕ) → t ≡ var x → value b x ≡ var x

-- the bindings b, and then each further one in turn, with the instance of its term
abbrev pub bound_in_turn : List Binding → List Binding → List Binding
bound_in_turn b [] = b
bound_in_turn b (e ∷ es) = bound_in_turn (extended b e.variable (apply (value b) e.term)) es

-- a free variable may be bound to a term that is no bound variable, and whose instance does not hold the variable
pub record MayBind (b : List Binding) (e : Binding) : Type 0 where
  pub free : value b e.variable ≡ var e.variable
  pub head : IsHead b e.term
  pub apart : occurs e.variable (apply (value b) e.term) ≡ false

abbrev pub MayBindInTurn : List Binding → List Binding → Type 0
MayBindInTurn b [] = Unit {0}
MayBindInTurn b (e ∷ es) = MayBind b e × MayBindInTurn (extended b e.variable (apply (value b) e.term)) es

-- a variable that occurs in no bound term, as these stand
abbrev pub IsNewTo : ℕ → List Binding → Type 0
IsNewTo x [] = Unit {0}
IsNewTo x (e ∷ es) = (occurs x e.term ≡ false) × IsNewTo x es

-- a variable with the term that it was bound to, as that stands in a side of an equation
abbrev pub shared : Bound → Binding
shared e = record { variable = e.variable; term = view e.term.now }

-- the bindings that they make
abbrev pub bindings : List Bound → List Binding
bindings es = bound_in_turn [] (map shared es)

-- each of them could be bound when it was
abbrev pub AreInTurn : List Bound → Type 0
AreInTurn es = MayBindInTurn [] (map shared es)

-- bound variables occur in no bound term, and every bound term fits
pub record IsGood (b : List Binding) : Type 0 where
  pub settled : (x : ℕ) → value b x ≡ apply (value b) (value b x)
  pub fit : DoAllFit b

-- the equations ts = us are solved: what remains of a run goes on with the bindings c
pub record AreSolved (b c : List Binding) (ts us : Terms) : Type 0 where
  pub runs : (vs ws : Terms) (o : Outcome) → Runs c vs ws o → Runs b (append ts vs) (append us ws) o
  pub grown : (c ≡ b) ⊎ (length b < length c)
  pub good : IsGood c

-- a run that has the equations ts = us before it ends so
abbrev pub DoesEnd : List Binding → Terms → Terms → Outcome → Type 0
DoesEnd b ts us o = (vs ws : Terms) → Runs b (append ts vs) (append us ws) o

abbrev pub SolveAnswers : List Binding → List Binding → Terms → Terms → Result Progress NoMemory → Type 0
SolveAnswers b c ts us (Ok Solved) = AreSolved b c ts us
SolveAnswers b c ts us (Ok Clash) = DoesEnd b ts us clash
SolveAnswers b c ts us (Ok TooLarge) = DoesEnd b ts us too_large
SolveAnswers b c ts us (Err e) = Unit {0}

-- x is bound to v, the instance of a term
abbrev pub BindAnswers : List Binding → List Binding → ℕ → math.Term → Result Progress NoMemory → Type 0
BindAnswers b c x v (Ok Solved) = (occurs x v ≡ false) × (c ≡ extended b x v) × DoAllFit c
BindAnswers b c x v (Ok Clash) = occurs x v ≡ true
BindAnswers b c x v (Ok TooLarge) = (occurs x v ≡ false) × (DoAllFit (extended b x v) → ⊥)
BindAnswers b c x v (Err e) = Unit {0}

-- what is answered where a run has come to an end with these bindings
abbrev pub OutcomeAnswers : List Binding → Progress → Result Unified NoMemory → Type 0
OutcomeAnswers b Solved (Ok (Mgu s)) = s ≡ as_map b
OutcomeAnswers b Solved (Ok NoUnifier) = ⊥
OutcomeAnswers b Solved (Ok PassesSize) = ⊥
OutcomeAnswers b Clash (Ok (Mgu s)) = ⊥
OutcomeAnswers b Clash (Ok NoUnifier) = Unit {0}
OutcomeAnswers b Clash (Ok PassesSize) = ⊥
OutcomeAnswers b TooLarge (Ok (Mgu s)) = ⊥
OutcomeAnswers b TooLarge (Ok NoUnifier) = ⊥
OutcomeAnswers b TooLarge (Ok PassesSize) = Unit {0}
OutcomeAnswers b p (Err e) = Unit {0}
