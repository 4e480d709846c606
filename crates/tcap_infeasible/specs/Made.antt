-- Rigid caps that were made before, and what comparing two of them answers.
use Rattle.std.specs.Prelude.{ℕ, ◌≡◌, ◌<◌, Bool, true, false, List}
use Rattle.rewriting.specs.Prelude.{Term, var, Fits, occurs, System}
use Rattle.unifier_run.specs.Run.{Binding, unifier, clash}
use Rattle.caps.specs.Caps.{Cap, kept, filled, IsCapOf}
use Rattle.caps.specs.Evidence.{IsRigidOutcome}

-- u is the rigid cap of t with holes from n on, which are no variables of t
pub record IsMadeCap (sys : System) (n : ℕ) (t u : Term) : Type 0 where
  pub fits : Fits t
  pub below : (x : ℕ) → occurs x t ≡ true → x < n
  pub cap : Cap
  pub is_cap : IsCapOf sys kept t cap
  pub shown : u ≡ filled var n cap

-- whether the run for the rigid caps of two terms ends in a clash; else it gives a unifier
abbrev pub MadeAnswers : System → Term → Term → Bool → Type 0
MadeAnswers sys u v true = IsRigidOutcome sys u v clash
MadeAnswers sys u v false = (b : List Binding) × IsRigidOutcome sys u v (unifier b)
