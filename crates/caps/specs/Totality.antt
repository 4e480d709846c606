-- Caps and what they show: for each question there is an answer.
use Rattle.std.specs.Prelude.{ℕ, ◌⊎◌, List, Option}
use Rattle.rewriting.specs.Prelude.{Term, Condition, System}
use Rattle.certificates.specs.Reasons.{EvidenceReason}
use Rattle.unifier_run.specs.Run.{Outcome}
use Rattle.caps.specs.Caps.{Cap, IsCapOf, IsCapLarge}
use Rattle.caps.specs.Evidence.{JudgedByCaps, IsPairOutcome}

-- a term has a cap, or a run inside passes the size
abbrev pub TermsHaveCaps : Type 0
TermsHaveCaps = (sys : System) (leaf : ℕ → Cap) (t : Term) → ((c : Cap) × IsCapOf sys leaf t c) ⊎ IsCapLarge sys leaf t

-- conditions have a judgement
abbrev pub ConditionsAreJudged : Type 0
ConditionsAreJudged = (sys : System) (cs : List Condition) → (o : Option EvidenceReason) × JudgedByCaps sys cs o

-- two terms have an outcome, or one of them has no cap
abbrev pub PairsHaveOutcomes : Type 0
PairsHaveOutcomes = (sys : System) (leaf : ℕ → Cap) (u v : Term) → ((o : Outcome) × IsPairOutcome sys leaf u v o) ⊎ (IsCapLarge sys leaf u ⊎ IsCapLarge sys leaf v)
