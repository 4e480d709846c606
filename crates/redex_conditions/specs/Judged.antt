-- The evidence for a redex of a term whose variables are 0 to n - 1: a rule's variables k without value become n + k.
use Rattle.std.specs.Prelude.{ℕ, ◌≡◌, ◌+◌, ◌⊎◌, List, Option, None, Some, unwrap_or, Result, Ok, Err, map}
use Rattle.std.specs.FinMap.{get, empty}
use Rattle.std.specs.Global.{Vec}
use Rattle.rewriting.specs.Terms as math
use Rattle.rewriting.specs.Prelude.{Term, var, Bindings, Substitution, IsLeastMatch, Condition, Rule, System, rule_at, conditions_under, Signature}
use Rattle.certificates.specs.Prelude.{InfeasibilityEvidence, RuleMatches, EvidenceReason, tcap_large, DoConditionsFit}
use Rattle.term_core.specs.Prelude.{condition_view}
use Rattle.term_core.specs.SystemView.{IsSound}
use Rattle.term_core.specs.declared.systems.Rule as program
use Rattle.term_core.specs.declared.systems.Cond.{Cond}
use Rattle.term_core.specs.declared.terms.NoMemory as memory
use Rattle.term_core.specs.declared.terms.TermError.{TermError}
use Rattle.term_core.specs.declared.terms.TermError.TheVariants.{NoPosition, TooLarge, NoMemory}
use Rattle.judged_evidence.specs.Evidence.{IsInfeasibilityJudged}
use Rattle.valid_certificates.specs.Peaks.{RedexPlace}

abbrev pub value_or_new : ℕ → ℕ → Option Term → Term
value_or_new n k o = unwrap_or o (var (n + k))

-- the values of a match, and new variables
abbrev pub match_or_new : ℕ → Bindings → Substitution
match_or_new n match k = value_or_new n k (get match k)

-- the rule is as some system has it
abbrev pub IsOfSystem : program.Rule → Type 0
IsOfSystem r = (arities : Signature) × IsSound arities r

-- the evidence is judged; conditions of which a side does not fit count as ones with a large cap
abbrev pub AreJudged : System → List Condition → InfeasibilityEvidence → Option EvidenceReason → Type 0
AreJudged sys cs evidence o = (DoConditionsFit cs × IsInfeasibilityJudged sys cs evidence o) ⊎ ((DoConditionsFit cs → ⊥) × (o ≡ Some tcap_large))

-- so it is for the conditions of a place's rule, which matches a part
pub record IsJudgedOn (sys : System) (n : ℕ) (part : Term) (r : RedexPlace) (evidence : InfeasibilityEvidence) (o : Option EvidenceReason) : Type 0 where
  pub rule : Rule
  pub match : Bindings
  pub is_rule : rule_at sys r.rule ≡ Some rule
  pub matches : IsLeastMatch empty match rule.left part
  pub judged : AreJudged sys (conditions_under (match_or_new n match) rule.conditions) evidence o

-- and for those of the rule that matches at the place in a term
pub record IsJudgedAt (sys : System) (n : ℕ) (t : Term) (r : RedexPlace) (evidence : InfeasibilityEvidence) (o : Option EvidenceReason) : Type 0 where
  pub rule : Rule
  pub match : Bindings
  pub matches : RuleMatches sys t r.rule r.position rule match
  pub judged : AreJudged sys (conditions_under (match_or_new n match) rule.conditions) evidence o

-- the instance of a condition, and of each of some conditions, where both sides fit
abbrev pub InstanceAnswers : Condition → Result Cond TermError → Type 0
InstanceAnswers c (Ok d) = (condition_view d ≡ c) × math.Fits c.left × math.Fits c.right
InstanceAnswers c (Err NoPosition) = ⊥
InstanceAnswers c (Err TooLarge) = math.Fits c.left → math.Fits c.right → ⊥
InstanceAnswers c (Err NoMemory) = Unit {0}

abbrev pub InstancesAnswer : List Condition → Result (Vec Cond) TermError → Type 0
InstancesAnswer cs (Ok ds) = (map condition_view ds.items ≡ cs) × DoConditionsFit cs
InstancesAnswer cs (Err NoPosition) = ⊥
InstancesAnswer cs (Err TooLarge) = DoConditionsFit cs → ⊥
InstancesAnswer cs (Err NoMemory) = Unit {0}

-- the conditions, if each side of each fits
abbrev pub ConditionsAnswer : List Condition → Result (Option (Vec Cond)) memory.NoMemory → Type 0
ConditionsAnswer cs (Ok (Some ds)) = (map condition_view ds.items ≡ cs) × DoConditionsFit cs
ConditionsAnswer cs (Ok None) = DoConditionsFit cs → ⊥
ConditionsAnswer cs (Err e) = Unit {0}
