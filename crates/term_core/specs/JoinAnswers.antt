-- What `join_system` and `with_rules` answer.
use Rattle.std.specs.Prelude.{◌≡◌, ◌+◌, ◌⊎◌, ℕ, map, List, ◌∷◌, ◌++◌, length, Result, Ok, Err}
use Rattle.rewriting.specs.Signatures.{Signature}
use Rattle.rewriting.specs.Rules as math
use Rattle.join_systems.specs.Joined.{joined}
pub use Rattle.join_systems.specs.Joined.{DoesJoinFit, DoJoinsFit, DoAllJoinsFit}
use Rattle.term_core.specs.RuleView.{rule_view}
use Rattle.term_core.specs.SystemView.{AreSound, IsFaultOf}
use Rattle.term_core.specs.declared.systems.Rule.{Rule}
use Rattle.term_core.specs.declared.systems.SystemFault.{SystemFault}
use Rattle.term_core.specs.declared.systems.SystemFault.TheVariants.{TooLarge}
use Rattle.term_core.specs.declared.joins.JoinError.{JoinError}
use Rattle.term_core.specs.declared.joins.JoinError.TheVariants.{Fault, NoMemory}

-- the rule with a number, from 1, has a condition whose join does not fit, and no rule before it has
pub record IsFirstLarge (rules : List math.Rule) (number : ℕ) : Type 0 where
  pub before : List math.Rule
  pub rule : math.Rule
  pub after : List math.Rule
  pub split : rules ≡ before ++ rule ∷ after
  pub numbered : number ≡ length before + 1
  pub fit_before : DoAllJoinsFit before
  pub large : DoJoinsFit rule.conditions → ⊥

abbrev pub FirstLargeAnswers : List math.Rule → Result (Unit {0}) SystemFault → Type 0
FirstLargeAnswers rules (Ok _) = DoAllJoinsFit rules
FirstLargeAnswers rules (Err fault) = (number : ℕ) × (fault ≡ TooLarge number) × IsFirstLarge rules number

-- the oriented system of the join rules; the fault that `make` has, or, where it has none, the first rule that is too large as a rule of that system
abbrev pub JoinAnswers : Signature → List Rule → Result math.System JoinError → Type 0
JoinAnswers arities rules (Ok s) = s ≡ joined (math.system_of arities (map rule_view rules))
JoinAnswers arities rules (Err (Fault fault)) =
    IsFaultOf arities rules fault ⊎ (AreSound arities rules × ((number : ℕ) × (fault ≡ TooLarge number) × IsFirstLarge (map rule_view rules) number))
JoinAnswers arities rules (Err NoMemory) = Unit {0}

-- the system with other rules, or their fault
abbrev pub WithRulesAnswers : math.System → List Rule → Result math.System JoinError → Type 0
WithRulesAnswers sys rules (Ok s) = s ≡ record { arities = sys.arities; rules = map rule_view rules; own = sys.own }
WithRulesAnswers sys rules (Err (Fault fault)) = IsFaultOf sys.arities rules fault
WithRulesAnswers sys rules (Err NoMemory) = Unit {0}
