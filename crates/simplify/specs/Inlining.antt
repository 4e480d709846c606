-- What inlining answers.
use Rattle.std.specs.Prelude.{ℕ, ◌≡◌, ◌++◌, List, map, length, slice_get, Some, Result, Ok, Err}
use Rattle.rewriting.specs.Prelude.{Condition, Rule, sides, Bindings, values_of, Each, terms_of_rule, rule_variables, Fits}
use Rattle.term_core.specs.RuleView.{rule_view}
use Rattle.term_core.specs.declared.systems.Rule as program
use Rattle.term_core.specs.declared.terms.TermError.{TermError}
use Rattle.term_core.specs.declared.terms.TermError.TheVariants.{NoPosition, TooLarge, NoMemory}
use Rattle.simplifications.specs.Inlining.{left_under, inlined_rule, numbered}

-- the conditions with the instances of their left sides are appended, where they fit
abbrev pub CondsAnswers : Bindings → List Condition → List Condition → List Condition → Result (Unit {0}) TermError → Type 0
CondsAnswers b cs old new (Ok _) = (new ≡ old ++ map (left_under (values_of b)) cs) × Each Fits (sides (map (left_under (values_of b)) cs))
CondsAnswers b cs old new (Err TooLarge) = Each Fits (sides (map (left_under (values_of b)) cs)) → ⊥
CondsAnswers b cs old new (Err NoPosition) = ⊥
CondsAnswers b cs old new (Err NoMemory) = Unit {0}

-- the rule without the condition
abbrev pub InlinedAnswers : Rule → ℕ → ℕ → Result program.Rule TermError → Type 0
InlinedAnswers r k x (Ok q) =
    (c : Condition) → slice_get r.conditions k ≡ Some c
    → (rule_view q ≡ numbered (inlined_rule r k c.left x)) × (q.vars ≡ length (rule_variables (rule_view q))) × Each Fits (terms_of_rule (inlined_rule r k c.left x))
InlinedAnswers r k x (Err TooLarge) = (c : Condition) → slice_get r.conditions k ≡ Some c → Each Fits (terms_of_rule (inlined_rule r k c.left x)) → ⊥
InlinedAnswers r k x (Err NoPosition) = ⊥
InlinedAnswers r k x (Err NoMemory) = Unit {0}
