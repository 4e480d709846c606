-- The variables of a system's rules are few enough to be renamed.
use Rattle.std.proofs.Common.{ℕ, zero, suc, ◌≡◌, ◌<◌, ◌≤◌, List, [], ◌∷◌, map, length, get_or, sym, subst, arith}
use Rattle.rewriting.specs.Rules as math
use Rattle.rewriting.specs.Prelude.{Signature, terms_of_rule, rule_variables, IsRule, AreRules}
use Rattle.rewriting.proofs.Variables.{variables_have_all}
use Rattle.rewriting.proofs.Lists.{counted_below}
use Rattle.term_core.specs.RuleView.{rule_view}
use Rattle.term_core.specs.declared.systems.Rule.{Rule}
use Rattle.prepared_system.specs.Renamed.{HasRoom}

pub has_room : (arities : Signature) (add : ℕ) (r : math.Rule) → add ≤ 1 → IsRule arities r → HasRoom add (terms_of_rule r)
has_room arities add r small h k o =
    let below = counted_below 0 (rule_variables r) k h.numbered (variables_have_all k [] (terms_of_rule r) o) in
    let few = h.few_variables in
    omega (arith, below, few, small)

pub rule_has_room : (arities : Signature) (add : ℕ) (rs : List Rule) (i : ℕ) (r : Rule) → add ≤ 1 → i < length rs → r ≡ get_or rs i r → AreRules arities (map rule_view rs)
    → HasRoom add (terms_of_rule (rule_view r))
rule_has_room arities add [] i r small h e f = absurd (omega arith)
rule_has_room arities add (s ∷ rs) zero r small h e f = subst (λ z. HasRoom add (terms_of_rule (rule_view z))) (sym e) (has_room arities add (rule_view s) small f.0)
rule_has_room arities add (s ∷ rs) (suc i) r small h e f = rule_has_room arities add rs i r small (omega arith) e f.1
