-- Parts of lists by number, seen through what they stand for.
use Rattle.std.proofs.Common.{◌≡◌, ℕ, List, slice_get, Option, Some, None, IfSome, option_map, Bor, sym}
use Rattle.rewriting.specs.Prelude.{Rule, System, sides, IsRule, IsSystem, Each, Fits, cons}
use Rattle.rewriting.proofs.Systems.{is_rule_at}
use Rattle.certificates.proofs.Sizes.{conditions_fit}
use Rattle.term_core.specs.declared.systems.Rule as program
use Rattle.term_core.specs.RuleView.{rule_view}
use Rattle.derivation.specs.Judged.{IsJudgable}

judgable_rule : (arities : List ℕ) (r : Rule) → IsRule arities r → IsJudgable r
judgable_rule arities r good = parts good.fits
  where
    parts : Each Fits (cons r.left (cons r.right (sides r.conditions))) → IsJudgable r
    parts (left, (right, rest)) = record { right = right; conditions = conditions_fit r.conditions rest; few = good.few_conditions }

-- the rules that a system has may be judged
pub judgable : (sys : System) (i : ℕ) (o : Option (Bor program.Rule)) → IsSystem sys → option_map (λ r. rule_view r.now) o ≡ slice_get sys.rules i → IfSome o (λ r. IsJudgable (rule_view r.now))
judgable sys i None good e = tt
judgable sys i (Some r) good e = judgable_rule sys.arities (rule_view r.now) (is_rule_at sys.arities sys.rules i (rule_view r.now) good.rules (sym e))
