use Rattle.std.proofs.Common.{◌∙◌, ◌+◌, ◌++◌, List, sym, ap, arith}
use Rattle.rewriting.specs.Rules.{Rule}
use Rattle.generated_systems.specs.Generated.{rules_for}
use Rattle.generator.proofs.Ranges.{one_number_more}
use Rattle.generator.proofs.rules.rules_of.Goals as goal

pub rules-preserved : goal.rules-preserved
rules-preserved c = record {
  rules = c.in_ok-push_rules.ensures.rules ∙ ap (λ (rs : List Rule). rs ++ rules_for c.rules.k) c.rules.invariant.rules
      ∙ sym (one_number_more rules_for 0 c.rules.k c.rules.k (c.rules.k + 1) (omega arith) (omega arith));
  counted = c.in_ok-push_rules.ensures.counted c.rules.invariant.counted;
}
