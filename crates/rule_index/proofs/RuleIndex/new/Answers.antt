use Rattle.std.proofs.Common.{ap, ◌∙◌, length}
use Rattle.rule_index.proofs.Systems.{roots_of_system}
use Rattle.rule_index.proofs.RuleIndex.new.Goals as goal

pub add_rules-requires-clause-roots : goal.add_rules-requires-clause-roots
add_rules-requires-clause-roots c =
    roots_of_system c.args.sys.now _ _ c.rules.ensures.sound c.rules.ensures.rules
    (ap length c.deref_mut.ensures.value ∙ c.in_ok-buckets.ensures.count ∙ ap length c.arities.ensures)
