use Rattle.prepared_system.proofs.Rooms.{rule_has_room}
use Rattle.prepared_system.proofs.renaming.rename_rules.Goals as goal

pub rename_rule-requires : goal.rename_rule-requires
rename_rule-requires c = rule_has_room _ c.args.add _ c.loop-rule.rule-index _ c.requires.small c.loop-rule-test.true c.rule-item.is c.requires.rules
