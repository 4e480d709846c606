use Rattle.check_cases.proofs.Ones.{no_entry}
use Rattle.check_cases.proofs.prefixes.print_prefixes.Goals as goal

pub answers-requires : goal.answers-requires
answers-requires c = no_entry c.args.sys.now c.in-Ok.unraveled c.rules-own_rules.ensures.sound c.in-Ok.ensures
