use Rattle.std.proofs.Common.{arith}
use Rattle.cops_read.proofs.Sound.{few_listed, listed_rules}
use Rattle.cops_read.proofs.Meant.{few_names, trees_long, listed_symbols, listed_fit}
use Rattle.cops_read.proofs.files.join_list.Goals as goal

pub add_join_names-requires-clause-few : goal.add_join_names-requires-clause-few
add_join_names-requires-clause-few c = few_names c.requires.0 c.args.list c.args.names c.requires.1

pub add_join_names-requires-clause-symbols : goal.add_join_names-requires-clause-symbols
add_join_names-requires-clause-symbols c = let h = listed_symbols c.requires.0 c.args.list c.args.names c.requires.1 in omega (arith, h)

pub add_join_names-requires-clause-rules : goal.add_join_names-requires-clause-rules
add_join_names-requires-clause-rules c = let h = trees_long c.requires.0 c.args.list c.args.names c.requires.1 in omega (arith, h)

pub join_sound-requires-clause-fit : goal.join_sound-requires-clause-fit
join_sound-requires-clause-fit c = listed_fit c.requires.0 c.args.list c.args.names c.requires.1

pub join_sound-requires-clause-few_symbols : goal.join_sound-requires-clause-few_symbols
join_sound-requires-clause-few_symbols c = few_listed c.requires.0 c.args.list c.args.names c.requires.1

pub join_sound-requires-clause-few_rules : goal.join_sound-requires-clause-few_rules
join_sound-requires-clause-few_rules c = listed_rules c.requires.0 c.args.list c.args.names c.requires.1
