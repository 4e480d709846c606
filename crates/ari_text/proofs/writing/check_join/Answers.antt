use Rattle.cops_read.proofs.Sound.{few_listed, listed_rules}
use Rattle.cops_read.proofs.Meant.{listed_fit}
use Rattle.ari_text.proofs.writing.check_join.Goals as goal

pub join_sound-requires : goal.join_sound-requires
join_sound-requires c = record {
  fit = listed_fit c.requires.0 c.args.list c.requires.1 c.requires.2;
  few_symbols = few_listed c.requires.0 c.args.list c.requires.1 c.requires.2;
  few_rules = listed_rules c.requires.0 c.args.list c.requires.1 c.requires.2;
}
