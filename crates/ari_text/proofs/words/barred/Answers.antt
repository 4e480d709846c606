use Rattle.std.proofs.Common.{refl}
use Rattle.ari_text.proofs.Spelt.{barred_piece}
use Rattle.ari_text.proofs.words.barred.Goals as goal

pub returns : goal.returns
returns c = barred_piece c.args.inside.now c.in_ok-name.name.now c.in_ok-word.word _ c.in_ok-name.ensures c.in_ok-word.ensures refl
