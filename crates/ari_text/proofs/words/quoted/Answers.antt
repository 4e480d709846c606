use Rattle.std.proofs.Common.{refl}
use Rattle.ari_text.proofs.Spelt.{quoted_piece}
use Rattle.ari_text.proofs.words.quoted.Goals as goal

pub returns : goal.returns
returns c = quoted_piece c.args.inside.now c.in_ok-text.text.now c.args.at _ c.in_ok-text.ensures refl
