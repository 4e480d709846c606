use Rattle.ari_text.proofs.Spelt.{enclosed_there}
use Rattle.ari_text.proofs.words.enclosed.Goals as goal

pub returns : goal.returns
returns c = enclosed_there c.args.inside.now c.args.byte c.place_of-len.result c.split_at.result.0.now c.place_of-len.ensures c.if-len-inside.false c.split_at.ensures.front
