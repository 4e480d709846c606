use Rattle.ari_text.proofs.Spelt.{bare_piece}
use Rattle.ari_text.proofs.words.bare.Goals as goal

pub returns : goal.returns
returns c = bare_piece c.args.rest.now c.split_at.result.0.now c.in_ok-word.word c.bare_len-len.result c.bare_len-len.ensures c.if-len-eq0.false c.split_at.ensures.front c.in_ok-word.ensures
