use Rattle.ari_text.proofs.Spelt.{name_sign}
use Rattle.ari_text.proofs.words.name_word.Goals as goal

pub returns-in-Ok-from_utf8 : goal.returns-in-Ok-from_utf8
returns-in-Ok-from_utf8 c = name_sign c.args.name.now c.in-Ok-from_utf8.text.now c.in-Ok.tokens.items c.in-Ok.ensures (rw c.deref.ensures.value at c.if-not-is_one_name.ensures)
    c.in-Ok-from_utf8.ensures.cases.0
