use Rattle.std.proofs.Common.{◌∙◌, sym}
use Rattle.ari_text.proofs.Cursor.{next_word}
use Rattle.ari_text.proofs.reader.Reader.next.Goals as goal

pub returns-clause-word : goal.returns-clause-word
returns-clause-word c =
    let x = c.in_ok-word.ensures.lookup in
    sym c.self.view_is ∙ next_word c.self.inside.words.items c.deref.result.now c.self.inside.at c.in_ok-word.field-0.now c.deref.ensures.value x.3.0 x.1
