use Rattle.std.proofs.lemmas.Result.{on_ok_weaker}
use Rattle.lpo.proofs.Noting.{noted_argument, noted_symbol}
use Rattle.lpo.proofs.listed.+note.Goals as goal

pub note_term-returns-in_ok-note_symbol-in-Fun : goal.note_term-returns-in_ok-note_symbol-in-Fun
note_term-returns-in_ok-note_symbol-in-Fun t c =
    on_ok_weaker c.note_terms.result
    (λ h.
    noted_symbol c.args.number c.args.t.now c.in-Fun.f c.in-Fun.args c.deref.result.now c.args.lists.now c.note_symbol.new.lists c.note_terms.new.lists c.in-Fun.is c.deref.ensures.value
    c.in_ok-note_symbol-in-Fun.ensures h)
    c.note_terms.ensures

pub note_terms-returns-in_ok-note_term-in-len1-up : goal.note_terms-returns-in_ok-note_term-in-len1-up
note_terms-returns-in_ok-note_term-in-len1-up t c =
    on_ok_weaker c.note_terms.result
    (λ h.
    noted_argument c.args.number c.args.ts.now c.first-item.result c.args.lists.now c.note_term.new.lists c.note_terms.new.lists c.in-len1-up.len_at_least c.first-item.is
    c.in_ok-note_term-in-len1-up.ensures h)
    c.note_terms.ensures
