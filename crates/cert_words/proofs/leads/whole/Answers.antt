use Rattle.cert_words.proofs.Prelude.{bare, ap, sym, ◌∙◌, Mode, scan, is_word}
use Rattle.cert_grammar.specs.FirstRefusal.{ends_here}
use Rattle.cert_words.proofs.Fronts.{is_front}
use Rattle.cert_words.proofs.leads.whole.Goals as goal

pub returns : goal.returns
returns c =
    let bytes = c.args.left.now in
    let size = c.scan-size.ensures.size ∙ ap (λ (m : Mode). (scan m bytes).size) c.mode_of.ensures in
    let mode = c.scan-size.ensures.mode ∙ ap (λ (m : Mode). (scan m bytes).mode) c.mode_of.ensures in
    is_front (bare c.args.lead.now) bytes _ c.requires (sym (ap is_word mode) ∙ sym c.is_word.ensures ∙ c.if-not-is_word.false) size c.scan-size.ensures.within
    (ap ends_here (sym c.split_at.ensures.back) ∙ sym c.ends_here.ensures ∙ c.if-not-ends_here.false)
