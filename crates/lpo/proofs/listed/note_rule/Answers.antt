use Rattle.std.proofs.lemmas.Result.{on_ok_weaker}
use Rattle.term_core.specs.View.{view}
use Rattle.lpo.specs.Listed.{HasSymbol}
use Rattle.lpo.proofs.Noting.{noted_both}
use Rattle.lpo.proofs.listed.note_rule.Goals as goal

pub returns : goal.returns
returns c =
    on_ok_weaker c.note_term-2.result
    (λ h. noted_both c.args.number (λ f. HasSymbol f (view c.args.rule.now.left)) (λ f. HasSymbol f (view c.args.rule.now.right)) c.args.lists.now c.note_term.new.lists
    c.note_term-2.new.lists c.in_ok-note_term.ensures h)
    c.note_term-2.ensures
