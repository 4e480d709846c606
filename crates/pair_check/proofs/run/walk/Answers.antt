use Rattle.std.proofs.Common.{subst, sym, ◌++◌, ◌∷◌, [], Ok}
use Rattle.critical_pairs.specs.Offers.{PassAnswers}
use Rattle.term_core.proofs.Rules.{handed_on}
use Rattle.critical_pairs.proofs.Whole.{one_more, list_refused}
use Rattle.pair_check.specs.Steps.{WalkAnswers}
use Rattle.pair_check.proofs.Running.{walked}
use Rattle.pair_check.proofs.run.walk.Goals as goal

pub returns-in_err-pass : goal.returns-in_err-pass
returns-in_err-pass c =
    let (os, held) = c.overlaps.invariant in
    subst (WalkAnswers c.args.sys.now) (sym (handed_on _ _ c.from_residual.ensures.1))
    (list_refused c.args.sys.now c.overlaps.search os held c.in_err-pass.field-0.0 c.in_err-pass.ensures.answer)

pub overlaps-preserved : goal.overlaps-preserved
overlaps-preserved c =
    let (os, held) = c.overlaps.invariant in
    let (o, offered) = subst (λ z. PassAnswers c.overlaps.search c.pass.new.self (Ok z)) c.if-branch.true c.in_ok-pass.ensures.answer in
    (os ++ o ∷ [], one_more c.args.sys.now c.overlaps.search os held c.pass.new.self o c.pass.ensures.system offered)

pub returns : goal.returns
returns c =
    let (os, held) = c.overlaps.invariant in
    let done = subst (λ z. PassAnswers c.overlaps.search c.pass.new.self (Ok z)) c.if-branch.false c.in_ok-pass.ensures.answer in
    (os, walked c.args.sys.now c.overlaps.search c.pass.new.self os held done)
