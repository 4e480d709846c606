use Rattle.std.proofs.Common.{IsTrue, ◌<◌, arith, length, subst}
use Rattle.std.proofs.lemmas.Bool.{false≢true}
use Rattle.unification.proofs.Found.{next_fits, one_fits}
use Rattle.unification.proofs.bound.do_fit_under.Goals as goal

pub returns-then-not-fits_under : goal.returns-then-not-fits_under
returns-then-not-fits_under c =
    let i = c.loop-i.i in
    let within : i < length c.args.found.now = omega (arith, c.requires.count, c.loop-i-test.true) in (
      λ e. absurd (false≢true e),
      λ h. subst IsTrue c.if-not-fits_under.true
          (c.fits_under.ensures.1 (one_fits c.args.found.now i c.args.count c.index-found-i.result c.requires.turns within c.index-found-i.is c.loop-i-test.true h)),
    )

pub loop-i-preserved : goal.loop-i-preserved
loop-i-preserved c =
    let i = c.loop-i.i in
    let within : i < length c.args.found.now = omega (arith, c.requires.count, c.loop-i-test.true) in
    next_fits c.args.found.now i c.index-found-i.result c.requires.turns within c.index-found-i.is c.loop-i.invariant (c.fits_under.ensures.0 c.if-not-fits_under.false)
