use Rattle.std.proofs.Common.{subst, sym}
use Rattle.valid_certificates.specs.Entries.{DoNotSettle}
use Rattle.pair_check.proofs.Stands.{finished_failed, finished_missing, finished_all}
use Rattle.pair_check.proofs.run.PairRun.finish.Goals as goal

pub returns-in-Some : goal.returns-in-Some
returns-in-Some c = finished_failed c.self.inside c.args.self c.self.view_is c.in-Some.reason c.in-Some.is

pub returns-in-Some-next : goal.returns-in-Some-next
returns-in-Some-next c = λ es h.
    subst (DoNotSettle c.args.self.kind c.args.self.system es) (sym c.missing.ensures)
    (finished_missing c.self.inside c.self.invariant c.in_default.is c.args.self c.self.view_is c.in-Some-next.overlap c.in-Some-next.is es h)

pub returns : goal.returns
returns c = finished_all c.self.inside c.self.invariant c.in_default.is c.args.self c.self.view_is c.in-None.is
