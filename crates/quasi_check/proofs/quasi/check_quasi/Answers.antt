use Rattle.std.proofs.Common.{[], ◌∙◌, subst}
use Rattle.rewriting.specs.Confluence.{IsConfluent}
use Rattle.cert_model.specs.ReasonView.{rejected_view}
use Rattle.valid_certificates.specs.Confluence.{IsValidQuasi, IsQuasiRejected}
use Rattle.tallies.specs.Tally.{IsQuasiTally}
use Rattle.pair_check.proofs.RunTallies.{entry_short}
use Rattle.quasi_check.proofs.Runs.{of_whole, loop_goes_on}
use Rattle.quasi_check.proofs.quasi.check_quasi.Goals as goal

pub loop-entry-init : goal.loop-entry-init
loop-entry-init g c =
    let same = c.in_ok-prepared.ensures ∙ c.in_ok-indexed.ensures in
    record {
      system = c.in_ok-run.ensures.system ∙ same;
      measure = c.in_ok-run.ensures.measure;
      tally = subst (λ s. IsQuasiTally (g.M.Measure.judged c.args.measure.now s) s [] c.in_ok-run.run'.tally) same c.in_ok-run.ensures.tally;
    }

pub take-requires : goal.take-requires
take-requires g c =
    record { short = entry_short c.args.pairs.now c.loop-entry.entry-index c.entry-item.result c.loop-entry-test.true c.entry-item.is c.requires.short }

pub returns-in-Ok-clause-judged : goal.returns-in-Ok-clause-judged
returns-in-Ok-clause-judged g c =
    of_whole g.M.Measure.judged c.loop-entry.run c.args.sys.now c.args.measure.now c.args.pairs.now c.loop-entry.entry-index c.loop-entry-test.false c.loop-entry.invariant.system
    c.loop-entry.invariant.measure c.loop-entry.invariant.tally IsValidQuasi c.in-Ok.ensures.judged

pub returns-in-Ok-clause-confluent : goal.returns-in-Ok-clause-confluent
returns-in-Ok-clause-confluent g c = subst IsConfluent c.loop-entry.invariant.system c.in-Ok.ensures.confluent

pub returns-clause-judged : goal.returns-clause-judged
returns-clause-judged g c =
    of_whole g.M.Measure.judged c.loop-entry.run c.args.sys.now c.args.measure.now c.args.pairs.now c.loop-entry.entry-index c.loop-entry-test.false c.loop-entry.invariant.system
    c.loop-entry.invariant.measure c.loop-entry.invariant.tally (λ Is s es. IsQuasiRejected Is s es (rejected_view c.in-Err.reason)) c.in-Err.ensures.judged

pub loop-entry-preserved : goal.loop-entry-preserved
loop-entry-preserved g c =
    loop_goes_on g.M.Measure.judged c.loop-entry.run c.args.sys.now c.args.measure.now c.args.pairs.now c.loop-entry.entry-index c.entry-item.result c.loop-entry.invariant.system
    c.loop-entry.invariant.measure c.loop-entry.invariant.tally c.loop-entry-test.true c.entry-item.is c.take.new.self c.in_ok-take.ensures.system
    c.in_ok-take.ensures.measure c.in_ok-take.ensures.tally
