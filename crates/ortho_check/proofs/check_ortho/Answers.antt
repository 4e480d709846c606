use Rattle.std.proofs.Common.{[], ◌∙◌, subst}
use Rattle.cert_model.specs.ReasonView.{rejected_view}
use Rattle.level_theorem.specs.AlmostOrthogonal.{DoLevelsCommute}
use Rattle.rewriting.specs.Confluence.{IsConfluent}
use Rattle.valid_certificates.specs.Confluence.{IsValidOrtho, IsOrthoRejected}
use Rattle.tallies.specs.Tally.{IsOrthoTally}
use Rattle.pair_check.proofs.RunTallies.{entry_short}
use Rattle.ortho_check.proofs.Runs.{of_whole}
use Rattle.ortho_check.proofs.check_ortho.Goals as goal

pub loop-entry-init : goal.loop-entry-init
loop-entry-init c =
    let same = c.in_ok-prepared.ensures ∙ c.in_ok-indexed.ensures in
    record { system = c.in_ok-run.ensures.system ∙ same; tally = subst (λ s. IsOrthoTally s [] c.in_ok-run.run'.tally) same c.in_ok-run.ensures.tally }

pub take-requires : goal.take-requires
take-requires c =
    record { short = entry_short c.args.pairs.now c.loop-entry.entry-index c.entry-item.result c.loop-entry-test.true c.entry-item.is c.requires.short }

pub returns-in-Ok-clause-judged : goal.returns-in-Ok-clause-judged
returns-in-Ok-clause-judged c =
    of_whole c.loop-entry.run c.args.sys.now c.args.pairs.now c.loop-entry.entry-index c.loop-entry-test.false c.loop-entry.invariant.system c.loop-entry.invariant.tally
    IsValidOrtho c.in-Ok.ensures.judged

pub returns-in-Ok-clause-levels : goal.returns-in-Ok-clause-levels
returns-in-Ok-clause-levels c = subst DoLevelsCommute c.loop-entry.invariant.system c.in-Ok.ensures.levels

pub returns-in-Ok-clause-confluent : goal.returns-in-Ok-clause-confluent
returns-in-Ok-clause-confluent c = subst IsConfluent c.loop-entry.invariant.system c.in-Ok.ensures.confluent

pub returns-clause-judged : goal.returns-clause-judged
returns-clause-judged c =
    of_whole c.loop-entry.run c.args.sys.now c.args.pairs.now c.loop-entry.entry-index c.loop-entry-test.false c.loop-entry.invariant.system c.loop-entry.invariant.tally
    (λ s es. IsOrthoRejected s es (rejected_view c.in-Err.reason)) c.in-Err.ensures.judged
