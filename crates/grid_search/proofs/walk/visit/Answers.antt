use Rattle.std.proofs.Common.{map}
use Rattle.cert_model.specs.CertificateView.{linear_entry_view}
use Rattle.grid_search.proofs.Walking.{is_prefix, is_alive_before}
use Rattle.grid_search.proofs.Standing.{unknown_alive, some_left, good_seen}
use Rattle.grid_search.proofs.walk.visit.Goals as goal

pub judge_last-requires-clause-prefix : goal.judge_last-requires-clause-prefix
judge_last-requires-clause-prefix c = is_prefix c.args.judge.now (map linear_entry_view c.args.prefix.now) c.requires.0 c.requires.1

pub judge_last-requires-clause-alive : goal.judge_last-requires-clause-alive
judge_last-requires-clause-alive c = is_alive_before c.args.judge.now (map linear_entry_view c.args.prefix.now) c.requires.0 c.requires.1

pub returns-in-Unknown : goal.returns-in-Unknown
returns-in-Unknown c = (
  unknown_alive c.args.judge.now (map linear_entry_view c.args.prefix.now) c.in_ok-judge_last.field-0 c.in-Unknown.is c.in_ok-judge_last.ensures,
  some_left c.args.judge.now c.args.prefix.now c.heads.result.now c.heads.ensures.heads c.requires.0 c.requires.1 c.if-not-whole.true,
)

pub returns-in-Unknown-2 : goal.returns-in-Unknown-2
returns-in-Unknown-2 c =
    good_seen c.args.judge.now c.args.prefix.now c.heads.result.now c.heads.ensures.heads c.requires.0 c.requires.1 c.heads.ensures.sound c.heads.ensures.fits
    c.in_ok-judge_last.field-0 c.in-Unknown.is c.in_ok-judge_last.ensures
    c.if-not-whole.false
