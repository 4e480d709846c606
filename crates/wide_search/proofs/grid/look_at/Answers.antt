use Rattle.std.proofs.Common.{map}
use Rattle.cert_model.specs.CertificateView.{linear_entry_view}
use Rattle.grid_search.proofs.Standing.{unknown_alive}
use Rattle.wide_search.proofs.Prefixes.{found_alive, some_left}
use Rattle.wide_search.proofs.grid.look_at.Goals as goal

pub returns-in-Unknown-2 : goal.returns-in-Unknown-2
returns-in-Unknown-2 c =
    let sys = c.args.judge.now in
    let es = map linear_entry_view c.args.prefix.now in (
      found_alive sys es c.requires (unknown_alive sys es c.in_ok-judge_last.field-0 c.in-Unknown.is c.in_ok-judge_last.ensures),
      some_left sys c.args.prefix.now c.heads.result.now c.heads.ensures.heads c.requires c.if-whole.false,
    )
