use Rattle.std.proofs.Common.{map}
use Rattle.cert_model.specs.CertificateView.{linear_entry_view}
use Rattle.interpretations.specs.Linear.{Falls}
use Rattle.linear_interp.proofs.Judging.{one_more, all_hold}
use Rattle.linear_interp.proofs.rules.judge_rules.Goals as goal

pub loop-i-preserved : goal.loop-i-preserved
loop-i-preserved c = one_more (Falls (map linear_entry_view c.args.entries.now)) c.args.rules.now c.loop-i.i c.index-rules-i.result c.loop-i.invariant c.loop-i-test.true
    c.index-rules-i.is c.in_ok-judge_rule.ensures

pub returns : goal.returns
returns c = all_hold (Falls (map linear_entry_view c.args.entries.now)) c.args.rules.now c.loop-i.i c.loop-i.invariant c.loop-i-test.false
