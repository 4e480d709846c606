use Rattle.std.proofs.Common.{◌+◌, map, refl}
use Rattle.term_core.specs.RuleView.{rule_view}
use Rattle.cert_model.specs.CertificateView.{linear_entry_view}
use Rattle.linear_interp.proofs.Judging.{overflows_left, overflows_right}
use Rattle.linear_interp.proofs.rules.judge_rule.Goals as goal

pub returns-in-None : goal.returns-in-None
returns-in-None c =
    let sums = c.in_ok-sums.ensures in
    (refl, overflows_left (map linear_entry_view c.args.entries.now) (rule_view c.args.rule.now) (c.args.rule.now.vars + 1) c.in_ok-sums.field-0 c.in-None.is sums)

pub returns-in-None-2 : goal.returns-in-None-2
returns-in-None-2 c =
    let sums = c.in_ok-sums-2.ensures in
    (refl, overflows_right (map linear_entry_view c.args.entries.now) (rule_view c.args.rule.now) (c.args.rule.now.vars + 1) c.in_ok-sums-2.field-0 c.in-None-2.is sums)
