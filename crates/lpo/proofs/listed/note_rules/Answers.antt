use Rattle.std.proofs.Common.{◌≡◌, length, map, subst, arith}
use Rattle.general_lemmas.proofs.Places.{slice_get-map_read}
use Rattle.term_core.specs.RuleView.{rule_view}
use Rattle.lpo.specs.Listed.{AreListed}
use Rattle.lpo.proofs.Noting.{none_listed, one_listed}
use Rattle.lpo.proofs.listed.note_rules.Goals as goal

pub rules-init : goal.rules-init
rules-init c = none_listed (map rule_view c.args.rules.now) c.args.lists.now c.requires.empty

pub rules-preserved : goal.rules-preserved
rules-preserved c =
    one_listed (map rule_view c.args.rules.now) c.rules.i (rule_view c.index-rules-i.result) c.rules.lists c.note_rule.new.lists c.rules.invariant
    (slice_get-map_read rule_view c.args.rules.now c.rules.i c.index-rules-i.result c.rules-test.true c.index-rules-i.is) c.in_ok-note_rule.ensures

pub returns-clause-listed : goal.returns-clause-listed
returns-clause-listed c =
    let all : c.rules.i ≡ length c.args.rules.now = (let most = c.rules.auto.i-end in let end = c.rules-test.false in omega (arith, most, end)) in
    subst (λ k. AreListed (map rule_view c.args.rules.now) k c.rules.lists) all c.rules.invariant
