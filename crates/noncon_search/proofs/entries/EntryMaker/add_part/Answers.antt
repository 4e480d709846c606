use Rattle.std.proofs.Common.{Ok, true, false, map, get_or, refl}
use Rattle.term_core.specs.View.{view}
use Rattle.cert_model.specs.CertificateView.{redex_view}
use Rattle.rule_index.specs.Parts.{part}
use Rattle.rule_index.proofs.Numbers.{number_some}
use Rattle.noncon_search.proofs.Adding.{next_added, next_fails, last_added}
use Rattle.noncon_search.proofs.entries.EntryMaker.add_part.Goals as goal

pub add_rule-requires-clause-number : goal.add_rule-requires-clause-number
add_rule-requires-clause-number c = number_some c.args.self.now.sys.now (view c.args.part.now) _ _ c.rules_at-numbers.ensures c.rules-test.true

pub returns-then-not-branch : goal.returns-then-not-branch
returns-then-not-branch c =
    let ns = c.rules_at-numbers.result.now in
    let after = map redex_view c.add_rule.new.entries.items in
    c.rules.invariant after (Ok false)
    (next_fails c.args.self.now.sys.now c.args.self.now.own c.args.self.now.which (part c.args.path.now (view c.args.part.now)) ns c.rules.number-index
    (get_or ns c.rules.number-index 0) c.rules-test.true refl (map redex_view c.rules.entries.items) after after
    (rw c.if-not-branch.true at c.in_ok-add_rule.ensures))

pub rules-preserved : goal.rules-preserved
rules-preserved c after a h =
    let ns = c.rules_at-numbers.result.now in
    c.rules.invariant after a
    (next_added c.args.self.now.sys.now c.args.self.now.own c.args.self.now.which (part c.args.path.now (view c.args.part.now)) ns c.rules.number-index
    (get_or ns c.rules.number-index 0) c.rules-test.true refl (map redex_view c.rules.entries.items)
    (map redex_view c.add_rule.new.entries.items) after a (rw c.if-not-branch.false at c.in_ok-add_rule.ensures) h)

pub returns : goal.returns
returns c =
    let now = map redex_view c.rules.entries.items in
    c.rules.invariant now (Ok true)
    (last_added c.args.self.now.sys.now c.args.self.now.own c.args.self.now.which (part c.args.path.now (view c.args.part.now)) c.rules_at-numbers.result.now
    c.rules.number-index now c.rules-test.false)
