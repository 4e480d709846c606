use Rattle.std.proofs.Common.{List, map, take, sym, subst, subst₂}
use Rattle.general_lemmas.proofs.Places.{map-take_read}
use Rattle.term_core.specs.Prelude.{view, condition_view}
use Rattle.rewriting.specs.Rules.{Condition}
use Rattle.simplify.specs.Numbering.{AddsNumbered}
use Rattle.simplify.proofs.Placing.{placed, adds_none, adds_more}
use Rattle.simplify.proofs.Slices.{conditions_all, conditions_push}
use Rattle.simplify.proofs.numbering.push_numbered.Goals as goal

pub loop-cond-init : goal.loop-cond-init
loop-cond-init c = adds_none (map condition_view c.args.out.now.items) c.args.row.now

pub loop-cond-preserved : goal.loop-cond-preserved
loop-cond-preserved c =
    let a = c.in_ok-left.ensures in
    let b = c.in_ok-right.ensures in
    let i = c.loop-cond.cond-index in
    let more = map-take_read condition_view c.args.conds.now i c.cond-item.result c.loop-cond-test.true c.cond-item.is in
    let pushed = conditions_push c.loop-cond.out.items c.push.new.self.items _ c.in_ok-push.ensures.items in
    subst₂ (λ (cs es : List Condition). AddsNumbered cs (map condition_view c.args.out.now.items) c.args.row.now es c.numbered-in-loop-cond.new.self) (sym more) (sym pushed)
    (adds_more (map condition_view (take i c.args.conds.now)) (map condition_view c.args.out.now.items) (map condition_view c.loop-cond.out.items) c.args.row.now c.loop-cond.row
    c.numbered.new.self c.numbered-in-loop-cond.new.self (condition_view c.cond-item.result) (condition_view (record { left = c.in_ok-left.left; right = c.in_ok-right.right }))
    c.loop-cond.invariant a.front b.front a.row b.row b.distinct
    (placed c.loop-cond.row c.numbered.new.self (view c.cond-item.result.left) (view c.in_ok-left.left) a.row a.distinct a.names a.below)
    (placed c.numbered.new.self c.numbered-in-loop-cond.new.self (view c.cond-item.result.right) (view c.in_ok-right.right) b.row b.distinct b.names b.below))

pub returns : goal.returns
returns c =
    subst (λ (cs : List Condition). AddsNumbered cs (map condition_view c.args.out.now.items) c.args.row.now (map condition_view c.loop-cond.out.items) c.loop-cond.row)
    (conditions_all c.args.conds.now c.loop-cond.cond-index c.loop-cond-test.false) c.loop-cond.invariant
