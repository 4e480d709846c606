use Rattle.std.proofs.Common.{arith, ◌∙◌}
use Rattle.term_core.specs.View.{view}
use Rattle.term_core.proofs.Rules.{handed_on}
use Rattle.unravel.specs.SideView.{side_view}
use Rattle.unravel.proofs.Appended.{pushed_none, pushed_badly, pushed_one, first_fits, others_fit, others_count}
use Rattle.unravel.proofs.Sound.{counted_through}
use Rattle.unravel.proofs.rules.+push_from.Goals as goal

pub push_from-requires : goal.push_from-requires
push_from-requires t c =
    let count = others_count c.args.conds.now in
    let some = c.in-len1-up.len_at_least in
    let falls = c.decreases in
    let room = c.requires.symbols in (
      omega (arith, count, some, falls),
      (
        (first_fits c.args.conds.now c.cond-item.result c.requires.conds some c.cond-item.is).1,
        (others_fit c.args.conds.now c.requires.conds some, (c.requires.right, omega (arith, count, some, room))),
      ),
    )

pub returns-in-empty-clause-rules : goal.returns-in-empty-clause-rules
returns-in-empty-clause-rules t c = pushed_none c.args.next.now.symbol c.args.next.now.known.now (side_view c.args.head.now) (view c.args.right.now) c.args.conds.now _ _ c.push.result
    c.in-empty.len_below c.push.ensures.rule

pub returns-in_err-push-in-len1-up-clause-rules : goal.returns-in_err-push-in-len1-up-clause-rules
returns-in_err-push-in-len1-up-clause-rules t c =
    rw (handed_on _ _ c.from_residual.ensures.1)
    (pushed_badly c.args.next.now.symbol c.args.next.now.known.now (side_view c.args.head.now) (view c.args.right.now) c.args.conds.now c.cond-item.result c.args.out.now.items
    c.push-in-len1-up.new.out.items c.push-in-len1-up.new.out.items c.in_err-push-in-len1-up.field-0.0 c.in-len1-up.len_at_least
    c.cond-item.is c.in_err-push-in-len1-up.ensures.rule)

pub returns-in_ok-grown-in-len1-up-clause-rules : goal.returns-in_ok-grown-in-len1-up-clause-rules
returns-in_ok-grown-in-len1-up-clause-rules t c =
    let grown = c.in_ok-grown-in-len1-up.ensures in
    pushed_one c.args.next.now.symbol c.args.next.now.known.now c.deref.result.now (side_view c.args.head.now) (view c.args.right.now) c.args.conds.now c.cond-item.result c.args.out.now.items
    c.push-in-len1-up.new.out.items c.push_from.new.out.items
    c.in_ok-push-in-len1-up.field-0 c.push_from.result c.in-len1-up.len_at_least c.cond-item.is (c.deref.ensures.value ∙ grown.variables) c.in_ok-push-in-len1-up.ensures.rule c.push_from.ensures.rules

pub returns-in_ok-grown-in-len1-up-clause-counted : goal.returns-in_ok-grown-in-len1-up-clause-counted
returns-in_ok-grown-in-len1-up-clause-counted t c = counted_through c.push_from.result c.args.out.now.items c.push-in-len1-up.new.out.items c.push_from.new.out.items
    c.in_ok-push-in-len1-up.ensures.counted c.push_from.ensures.counted
