use Rattle.std.proofs.Common.{add-one, map}
use Rattle.unifier_run.specs.Irreducible.{DoAllClash}
use Rattle.term_core.specs.RuleView.{condition_view}
use Rattle.ctrs_classes.proofs.Prefixes.{good_next, good_all}
use Rattle.quasi_check.proofs.Walks.{condition_here, none_left, fails_where, holds_where}
use Rattle.quasi_check.proofs.sides.first_condition.Goals as goal

pub returns-then-not-branch : goal.returns-then-not-branch
returns-then-not-branch c =
    record {
      condition = condition_view c.index-conds-k.result;
      place = c.loop-k.k;
      number = add-one _;
      is_condition = condition_here c.args.conds.now c.loop-k.k c.index-conds-k.result c.loop-k-test.true c.index-conds-k.is;
      earlier = c.loop-k.invariant;
      fails = fails_where c.in_ok-do_all_clash.field-0 _ c.in_ok-do_all_clash.ensures c.if-not-branch.true;
    }

pub loop-k-preserved : goal.loop-k-preserved
loop-k-preserved c =
    let here = condition_here c.args.conds.now c.loop-k.k c.index-conds-k.result c.loop-k-test.true c.index-conds-k.is in
    good_next (λ j d. DoAllClash c.args.sys.now d.right) (map condition_view c.args.conds.now) c.loop-k.k _ here
    (holds_where c.in_ok-do_all_clash.field-0 _ c.in_ok-do_all_clash.ensures c.if-not-branch.false) c.loop-k.invariant

pub returns : goal.returns
returns c =
    good_all (λ j d. DoAllClash c.args.sys.now d.right) (map condition_view c.args.conds.now) c.loop-k.k (none_left c.args.conds.now c.loop-k.k c.loop-k-test.false) c.loop-k.invariant
