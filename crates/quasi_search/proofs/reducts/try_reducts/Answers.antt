use Rattle.cc_count.proofs.Spending.{spends_none, kept_on}
use Rattle.std.proofs.Common.{◌+◌, ◌<◌, ◌≡◌, get_or, length, ap, arith, subst, refl}
use Rattle.term_core.specs.Prelude.{view, condition_view}
use Rattle.critical_pairs.specs.View.{overlap_view}
use Rattle.search_answers.proofs.Walking.{begins, finishes}
use Rattle.quasi_space.specs.QuasiItems.{quasi_item_cost, GivesQuasi}
use Rattle.quasi_search.specs.Reducts.{condition_items}
use Rattle.pair_check.proofs.Ready.{few_conditions}
use Rattle.quasi_search.proofs.Pairs.{numbered, items_behind, none_behind, next_condition}
use Rattle.quasi_search.proofs.Steps.{Tried, tried}
use Rattle.quasi_search.proofs.reducts.try_reducts.Goals as goal
use Rattle.quasi_search.proofs.reducts.try_reducts.Goals.{In_ok-end}

pub conds-init : goal.conds-init
conds-init c = record {
  walking = begins refl;
  kept = (0, spends_none c.args.budget.now);
}

pub overflow_cast-number : goal.overflow_cast-number
overflow_cast-number c = omega (arith, few_conditions c.args.sys.now c.args.overlap.now c.rules_are_sound.ensures c.requires.overlap, c.conds-test.true)

pub overflow_add-number : goal.overflow_add-number
overflow_add-number c = omega (arith, few_conditions c.args.sys.now c.args.overlap.now c.rules_are_sound.ensures c.requires.overlap, c.conds-test.true)

pub try_condition-requires-clause-cond : goal.try_condition-requires-clause-cond
try_condition-requires-clause-cond c =
    numbered condition_view c.args.overlap.now.conds.items c.conds.i c.cond-item.result (subst (λ z. c.conds.i < length z) c.deref-cond-items.ensures.value c.conds-test.true)
    (subst (λ z. c.cond-item.result ≡ get_or z c.conds.i c.cond-item.result) c.deref-cond-items.ensures.value c.cond-item.is)

pub returns-in_err-end-clause-kept : goal.returns-in_err-end-clause-kept
returns-in_err-end-clause-kept c = kept_on _ _ _ c.conds.invariant.kept c.in_err-end.ensures.kept

step : (c : In_ok-end) → Tried quasi_item_cost (GivesQuasi c.args.sys.now (overlap_view c.args.overlap.now)) (items_behind c.args.sys.now c.args.overlap.now 0) c.args.budget.now
    c.try_condition.new.budget (items_behind c.args.sys.now c.args.overlap.now (c.conds.i + 1)) c.in_ok-end.end
step c =
    let sys = c.args.sys.now in
    let v = c.args.overlap.now in
    let i = c.conds.i in
    let x = c.cond-item.result in
    tried c.conds.invariant.walking c.try_condition.new.budget (condition_items sys (overlap_view v) (i + 1) (view x.left)) (items_behind sys v (i + 1))
    (next_condition sys v i x (subst (λ z. i < length z) c.deref-cond-items.ensures.value c.conds-test.true) (subst (λ z. x ≡ get_or z i x) c.deref-cond-items.ensures.value c.cond-item.is))
    c.in_ok-end.end c.in_ok-end.ensures.answer

pub returns-in_default : goal.returns-in_default
returns-in_default c = record {
  answer = (step (goal.at.returns-in_default c).In_ok-end).ends c.in_default.not-Nothing;
  kept = kept_on _ _ _ c.conds.invariant.kept c.in_ok-end.ensures.kept;
}

pub conds-preserved : goal.conds-preserved
conds-preserved c = record {
  walking = (step (goal.at.conds-preserved c).In_ok-end).goes_on c.in-Nothing.is;
  kept = kept_on _ _ _ c.conds.invariant.kept c.in_ok-end.ensures.kept;
}

pub returns-clause-answer : goal.returns-clause-answer
returns-clause-answer c =
    let over = c.conds-test.false in
    let same = ap length c.deref-cond-items.ensures.value in
    finishes c.conds.invariant.walking (none_behind c.args.sys.now c.args.overlap.now c.conds.i (omega (arith, over, same)))
