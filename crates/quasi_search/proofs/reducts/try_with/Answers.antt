use Rattle.cc_count.proofs.Spending.{spends_none, kept_on}
use Rattle.std.proofs.Common.{◌+◌, ◌∷◌, [], drop, arith, refl}
use Rattle.rewriting.specs.Rules.{System}
use Rattle.unifier_run.specs.Overlaps.{Overlap}
use Rattle.reach_lists.specs.Laws.{EachOf}
use Rattle.search_answers.proofs.Walking.{begins, finishes}
use Rattle.quasi_space.specs.QuasiItems.{two_reducts, quasi_item_cost, GivesQuasi}
use Rattle.quasi_search.specs.Reducts.{reduct_view, IsReductOf}
use Rattle.quasi_search.proofs.Pairs.{each_at, items_with, next_with, none_with}
use Rattle.quasi_search.proofs.Steps.{Tried, tried}
use Rattle.quasi_search.proofs.reducts.try_with.Goals as goal
use Rattle.quasi_search.proofs.reducts.try_with.Goals.{In_ok-end}

pub later-init : goal.later-init
later-init c = record {
  walking = λ sys o each. begins refl;
  kept = (0, spends_none c.args.budget.now);
}

pub returns-in_err-end-clause-kept : goal.returns-in_err-end-clause-kept
returns-in_err-end-clause-kept c = kept_on _ _ _ c.later.invariant.kept c.in_err-end.ensures.kept

step : (c : In_ok-end) (sys : System) (o : Overlap) → EachOf (IsReductOf sys o c.args.cond) (c.args.first.now ∷ c.args.later.now)
    → Tried quasi_item_cost (GivesQuasi sys o) (items_with c.args.cond (reduct_view c.args.first.now) c.args.later.now) c.args.budget.now c.try_pair.new.budget
    (items_with c.args.cond (reduct_view c.args.first.now) (drop (c.later.second-index + 1) c.args.later.now)) c.in_ok-end.end
step c sys o each =
    let k = c.args.cond in
    let x = reduct_view c.args.first.now in
    let all = c.args.later.now in
    let j = c.later.second-index in
    let y = c.second-item.result in
    tried (c.later.invariant.walking sys o each) c.try_pair.new.budget (two_reducts k (x, reduct_view y) ∷ []) (items_with k x (drop (j + 1) all))
    (next_with k x all j y c.later-test.true c.second-item.is) c.in_ok-end.end
    (c.in_ok-end.ensures.answer sys o (each.0, (each_at (IsReductOf sys o k) all j y c.later-test.true c.second-item.is each.1, tt)))

pub returns-in_default : goal.returns-in_default
returns-in_default c = record {
  answer = λ sys o each. (step (goal.at.returns-in_default c).In_ok-end sys o each).ends c.in_default.not-Nothing;
  kept = kept_on _ _ _ c.later.invariant.kept c.in_ok-end.ensures.kept;
}

pub later-preserved : goal.later-preserved
later-preserved c = record {
  walking = λ sys o each. (step (goal.at.later-preserved c).In_ok-end sys o each).goes_on c.in-Nothing.is;
  kept = kept_on _ _ _ c.later.invariant.kept c.in_ok-end.ensures.kept;
}

pub returns-clause-answer : goal.returns-clause-answer
returns-clause-answer c sys o each =
    let over = c.later-test.false in
    finishes (c.later.invariant.walking sys o each) (none_with c.args.cond (reduct_view c.args.first.now) c.args.later.now c.later.second-index (omega (arith, over)))
