use Rattle.cc_count.proofs.Spending.{spends_none, kept_on}
use Rattle.std.proofs.Common.{◌+◌, Ok, drop, arith, sym, subst, refl}
use Rattle.rewriting.specs.Rules.{System}
use Rattle.unifier_run.specs.Overlaps.{Overlap}
use Rattle.reach_lists.specs.Laws.{EachOf}
use Rattle.pair_search.specs.Answers.{WalkAnswers}
use Rattle.search_answers.proofs.Walking.{begins, finishes}
use Rattle.quasi_space.specs.QuasiItems.{quasi_item_cost, GivesQuasi}
use Rattle.quasi_search.specs.Reducts.{reduct_view, IsReductOf}
use Rattle.quasi_search.proofs.Pairs.{each_at, each_behind, slice_rest, items_with, items_of, next_first, none_of}
use Rattle.quasi_search.proofs.Steps.{Tried, tried}
use Rattle.quasi_search.proofs.reducts.try_pairs.Goals as goal
use Rattle.quasi_search.proofs.reducts.try_pairs.Goals.{In_ok-end}

pub firsts-init : goal.firsts-init
firsts-init c = record {
  walking = λ sys o each. begins refl;
  kept = (0, spends_none c.args.budget.now);
}

pub returns-in_err-end-clause-kept : goal.returns-in_err-end-clause-kept
returns-in_err-end-clause-kept c = kept_on _ _ _ c.firsts.invariant.kept c.in_err-end.ensures.kept

step : (c : In_ok-end) (sys : System) (o : Overlap) → EachOf (IsReductOf sys o c.args.cond) c.args.reducts.now
    → Tried quasi_item_cost (GivesQuasi sys o) (items_of c.args.cond c.args.reducts.now) c.args.budget.now c.try_with.new.budget
    (items_of c.args.cond (drop (c.firsts.i + 1) c.args.reducts.now)) c.in_ok-end.end
step c sys o each =
    let k = c.args.cond in
    let all = c.args.reducts.now in
    let i = c.firsts.i in
    let x = c.index-reducts-i.result in
    tried (c.firsts.invariant.walking sys o each) c.try_with.new.budget (items_with k (reduct_view x) (drop (i + 1) all)) (items_of k (drop (i + 1) all))
    (next_first k all i x c.firsts-test.true c.index-reducts-i.is) c.in_ok-end.end
    (subst (λ l. WalkAnswers quasi_item_cost (GivesQuasi sys o) (items_with k (reduct_view x) l) c.firsts.budget c.try_with.new.budget (Ok c.in_ok-end.end)) (slice_rest all (i + 1))
    (c.in_ok-end.ensures.answer sys o (
      each_at (IsReductOf sys o k) all i x c.firsts-test.true c.index-reducts-i.is each,
      subst (EachOf (IsReductOf sys o k)) (sym (slice_rest all (i + 1))) (each_behind (IsReductOf sys o k) all (i + 1) each),
    )))

pub returns-in_default : goal.returns-in_default
returns-in_default c = record {
  answer = λ sys o each. (step (goal.at.returns-in_default c).In_ok-end sys o each).ends c.in_default.not-Nothing;
  kept = kept_on _ _ _ c.firsts.invariant.kept c.in_ok-end.ensures.kept;
}

pub firsts-preserved : goal.firsts-preserved
firsts-preserved c = record {
  walking = λ sys o each. (step (goal.at.firsts-preserved c).In_ok-end sys o each).goes_on c.in-Nothing.is;
  kept = kept_on _ _ _ c.firsts.invariant.kept c.in_ok-end.ensures.kept;
}

pub returns-clause-answer : goal.returns-clause-answer
returns-clause-answer c sys o each =
    let over = c.firsts-test.false in finishes (c.firsts.invariant.walking sys o each) (none_of c.args.cond c.args.reducts.now c.firsts.i (omega (arith, over)))
