use Rattle.cc_count.proofs.Spending.{kept_on}
use Rattle.std.proofs.Common.{◌++◌, length, Ok, subst}
use Rattle.critical_pairs.specs.View.{overlap_view}
use Rattle.pair_search.specs.Answers.{WalkAnswers}
use Rattle.pair_search.proofs.Composed.{ends_early, goes_behind}
use Rattle.quasi_space.specs.QuasiItems.{refuting_items, join_items, reduct_items, quasi_item_cost, GivesQuasi}
use Rattle.quasi_search.proofs.trying.try_overlap.Goals as goal

pub returns-in_default : goal.returns-in_default
returns-in_default c =
    let sys = c.args.sys.now in
    let o = overlap_view c.args.overlap.now in
    record {
      answer = ends_early quasi_item_cost (GivesQuasi sys o) (refuting_items (length o.pair.conditions)) (join_items sys o ++ reduct_items sys o.pair.conditions 1 o.pair.conditions) c.args.budget.now
          c.try_refutings.new.budget c.in_ok-end.end c.in_default.not-Nothing c.in_ok-end.ensures.answer;
      kept = c.in_ok-end.ensures.kept;
      knows = c.in_ok-end.ensures.knows;
    }

pub returns-in_err-end-2-clause-kept : goal.returns-in_err-end-2-clause-kept
returns-in_err-end-2-clause-kept c = kept_on c.args.budget.now c.try_refutings.new.budget c.try_joins.new.budget c.in_ok-end.ensures.kept c.in_err-end-2.ensures.kept

pub returns-in-Nothing-2-clause-answer : goal.returns-in-Nothing-2-clause-answer
returns-in-Nothing-2-clause-answer c =
    let sys = c.args.sys.now in
    let o = overlap_view c.args.overlap.now in
    goes_behind quasi_item_cost (GivesQuasi sys o) (refuting_items (length o.pair.conditions)) (join_items sys o ++ reduct_items sys o.pair.conditions 1 o.pair.conditions) c.args.budget.now
    c.try_refutings.new.budget c.try_reducts.new.budget c.try_reducts.result
    (subst (λ z. WalkAnswers quasi_item_cost (GivesQuasi sys o) (refuting_items (length o.pair.conditions)) c.args.budget.now c.try_refutings.new.budget (Ok z))
    c.in-Nothing.is c.in_ok-end.ensures.answer)
    (goes_behind quasi_item_cost (GivesQuasi sys o) (join_items sys o) (reduct_items sys o.pair.conditions 1 o.pair.conditions) c.try_refutings.new.budget
    c.try_joins.new.budget c.try_reducts.new.budget
    c.try_reducts.result
    (subst (λ z. WalkAnswers quasi_item_cost (GivesQuasi sys o) (join_items sys o) c.try_refutings.new.budget c.try_joins.new.budget (Ok z)) c.in-Nothing-2.is c.in_ok-end-2.ensures.answer)
    c.try_reducts.ensures.answer)

pub returns-in-Nothing-2-clause-kept : goal.returns-in-Nothing-2-clause-kept
returns-in-Nothing-2-clause-kept c =
    kept_on c.args.budget.now c.try_joins.new.budget c.try_reducts.new.budget
    (kept_on c.args.budget.now c.try_refutings.new.budget c.try_joins.new.budget c.in_ok-end.ensures.kept c.in_ok-end-2.ensures.kept)
    c.try_reducts.ensures.kept

pub returns-in_default-2 : goal.returns-in_default-2
returns-in_default-2 c =
    let sys = c.args.sys.now in
    let o = overlap_view c.args.overlap.now in
    record {
      answer = goes_behind quasi_item_cost (GivesQuasi sys o) (refuting_items (length o.pair.conditions)) (join_items sys o ++ reduct_items sys o.pair.conditions 1 o.pair.conditions) c.args.budget.now
          c.try_refutings.new.budget c.try_joins.new.budget (Ok c.in_ok-end-2.end)
          (subst (λ z. WalkAnswers quasi_item_cost (GivesQuasi sys o) (refuting_items (length o.pair.conditions)) c.args.budget.now c.try_refutings.new.budget (Ok z))
          c.in-Nothing.is c.in_ok-end.ensures.answer)
          (ends_early quasi_item_cost (GivesQuasi sys o) (join_items sys o) (reduct_items sys o.pair.conditions 1 o.pair.conditions) c.try_refutings.new.budget c.try_joins.new.budget c.in_ok-end-2.end
          c.in_default-2.not-Nothing c.in_ok-end-2.ensures.answer);
      kept = kept_on c.args.budget.now c.try_refutings.new.budget c.try_joins.new.budget c.in_ok-end.ensures.kept c.in_ok-end-2.ensures.kept;
      knows = c.in_ok-end.ensures.knows;
    }
