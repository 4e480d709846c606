use Rattle.cc_count.proofs.Spending.{kept_on}
use Rattle.std.proofs.Common.{◌≡◌, ◌+◌, ◌∷◌, [], length, map, Ok, sym, ap, refl, subst, arith}
use Rattle.cc_count.specs.declared.Sought.TheVariants.{Nothing}
use Rattle.critical_pairs.specs.View.{overlap_view}
use Rattle.search_spaces.specs.Refuting.{try_caps, try_growth, growths}
use Rattle.search_spaces.proofs.Growths.{growths_behind, all_behind, next_behind, none_behind}
use Rattle.search_answers.proofs.Walking.{begins, finishes}
use Rattle.pair_search.specs.Answers.{WalkAnswers}
use Rattle.pair_search.proofs.Composed.{goes_on, ends_early}
use Rattle.quasi_space.specs.QuasiItems.{try_refuting, quasi_item_cost, GivesQuasi, refuting_items}
use Rattle.pair_check.proofs.Ready.{few_conditions, counted}
use Rattle.quasi_search.proofs.Steps.{Tried, tried}
use Rattle.quasi_search.proofs.refuting.try_refutings.Goals as goal
use Rattle.quasi_search.proofs.refuting.try_refutings.Goals.{In_ok-end-2}

-- caps
pub returns-in_default : goal.returns-in_default
returns-in_default c =
    let o = overlap_view c.args.overlap.now in
    record {
      answer = ends_early quasi_item_cost (GivesQuasi c.args.sys.now o) (try_refuting try_caps ∷ []) (map try_refuting (growths (length o.pair.conditions))) c.args.budget.now c.try_way.new.budget
          c.in_ok-end.end c.in_default.not-Nothing c.in_ok-end.ensures.answer;
      kept = c.in_ok-end.ensures.kept;
      knows = c.in_ok-end.ensures.knows;
    }

-- the automata
pub overflow_cast-count : goal.overflow_cast-count
overflow_cast-count c =
    omega (arith, few_conditions c.args.sys.now c.args.overlap.now c.rules_are_sound.ensures c.requires.overlap, c.len-count.ensures, c.args.overlap.now.conds.ok.0)

pub growths-init : goal.growths-init
growths-init c =
    record {
      within = omega arith;
      walking = goes_on (begins refl) c.try_way.new.budget (try_refuting try_caps ∷ []) (map try_refuting (growths_behind 0 c.len-count.result))
          (ap (λ gs. try_refuting try_caps ∷ map try_refuting gs) (sym (all_behind c.len-count.result))) c.in_ok-end.end c.in-Nothing.is c.in_ok-end.ensures.answer;
      kept = c.in_ok-end.ensures.kept;
      knows = c.in_ok-end.ensures.knows;
    }

pub returns-in_err-end-2-clause-kept : goal.returns-in_err-end-2-clause-kept
returns-in_err-end-2-clause-kept c = kept_on _ _ _ c.growths.invariant.kept c.in_err-end-2.ensures.kept

step : (c : In_ok-end-2) → Tried quasi_item_cost (GivesQuasi c.args.sys.now (overlap_view c.args.overlap.now)) (refuting_items c.len-count.result) c.args.budget.now c.try_way-in-growths.new.budget
    (map try_refuting (growths_behind (c.growths.before + 1) c.len-count.result)) c.in_ok-end-2.end
step c =
    let n = c.len-count.result in
    let i = c.growths.before in
    tried c.growths.invariant.walking c.try_way-in-growths.new.budget (try_refuting (try_growth (i + 1)) ∷ []) (map try_refuting (growths_behind (i + 1) n))
    (ap (map try_refuting) (next_behind i n c.growths-test.true)) c.in_ok-end-2.end c.in_ok-end-2.ensures.answer

pub returns-in_default-2 : goal.returns-in_default-2
returns-in_default-2 c =
    let all : c.len-count.result ≡ length (overlap_view c.args.overlap.now).pair.conditions =
    counted c.args.sys.now c.args.overlap.now c.rules_are_sound.ensures c.requires.overlap c.len-count.result (omega (arith, c.len-count.ensures, c.args.overlap.now.conds.ok.0)) in
    record {
      answer = subst (λ m. WalkAnswers quasi_item_cost (GivesQuasi c.args.sys.now (overlap_view c.args.overlap.now)) (refuting_items m) c.args.budget.now c.try_way-in-growths.new.budget
          (Ok c.in_ok-end-2.end)) all ((step (goal.at.returns-in_default-2 c).In_ok-end-2).ends c.in_default-2.not-Nothing);
      kept = kept_on _ _ _ c.growths.invariant.kept c.in_ok-end-2.ensures.kept;
      knows = c.in_ok-end-2.ensures.knows;
    }

pub growths-preserved : goal.growths-preserved
growths-preserved c =
    record {
      within = omega (arith, c.growths-test.true);
      walking = (step (goal.at.growths-preserved c).In_ok-end-2).goes_on c.in-Nothing-2.is;
      kept = kept_on _ _ _ c.growths.invariant.kept c.in_ok-end-2.ensures.kept;
      knows = c.in_ok-end-2.ensures.knows;
    }

pub returns-clause-answer : goal.returns-clause-answer
returns-clause-answer c =
    let all : c.len-count.result ≡ length (overlap_view c.args.overlap.now).pair.conditions =
    counted c.args.sys.now c.args.overlap.now c.rules_are_sound.ensures c.requires.overlap c.len-count.result (omega (arith, c.len-count.ensures, c.args.overlap.now.conds.ok.0)) in
    subst (λ m. WalkAnswers quasi_item_cost (GivesQuasi c.args.sys.now (overlap_view c.args.overlap.now)) (refuting_items m) c.args.budget.now c.growths.budget (Ok Nothing)) all
    (finishes c.growths.invariant.walking (ap (map try_refuting) (none_behind c.growths.before c.len-count.result (omega (arith, c.growths-test.false)))))

pub returns-clause-kept : goal.returns-clause-kept
returns-clause-kept c = c.growths.invariant.kept
