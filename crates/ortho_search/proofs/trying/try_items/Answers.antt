use Rattle.cc_count.proofs.Spending.{spends_none, kept_on}
use Rattle.std.proofs.Common.{◌+◌, ◌∷◌, [], map, drop, get_or, ap, refl, arith}
use Rattle.std.proofs.lemmas.List.{drop_more, drop_all}
use Rattle.search_answers.proofs.Walking.{begins, finishes}
use Rattle.pair_search.proofs.Composed.{goes_on, ends}
use Rattle.ortho_search.specs.ItemView.{item_view}
use Rattle.ortho_search.specs.declared.items.Item.TheVariants.{Trivial}
use Rattle.ortho_search.proofs.trying.try_items.Goals as goal

pub items-init : goal.items-init
items-init c =
    record {
      walking = begins refl;
      kept = (0, spends_none c.args.budget.now);
      knows = c.requires.knows;
    }

pub returns-in_err-end-clause-kept : goal.returns-in_err-end-clause-kept
returns-in_err-end-clause-kept c = kept_on _ _ _ c.items.invariant.kept c.in_err-end.ensures.kept

pub returns-in_default : goal.returns-in_default
returns-in_default c =
    let all = c.args.items.now in
    let i = c.items.item-index in
    record {
      answer = ends c.items.invariant.walking c.try_one.new.budget (item_view (get_or all i Trivial) ∷ []) (map item_view (drop (i + 1) all))
          (ap (map item_view) (drop_more all i Trivial c.items-test.true)) c.in_ok-end.end c.in_default.not-Nothing c.in_ok-end.ensures.answer;
      kept = kept_on _ _ _ c.items.invariant.kept c.in_ok-end.ensures.kept;
      knows = c.in_ok-end.ensures.knows;
    }

pub items-preserved : goal.items-preserved
items-preserved c =
    let all = c.args.items.now in
    let i = c.items.item-index in
    record {
      walking = goes_on c.items.invariant.walking c.try_one.new.budget (item_view (get_or all i Trivial) ∷ []) (map item_view (drop (i + 1) all))
          (ap (map item_view) (drop_more all i Trivial c.items-test.true)) c.in_ok-end.end c.in-Nothing.is c.in_ok-end.ensures.answer;
      kept = kept_on _ _ _ c.items.invariant.kept c.in_ok-end.ensures.kept;
      knows = c.in_ok-end.ensures.knows;
    }

pub returns-clause-answer : goal.returns-clause-answer
returns-clause-answer c =
    let over = c.items-test.false in finishes c.items.invariant.walking (ap (map item_view) (drop_all c.items.item-index c.args.items.now (omega (arith, over))))
