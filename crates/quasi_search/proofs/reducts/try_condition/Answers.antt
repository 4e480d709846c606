use Rattle.cc_count.proofs.Spending.{kept_on}
use Rattle.std.proofs.Common.{◌≡◌, ◌∙◌, map, Ok, sym, ap, subst}
use Rattle.rewriting.specs.Lists.{IsAmong}
use Rattle.term_core.specs.Prelude.{view, condition_view}
use Rattle.critical_pairs.specs.View.{overlap_view}
use Rattle.pair_check.proofs.Ready.{ready}
use Rattle.reach_lists.specs.Laws.{EachOf}
use Rattle.reach.specs.EntryView.{table_view}
use Rattle.search_spaces.specs.Listings.{listing, pairs_of}
use Rattle.pair_search.specs.Answers.{WalkAnswers}
use Rattle.quasi_space.specs.QuasiItems.{two_reducts, quasi_item_cost, GivesQuasi}
use Rattle.quasi_search.specs.Listed.{ListedAnswers}
use Rattle.quasi_search.specs.Reducts.{reducts_view, IsJudged}
use Rattle.quasi_search.proofs.Listings.{listing_made, listing_stops}
use Rattle.quasi_search.proofs.Pairs.{each_listed, condition_fits}
use Rattle.quasi_search.proofs.reducts.try_condition.Goals as goal

pub listed_under-requires-clause-start : goal.listed_under-requires-clause-start
listed_under-requires-clause-start c =
    let small = ready c.args.sys.now (overlap_view c.args.overlap.now) c.rules_are_sound.ensures c.requires.overlap in
    condition_fits (map condition_view c.args.overlap.now.conds.items) c.args.number (condition_view c.args.cond.now) c.requires.cond small.conditions

pub returns-in_default-clause-answer : goal.returns-in_default-clause-answer
returns-in_default-clause-answer c =
    let sys = c.args.sys.now in
    let o = overlap_view c.args.overlap.now in
    let t = view c.args.cond.now.left in
    listing_stops sys o t c.args.budget.now c.listed_under.new.budget c.in_ok-list.field-0 c.in_default.not-Some c.in_ok-list.ensures.answer
    (map (two_reducts c.args.number) (pairs_of (listing sys o.pair.conditions t)))

pub returns-clause-answer : goal.returns-clause-answer
returns-clause-answer c =
    let sys = c.args.sys.now in
    let o = overlap_view c.args.overlap.now in
    let t = view c.args.cond.now.left in
    let made = subst (λ z. ListedAnswers sys o t c.args.budget.now c.listed_under.new.budget (Ok z)) c.in-Some.is c.in_ok-list.ensures.answer in
    let all : reducts_view c.deref-2.result.now ≡ listing sys o.pair.conditions t =
    ap reducts_view c.deref-2.ensures.value ∙ c.in_ok-reducts.ensures.listed ∙ ap table_view c.deref.ensures.value ∙ made.0 in
    listing_made sys o t c.args.budget.now c.listed_under.new.budget (map (two_reducts c.args.number) (pairs_of (listing sys o.pair.conditions t))) c.in-Some.list made
    c.try_pairs.new.budget c.try_pairs.result
    (subst (λ l. WalkAnswers quasi_item_cost (GivesQuasi sys o) (map (two_reducts c.args.number) (pairs_of l)) c.listed_under.new.budget c.try_pairs.new.budget c.try_pairs.result) all
    (c.try_pairs.ensures.answer sys o
    (each_listed sys o c.args.number (condition_view c.args.cond.now) c.requires.cond c.deref-2.result.now (subst (EachOf (IsJudged sys)) (sym c.deref-2.ensures.value) c.in_ok-reducts.ensures.judged)
    (λ x h. subst (IsAmong x) all h))))

pub returns-clause-kept : goal.returns-clause-kept
returns-clause-kept c = kept_on _ _ _ c.in_ok-list.ensures.kept c.try_pairs.ensures.kept
