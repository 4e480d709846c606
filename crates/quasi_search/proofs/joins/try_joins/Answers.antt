use Rattle.cc_count.proofs.Spending.{kept_on}
use Rattle.std.proofs.Common.{◌∙◌, ◌∷◌, Ok, ap, subst}
use Rattle.critical_pairs.specs.View.{overlap_view}
use Rattle.reach.specs.EntryView.{table_view}
use Rattle.search_spaces.specs.Listings.{listing, listing_cost}
use Rattle.cc_count.specs.declared.Sought.TheVariants.{Spent}
use Rattle.quasi_space.specs.QuasiItems.{make_listing, joins}
use Rattle.quasi_search.specs.Listed.{ListedAnswers}
use Rattle.quasi_search.proofs.Listings.{listing_made, listing_stops}
use Rattle.quasi_search.proofs.joins.try_joins.Goals as goal

pub returns-in_default-clause-answer : goal.returns-in_default-clause-answer
returns-in_default-clause-answer c =
    let sys = c.args.sys.now in
    let o = overlap_view c.args.overlap.now in
    listing_stops sys o o.pair.left c.args.budget.now c.listed_under.new.budget c.in_ok-left.field-0 c.in_default.not-Some c.in_ok-left.ensures.answer
    (make_listing (listing_cost sys o.pair.conditions o.pair.right) ∷ joins (listing sys o.pair.conditions o.pair.left) (listing sys o.pair.conditions o.pair.right))

pub returns-in_err-right-clause-kept : goal.returns-in_err-right-clause-kept
returns-in_err-right-clause-kept c = kept_on _ _ _ c.in_ok-left.ensures.kept c.in_err-right.ensures.kept

pub returns-in_default-2-clause-answer : goal.returns-in_default-2-clause-answer
returns-in_default-2-clause-answer c =
    let sys = c.args.sys.now in
    let o = overlap_view c.args.overlap.now in
    let left = subst (λ z. ListedAnswers sys o o.pair.left c.args.budget.now c.listed_under.new.budget (Ok z)) c.in-Some.is c.in_ok-left.ensures.answer in
    let shared = joins (listing sys o.pair.conditions o.pair.left) (listing sys o.pair.conditions o.pair.right) in
    listing_made sys o o.pair.left c.args.budget.now c.listed_under.new.budget (make_listing (listing_cost sys o.pair.conditions o.pair.right) ∷ shared) c.in-Some.left left
    c.listed_under-2.new.budget (Ok Spent)
    (listing_stops sys o o.pair.right c.listed_under.new.budget c.listed_under-2.new.budget c.in_ok-right.field-0 c.in_default-2.not-Some c.in_ok-right.ensures.answer shared)

pub returns-in_default-2-clause-kept : goal.returns-in_default-2-clause-kept
returns-in_default-2-clause-kept c = kept_on _ _ _ c.in_ok-left.ensures.kept c.in_ok-right.ensures.kept

pub returns-clause-answer : goal.returns-clause-answer
returns-clause-answer c =
    let sys = c.args.sys.now in
    let o = overlap_view c.args.overlap.now in
    let left = subst (λ z. ListedAnswers sys o o.pair.left c.args.budget.now c.listed_under.new.budget (Ok z)) c.in-Some.is c.in_ok-left.ensures.answer in
    let right = subst (λ z. ListedAnswers sys o o.pair.right c.listed_under.new.budget c.listed_under-2.new.budget (Ok z)) c.in-Some-2.is c.in_ok-right.ensures.answer in
    let shared = joins (listing sys o.pair.conditions o.pair.left) (listing sys o.pair.conditions o.pair.right) in
    listing_made sys o o.pair.left c.args.budget.now c.listed_under.new.budget (make_listing (listing_cost sys o.pair.conditions o.pair.right) ∷ shared) c.in-Some.left left
    c.listed_under-2.new.budget c.try_shared.result
    (listing_made sys o o.pair.right c.listed_under.new.budget c.listed_under-2.new.budget shared c.in-Some-2.right right c.listed_under-2.new.budget c.try_shared.result
    (c.try_shared.ensures sys o c.listed_under-2.new.budget (ap table_view c.deref.ensures.value ∙ left.0) (ap table_view c.deref-2.ensures.value ∙ right.0)))

pub returns-clause-kept : goal.returns-clause-kept
returns-clause-kept c = kept_on _ _ _ c.in_ok-left.ensures.kept c.in_ok-right.ensures.kept
