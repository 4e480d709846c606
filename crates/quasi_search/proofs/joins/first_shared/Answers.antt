use Rattle.std.proofs.Common.{◌+◌, ◌∙◌, drop, subst}
use Rattle.reach.specs.Parts.{DoAllFit}
use Rattle.reach.specs.EntryView.{entry_view, table_view}
use Rattle.general_lemmas.proofs.Places.{map-drop_read}
use Rattle.term_core.specs.View.{view}
use Rattle.quasi_search.proofs.Index.{none_found, unshared_goes_on, shared_here}
use Rattle.quasi_search.proofs.joins.first_shared.Goals as goal

pub returns-in-Some : goal.returns-in-Some
returns-in-Some c =
    let all = c.args.left.now in
    let i = c.left.first-index in
    let x = c.first-item.result in
    let right = table_view c.args.right.now in
    let next = map-drop_read entry_view all i x c.left-test.true c.first-item.is in
    shared_here (table_view all) right (table_view (drop i all)) (entry_view x) (table_view (drop (i + 1) all)) c.left.invariant.unshared next
    (entry_view c.in-Some.second.now) (c.in-Some.ensures right (view x.term) c.in_ok-index.ensures (subst DoAllFit next c.left.invariant.fit).0 (c.deref.ensures.value ∙ c.in_ok-key.ensures))

pub left-preserved : goal.left-preserved
left-preserved c =
    let all = c.args.left.now in
    let i = c.left.first-index in
    let x = c.first-item.result in
    let right = table_view c.args.right.now in
    let next = map-drop_read entry_view all i x c.left-test.true c.first-item.is in
    let fit = subst DoAllFit next c.left.invariant.fit in
    record {
      unshared = unshared_goes_on (table_view all) right (table_view (drop i all)) (entry_view x) (table_view (drop (i + 1) all)) c.left.invariant.unshared next
          (none_found right (view x.term) c.listed_by.result c.in_default.not-Some (c.listed_by.ensures right (view x.term) c.in_ok-index.ensures fit.0 (c.deref.ensures.value ∙ c.in_ok-key.ensures)));
      fit = fit.1;
    }
