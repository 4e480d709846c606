use Rattle.cc_count.proofs.Spending.{kept_on}
use Rattle.std.proofs.Common.{map}
use Rattle.cert_model.specs.CertificateView.{pair_entry_view, measure_view}
use Rattle.cert_model.proofs.CertificateViews.{quasi_shown}
use Rattle.quasi_search.proofs.Ending.{row_searched, row_spent, written_searched, none_searched, spent_searched}
use Rattle.quasi_search.proofs.search_open.Goals as goal

pub returns-in-Nothing-clause-pruned : goal.returns-in-Nothing-clause-pruned
returns-in-Nothing-clause-pruned c =
    row_searched _ _ _ c.requires.rules c.requires.overlaps _ _
    (rw c.in-Nothing.is at c.in_ok-pairs.ensures.answer)

pub returns-in-Spent-clause-pruned : goal.returns-in-Spent-clause-pruned
returns-in-Spent-clause-pruned c =
    row_spent _ _ _ c.requires.rules c.requires.overlaps _ _
    (rw c.in-Spent.is at c.in_ok-pairs.ensures.answer)

pub returns-in_err-measure-clause-kept : goal.returns-in_err-measure-clause-kept
returns-in_err-measure-clause-kept c = kept_on _ _ _ c.in_ok-pairs.ensures.kept c.in_err-measure.ensures.kept

pub returns-in-Found-2-clause-pruned : goal.returns-in-Found-2-clause-pruned
returns-in-Found-2-clause-pruned c =
    let m = rw c.system.ensures at (rw c.in-Found-2.is at c.in_ok-measure.ensures.answer) in
    written_searched _ _ _ c.requires.rules c.requires.overlaps _ c.entries_for.new.budget _ (map pair_entry_view c.in-Found.pairs.items)
    (rw c.in-Found.is at c.in_ok-pairs.ensures.answer) (measure_view c.in-Found-2.measure) m.0 m.1 m.2 _ (quasi_shown c.in-Found-2.measure c.in-Found.pairs)
    c.found_if_written.result c.found_if_written.ensures

pub returns-in-Found-2-clause-kept : goal.returns-in-Found-2-clause-kept
returns-in-Found-2-clause-kept c = kept_on _ _ _ c.in_ok-pairs.ensures.kept c.in_ok-measure.ensures.kept

pub returns-in-Nothing-2-clause-pruned : goal.returns-in-Nothing-2-clause-pruned
returns-in-Nothing-2-clause-pruned c =
    none_searched _ _ _ c.requires.rules c.requires.overlaps _ c.entries_for.new.budget _ (map pair_entry_view c.in-Found.pairs.items) (rw c.in-Found.is at c.in_ok-pairs.ensures.answer)
    (rw c.system.ensures at (rw c.in-Nothing-2.is at c.in_ok-measure.ensures.answer))

pub returns-in-Nothing-2-clause-kept : goal.returns-in-Nothing-2-clause-kept
returns-in-Nothing-2-clause-kept c = kept_on _ _ _ c.in_ok-pairs.ensures.kept c.in_ok-measure.ensures.kept

pub returns-in-Spent-2-clause-pruned : goal.returns-in-Spent-2-clause-pruned
returns-in-Spent-2-clause-pruned c =
    spent_searched _ _ _ c.requires.rules c.requires.overlaps _ c.entries_for.new.budget _ (map pair_entry_view c.in-Found.pairs.items) (rw c.in-Found.is at c.in_ok-pairs.ensures.answer)
    (rw c.system.ensures at (rw c.in-Spent-2.is at c.in_ok-measure.ensures.answer))

pub returns-in-Spent-2-clause-kept : goal.returns-in-Spent-2-clause-kept
returns-in-Spent-2-clause-kept c = kept_on _ _ _ c.in_ok-pairs.ensures.kept c.in_ok-measure.ensures.kept
