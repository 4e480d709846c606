use Rattle.std.proofs.Common.{map}
use Rattle.cert_model.specs.CertificateView.{pair_entry_view}
use Rattle.cert_model.proofs.CertificateViews.{ortho_shown}
use Rattle.critical_pairs.specs.View.{overlap_view}
use Rattle.ortho_search.proofs.Ending.{written_searched, written_paid, row_searched, row_paid, spent_searched}
use Rattle.ortho_search.proofs.search_open.Goals as goal

pub returns-in-Found-clause-searched : goal.returns-in-Found-clause-searched
returns-in-Found-clause-searched c =
    let w = rw c.in-Found.is at c.in_ok-pairs.ensures.answer in
    written_searched c.args.names.now c.args.sys.now (map overlap_view c.args.overlaps.now) c.requires.classes c.requires.overlaps c.args.budget.now c.entries_for.new.budget
    (map pair_entry_view c.in-Found.pairs.items) w.0 w.1 w.2 _ (ortho_shown c.in-Found.pairs) c.found_if_written.result c.found_if_written.ensures

pub returns-in-Found-clause-paid : goal.returns-in-Found-clause-paid
returns-in-Found-clause-paid c =
    let w = rw c.in-Found.is at c.in_ok-pairs.ensures.answer in
    written_paid c.args.names.now c.args.sys.now (map overlap_view c.args.overlaps.now) c.requires.classes c.requires.overlaps c.args.budget.now c.entries_for.new.budget
    (map pair_entry_view c.in-Found.pairs.items) w.0 w.1 w.2 _ (ortho_shown c.in-Found.pairs) c.found_if_written.result c.found_if_written.ensures

pub returns-in-Nothing-clause-searched : goal.returns-in-Nothing-clause-searched
returns-in-Nothing-clause-searched c =
    let w = rw c.in-Nothing.is at c.in_ok-pairs.ensures.answer in
    row_searched c.args.names.now c.args.sys.now (map overlap_view c.args.overlaps.now) c.requires.classes c.requires.overlaps c.args.budget.now c.entries_for.new.budget w.0 w.1 w.2

pub returns-in-Nothing-clause-paid : goal.returns-in-Nothing-clause-paid
returns-in-Nothing-clause-paid c =
    let w = rw c.in-Nothing.is at c.in_ok-pairs.ensures.answer in
    row_paid c.args.names.now c.args.sys.now (map overlap_view c.args.overlaps.now) c.requires.classes c.requires.overlaps c.args.budget.now c.entries_for.new.budget w.0 w.1 w.2

pub returns-in-Spent-clause-searched : goal.returns-in-Spent-clause-searched
returns-in-Spent-clause-searched c =
    let w = rw c.in-Spent.is at c.in_ok-pairs.ensures.answer in
    spent_searched c.args.names.now c.args.sys.now (map overlap_view c.args.overlaps.now) c.requires.classes c.requires.overlaps c.args.budget.now c.entries_for.new.budget w.0 w.1 w.2 w.3
