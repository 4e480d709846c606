use Rattle.std.proofs.Common.{refl, arith}
use Rattle.cert_model.specs.EvidenceView.{pair_evidence_view}
use Rattle.critical_pairs.specs.View.{overlap_view}
use Rattle.search_spaces.specs.Entries.{entry_for}
use Rattle.cc_count.proofs.Spending.{kept_on}
use Rattle.pair_search.specs.Answers.{HasFirst}
use Rattle.pair_search.proofs.Walking.{among_here, entry_more, row_ends, row_stops}
use Rattle.pair_search.proofs.entries.entries_for.Goals as goal

pub try_for-requires : goal.try_for-requires
try_for-requires g c = record {
  overlap = c.requires.overlaps (overlap_view c.overlap-item.result) (among_here c.args.overlaps.now c.rows.overlap-index c.overlap-item.result c.rows-test.true c.overlap-item.is);
  knows = c.rows.invariant.knows;
}

pub returns-in_err-evidence-clause-kept : goal.returns-in_err-evidence-clause-kept
returns-in_err-evidence-clause-kept g c = kept_on _ _ _ (c.rows.invariant.far.0, c.rows.invariant.far.1) c.in_err-evidence.ensures.kept

pub returns-in_err-add_entry-in-Found-clause-kept : goal.returns-in_err-add_entry-in-Found-clause-kept
returns-in_err-add_entry-in-Found-clause-kept g c = kept_on _ _ _ (c.rows.invariant.far.0, c.rows.invariant.far.1) c.in_ok-evidence.ensures.kept

pub returns-in-Nothing-clause-answer : goal.returns-in-Nothing-clause-answer
returns-in-Nothing-clause-answer g c =
    let sys = c.args.sys.now in
    let o = overlap_view c.overlap-item.result in
    let w = rw c.in-Nothing.is at c.in_ok-evidence.ensures.answer in
    row_ends (HasFirst (g.T.OverlapTrial.first sys)) c.args.overlaps.now c.rows.overlap-index c.overlap-item.result c.rows-test.true c.overlap-item.is c.args.budget.now c.rows.budget
    c.try_for.new.budget c.rows.entries.items c.rows.invariant.far (g.T.OverlapTrial.whole sys) w.0 (λ entry n f. g.met.T.OverlapTrial.none_first sys o f.0 n w.1 f.1)

pub returns-in-Nothing-clause-kept : goal.returns-in-Nothing-clause-kept
returns-in-Nothing-clause-kept g c = kept_on _ _ _ (c.rows.invariant.far.0, c.rows.invariant.far.1) c.in_ok-evidence.ensures.kept

pub returns-in-Spent-clause-answer : goal.returns-in-Spent-clause-answer
returns-in-Spent-clause-answer g c =
    let sys = c.args.sys.now in
    row_stops (HasFirst (g.T.OverlapTrial.first sys)) c.args.overlaps.now c.rows.overlap-index c.overlap-item.result c.rows-test.true c.overlap-item.is c.args.budget.now c.rows.budget
    c.try_for.new.budget c.rows.entries.items c.rows.invariant.far (g.T.OverlapTrial.stops sys) (rw c.in-Spent.is at c.in_ok-evidence.ensures.answer)

pub returns-in-Spent-clause-kept : goal.returns-in-Spent-clause-kept
returns-in-Spent-clause-kept g c = kept_on _ _ _ (c.rows.invariant.far.0, c.rows.invariant.far.1) c.in_ok-evidence.ensures.kept

pub rows-preserved : goal.rows-preserved
rows-preserved g c =
    let below = c.rows-test.true in
    let o = overlap_view c.overlap-item.result in
    let e = pair_evidence_view c.in-Found.evidence in
    let w = rw c.in-Found.is at c.in_ok-evidence.ensures.answer in
    record {
      within = omega (arith, below);
      far = entry_more (HasFirst (g.T.OverlapTrial.first c.args.sys.now)) c.args.overlaps.now c.rows.overlap-index c.overlap-item.result c.rows-test.true c.overlap-item.is c.args.budget.now
          c.rows.budget c.try_for.new.budget c.rows.entries.items c.rows.invariant.far
          (entry_for o e) (w.0, w.1, (e, w.2, refl)) c.add_entry.new.entries.items c.in_ok-add_entry-in-Found.ensures;
      knows = c.in_ok-evidence.ensures.knows;
    }
