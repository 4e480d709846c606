use Rattle.cert_reading.proofs.Lemmas.{room}
use Rattle.cert_reading.proofs.Prelude.{suc, [], ◌∷◌, map, length, linear_entry_view, Version, entries_marks, entries_from, ReadsWhere, WithinOpening}
use Rattle.cert_reading.proofs.measures.entries.Given as goal

abbrev pub invariant-entries : goal.invariant-entries
invariant-entries l = (v : Version) → ReadsWhere (WithinOpening v) l.fn.names l.fn.end (entries_from v 1 ∷ []) (λ u. entries_marks u 1 (map linear_entry_view l.entries.items))
    (entries_from v (suc (length (map linear_entry_view l.entries.items))) ∷ []) l.fn.at l.at

abbrev pub decreases-entries : goal.decreases-entries
decreases-entries l = room 25000 (length l.entries.items) l.at.refused
