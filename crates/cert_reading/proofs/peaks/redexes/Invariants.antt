use Rattle.cert_reading.proofs.Lemmas.{room}
use Rattle.cert_reading.proofs.Prelude.{◌≡◌, suc, [], ◌∷◌, None, map, length, redex_view, redexes_marks, Reads, RedexesUse, version_by, automata_by, uses_by, AreKnown}
use Rattle.cert_grammar.specs.Items as spec
use Rattle.cert_reading.proofs.peaks.redexes.Given as goal

abbrev pub invariant-redexes : goal.invariant-redexes
invariant-redexes l = record {
  read : Reads l.fn.names l.fn.end (spec.redexes_from (version_by l.fn.uses) 1 ∷ []) (λ u. redexes_marks u (uses_by l.fn.names l.fn.uses) 1 (map redex_view l.redexes.items))
      (spec.redexes_from (version_by l.fn.uses) (suc (length (map redex_view l.redexes.items))) ∷ []) l.fn.at l.at;
  plain : l.at.refused ≡ None → RedexesUse (version_by l.fn.uses) (automata_by l.fn.uses) (map redex_view l.redexes.items);
  known : AreKnown l.fn.names l.fn.uses l.fn.end l.at;
}

abbrev pub decreases-redexes : goal.decreases-redexes
decreases-redexes l = room 20000 (length l.redexes.items) l.at.refused
