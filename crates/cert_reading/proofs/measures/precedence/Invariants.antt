use Rattle.cert_reading.proofs.Lemmas.{room}
use Rattle.cert_reading.proofs.Prelude.{suc, [], ◌∷◌, map, length, head_view, second_version, heads_marks, heads_from, ReadsWhere, WithinOpening}
use Rattle.cert_reading.proofs.measures.precedence.Given as goal

abbrev pub invariant-order : goal.invariant-order
invariant-order l = ReadsWhere (WithinOpening second_version) l.fn.names l.fn.end (heads_from 1 ∷ []) (λ u. heads_marks u 1 (map head_view l.order.items))
    (heads_from (suc (length (map head_view l.order.items))) ∷ []) l.fn.at l.at

abbrev pub decreases-order : goal.decreases-order
decreases-order l = room 25000 (length l.order.items) l.at.refused
