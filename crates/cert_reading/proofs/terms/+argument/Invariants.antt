use Rattle.cert_reading.proofs.Lemmas.{so_far}
use Rattle.cert_reading.proofs.Prelude.{◌≡◌, ◌<◌, ◌≤◌, ◌+◌, ◌-◌, ◌*◌, if◌then◌else◌, ℕ, suc, false, List, [], ◌∷◌, None, length, map, size_all, view, views, Frame, Reads, behind_argument}
use Rattle.cert_grammar.specs.Items as spec
use Rattle.cert_reading.proofs.terms.+argument.Given as goal

abbrev pub invariant-arguments-arguments : goal.invariant-arguments-arguments
invariant-arguments-arguments l = record {
  read : (name : List ℕ) (fs : List Frame) → suc (suc (length fs)) ≡ l.fn.depth
      → Reads l.fn.names l.fn.end (spec.node l.fn.n (record { name = name; argument = 1 } ∷ fs) ∷ []) (λ u. so_far l.more u l.fn.depth l.fn.n (map view l.args.items))
      (behind_argument l.more l.next (record { name = name; argument = length l.args.items }) fs ∷ []) l.fn.at l.at;
  counted : l.at.refused ≡ None → l.next ≡ l.fn.n + size_all (views l.args.items);
  some : l.at.refused ≡ None → l.more ≡ false → 0 < length l.args.items;
  low : l.fn.n ≤ l.next;
  high : l.next ≤ 10001;
}

abbrev pub decreases-argument : goal.decreases-argument
decreases-argument l = 2 * (402 - l.depth)

abbrev pub decreases-arguments : goal.decreases-arguments
decreases-arguments l = 2 * (402 - l.depth) + 1

abbrev pub decreases-arguments-arguments : goal.decreases-arguments-arguments
decreases-arguments-arguments l = 2 * (10001 - l.next) + (if l.more then 1 else 0)
