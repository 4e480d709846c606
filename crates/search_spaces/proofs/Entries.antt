-- The first valid evidence for an overlap is one.
use Rattle.std.proofs.Common.{ℕ, ◌≡◌, ◌<◌, ◌≤◌, List, sym, ap, ◌∙◌, subst}
use Rattle.rewriting.specs.Rules.{Condition, System}
use Rattle.rewriting.proofs.Once.{same_some}
use Rattle.unifier_run.specs.Overlaps.{Overlap}
use Rattle.certificates.specs.Prelude.{InfeasibilityEvidence, by_automaton, PairEvidence, infeasible_pair, PairEntry, hypothesis_at}
use Rattle.valid_certificates.specs.Kinds.{Kind}
use Rattle.first_found.specs.Items.{one}
use Rattle.first_found.proofs.Items.{first_within, first_once, stopped_before, stopped_within}
use Rattle.search_spaces.specs.Grown.{GrowsTo}
use Rattle.search_spaces.specs.Refuting.{Refuting, try_caps, try_growth, Tries}
use Rattle.search_spaces.specs.PairItems.{PairItem, try_evidence, try_refuting, Offers, GivesEvidence}
use Rattle.search_spaces.specs.Entries.{entry_for, IsFirstEntry, overlap_cost, StopsAtOverlap}
use Rattle.search_spaces.proofs.GrownOnce.{grown_once}

pub tries_once : (sys : System) (cs : List Condition) (r : Refuting) (d e : InfeasibilityEvidence) → Tries sys cs r d → Tries sys cs r e → d ≡ e
tries_once sys cs try_caps d e h k = h ∙ sym k
tries_once sys cs (try_growth n) d e (c, a, is, g, x) (b, z, at, w, y) =
    let same = same_some (hypothesis_at cs n) b c at is in
    let grown = subst (λ q. GrowsTo sys q.left z) same w in
    x ∙ ap (by_automaton n) (grown_once sys c.left a z g grown) ∙ sym y

module _ (sys : System) (o : Overlap) where
  pub offers_once : (item : PairItem) (d e : PairEvidence) → Offers sys o item d → Offers sys o item e → d ≡ e
  offers_once (try_evidence x) d e h k = h ∙ sym k
  offers_once (try_refuting r) d e (x, h, i) (y, k, j) = i ∙ ap infeasible_pair (tries_once sys o.pair.conditions r x y h k) ∙ sym j

module _ (kind : Kind) (sys : System) (items : Overlap → List PairItem) (o : Overlap) where
  pub entry_once : (x y : PairEntry) (n m : ℕ) → IsFirstEntry kind sys items o x n → IsFirstEntry kind sys items o y m → (n ≡ m) × (x ≡ y)
  entry_once x y n m (d, f, p) (e, g, q) =
      let same = first_once (GivesEvidence kind sys o) one (items o) d e n m f g in
      (same.0, p ∙ ap (entry_for o) (offers_once sys o same.1.0 d e same.1.1.0 same.1.2.0) ∙ sym q)

  pub entry_within : (x : PairEntry) (n : ℕ) → IsFirstEntry kind sys items o x n → n ≤ overlap_cost items o
  entry_within x n (e, f, p) = first_within (GivesEvidence kind sys o) one (items o) e n f

  pub stops_before : (x : PairEntry) (n m : ℕ) → StopsAtOverlap kind sys items o n → IsFirstEntry kind sys items o x m → n < m
  stops_before x n m s (e, f, p) = stopped_before (GivesEvidence kind sys o) one (items o) e n m s f

  pub stops_within : (n : ℕ) → StopsAtOverlap kind sys items o n → n < overlap_cost items o
  stops_within n s = stopped_within (GivesEvidence kind sys o) one (items o) n s
