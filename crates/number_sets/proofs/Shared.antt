-- Words that are cut to what others have, what two lists of words share, and sets of all numbers below a count.
use Rattle.std.proofs.Common.{◌≡◌, ◌↔◌, ◌⊎◌, inl, inr, ⊎_elim, ℕ, zero, suc, ◌+◌, ◌*◌, ◌/◌, ◌%◌, ◌<◌, ◌≤◌, bit_and, min, true, List, [], ◌∷◌, length, get_or, refl, ap, subst, ◌∙◌, arith}
use Rattle.std.specs.Int.{bit_at}
use Rattle.std.proofs.lemmas.Bool.{cases_lt}
use Rattle.std.proofs.lemmas.Nat.Bits.{bit_at-lt, bit_at_and}
use Rattle.rewriting.specs.Lists.{IsAmong}
use Rattle.number_sets.specs.Sets.{is_set, members}
use Rattle.number_sets.specs.Words.{AreJoined}
use Rattle.number_sets.specs.declared.words.NumberSet.{NumberSet}
use Rattle.number_sets.proofs.Bits.{bit_of, of_bit, set_within, in_members}

-- the new words have no more words than the others, the first n with what both have, and the rest as in the old ones
pub record AreShared (old others new : List ℕ) (n : ℕ) : Type 0 where
  pub long : length new ≡ min (length old) (length others)
  pub done : (k : ℕ) → k < n → get_or new k 0 ≡ bit_and (get_or old k 0) (get_or others k 0)
  pub rest : (k : ℕ) → n ≤ k → k < length new → get_or new k 0 ≡ get_or old k 0

shared_at : (old others new : List ℕ) (n q : ℕ) → AreShared old others new n → length new ≤ n → q / 64 < length new
    → bit_at (get_or new (q / 64) 0) (q % 64) ≡ min (bit_at (get_or old (q / 64) 0) (q % 64)) (bit_at (get_or others (q / 64) 0) (q % 64))
shared_at old others new n q h long inside = ap (λ (w : ℕ). bit_at w (q % 64)) (h.done (q / 64) (omega arith)) ∙ bit_at_and (get_or old (q / 64) 0) (get_or others (q / 64) 0) (q % 64)

pub shared_all : (s o t : NumberSet) (n : ℕ) → AreShared s.words.items o.words.items t.words.items n → length t.words.items ≤ n → (q : ℕ)
    → IsAmong q (members t) ↔ (IsAmong q (members s) × IsAmong q (members o))
shared_all s o t n h long q = (
  λ i.
      let bit = (in_members t q).0 i in
      let low = set_within t.words.items q bit in
      let one = bit_of t.words.items q (q / 64) refl bit in
      let both = shared_at s.words.items o.words.items t.words.items n q h long (omega arith) in
      let a = bit_at-lt (get_or s.words.items (q / 64) 0) (q % 64) in
      let b = bit_at-lt (get_or o.words.items (q / 64) 0) (q % 64) in (
        (in_members s q).1 (of_bit s.words.items q (q / 64) refl (omega arith)),
        (in_members o q).1 (of_bit o.words.items q (q / 64) refl (omega arith)),
      ),
  λ i.
      let first = (in_members s q).0 i.0 in
      let second = (in_members o q).0 i.1 in
      let low = set_within s.words.items q first in
      let below = set_within o.words.items q second in
      let one = bit_of s.words.items q (q / 64) refl first in
      let two = bit_of o.words.items q (q / 64) refl second in
      let size = h.long in
      let both = shared_at s.words.items o.words.items t.words.items n q h long (omega arith) in
      (in_members t q).1 (of_bit t.words.items q (q / 64) refl (omega arith)),
)

-- what two lists of words share, word by word
abbrev pub both_words : List ℕ → List ℕ → List ℕ
both_words [] vs = []
both_words (w ∷ ws) [] = []
both_words (w ∷ ws) (v ∷ vs) = bit_and w v ∷ both_words ws vs

length_both : (ws vs : List ℕ) → length (both_words ws vs) ≡ min (length ws) (length vs)
length_both [] vs = omega arith
length_both (w ∷ ws) [] = omega arith
length_both (w ∷ ws) (v ∷ vs) = omega (arith, length_both ws vs)

pub both_at : (ws vs : List ℕ) (p : ℕ) → p < length ws → p < length vs → get_or (both_words ws vs) p 0 ≡ bit_and (get_or ws p 0) (get_or vs p 0)
both_at [] vs p h k = absurd (omega arith)
both_at (w ∷ ws) [] p h k = absurd (omega arith)
both_at (w ∷ ws) (v ∷ vs) zero h k = refl
both_at (w ∷ ws) (v ∷ vs) (suc p) h k = both_at ws vs p (omega arith) (omega arith)

both_bit : (ws vs : List ℕ) (q : ℕ) → q / 64 < length ws → q / 64 < length vs
    → bit_at (get_or (both_words ws vs) (q / 64) 0) (q % 64) ≡ min (bit_at (get_or ws (q / 64) 0) (q % 64)) (bit_at (get_or vs (q / 64) 0) (q % 64))
both_bit ws vs q h k = ap (λ (w : ℕ). bit_at w (q % 64)) (both_at ws vs (q / 64) h k) ∙ bit_at_and (get_or ws (q / 64) 0) (get_or vs (q / 64) 0) (q % 64)

in_both : (ws vs : List ℕ) (q : ℕ) → (is_set (both_words ws vs) q ≡ true) ↔ ((is_set ws q ≡ true) × (is_set vs q ≡ true))
in_both ws vs q = (
  λ s.
      let low = set_within (both_words ws vs) q s in
      let long = length_both ws vs in
      let one = bit_of (both_words ws vs) q (q / 64) refl s in
      let both = both_bit ws vs q (omega arith) (omega arith) in
      let a = bit_at-lt (get_or ws (q / 64) 0) (q % 64) in
      let b = bit_at-lt (get_or vs (q / 64) 0) (q % 64) in
      (of_bit ws q (q / 64) refl (omega arith), of_bit vs q (q / 64) refl (omega arith)),
  λ (s, t).
      let low = set_within ws q s in
      let below = set_within vs q t in
      let one = bit_of ws q (q / 64) refl s in
      let two = bit_of vs q (q / 64) refl t in
      let both = both_bit ws vs q (omega arith) (omega arith) in
      of_bit (both_words ws vs) q (q / 64) refl (omega arith),
)

-- a set that gets what two others share
pub joined_both : (s a b t : NumberSet) (n : ℕ) → AreJoined s.words.items (both_words a.words.items b.words.items) t.words.items (64 * n) → min (length a.words.items) (length b.words.items) ≤ n
    → (q : ℕ) → IsAmong q (members t) ↔ (IsAmong q (members s) ⊎ (IsAmong q (members a) × IsAmong q (members b)))
joined_both s a b t n h long q = (
  λ i.
      ⊎_elim (λ o. inl ((in_members s q).1 o)) (λ o. let both = (in_both a.words.items b.words.items q).0 o.1 in inr ((in_members a q).1 both.0, (in_members b q).1 both.1))
      ((h q).0 ((in_members t q).0 i)),
  λ e.
      (in_members t q).1
      ((h q).1
      (⊎_elim (λ i. inl ((in_members s q).0 i))
      (λ (i, j).
      let first = (in_members a q).0 i in
      let second = (in_members b q).0 j in
      let low = set_within a.words.items q first in
      let below = set_within b.words.items q second in
      inr (omega arith, (in_both a.words.items b.words.items q).1 (first, second)))
      e)),
)

-- the numbers below a count, one more at a time
pub none_below : (xs : List ℕ) → xs ≡ [] → (q : ℕ) → IsAmong q xs ↔ (q < 0)
none_below xs e q = (λ i. absurd (subst (λ (l : List ℕ). IsAmong q l) e i), λ (l : q < 0). absurd (omega arith))

pub one_below : (old new : List ℕ) (n : ℕ) → ((q : ℕ) → IsAmong q old ↔ (q < n)) → ((q : ℕ) → IsAmong q new ↔ (IsAmong q old ⊎ (q ≡ n))) → (q : ℕ) → IsAmong q new ↔ (q < n + 1)
one_below old new n front more q = (
  λ i. ⊎_elim (λ o. let low = (front q).0 o in omega arith) (λ e. omega arith) ((more q).0 i),
  λ (l : q < n + 1). (more q).1 (⊎_elim (λ (low : q < n). inl ((front q).1 low)) (λ (high : n ≤ q). inr (omega arith)) (cases_lt q n)),
)

pub all_below : (xs : List ℕ) (n count : ℕ) → n ≡ count → ((q : ℕ) → IsAmong q xs ↔ (q < n)) → (q : ℕ) → IsAmong q xs ↔ (q < count)
all_below xs n count e h q = subst (λ (k : ℕ). IsAmong q xs ↔ (q < k)) e (h q)
