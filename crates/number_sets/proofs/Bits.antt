-- The bits of words, and the numbers that they stand for.
use Rattle.std.proofs.Common.{◌≡◌, ◌↔◌, ◌⊎◌, inl, inr, ⊎_elim, ℕ, zero, suc, ◌+◌, ◌*◌, ◌/◌, ◌%◌, ◌^◌, ◌<◌, ◌≤◌, ◌≢◌, Bool, true, false, if◌then◌else◌, nat_eq, eqb-true, eq-eqb}
use Rattle.std.proofs.Common.{bit_or, List, [], ◌∷◌, ◌++◌, length, get_or, Some, refl, ap, sym, subst, ◌∙◌, append-nil, arith}
use Rattle.std.specs.Int.{bit_at, w64}
use Rattle.std.specs.List.{filter}
use Rattle.std.proofs.Math.ListN.{set}
use Rattle.std.proofs.lemmas.Bool.{cases_lt, cases_eq}
use Rattle.std.proofs.lemmas.List.{get_or_past, get_or-set_same, get_or-set_other}
use Rattle.std.proofs.lemmas.List.Elements.{filter-append}
use Rattle.std.proofs.lemmas.Nat.Bits.{bit_at-zero, bit_at-lt, bit_at_or, bit_at_set_same, bit_at_set_other, same_from_bits_below}
use Rattle.rewriting.specs.Lists.{IsAmong}
use Rattle.rewriting.proofs.Members.{none_among}
use Rattle.number_sets.specs.Sets.{below, is_set, members, members_below, IsLacking}
use Rattle.number_sets.specs.Words.{AreHad, IsFirstLacking, AreJoined}
use Rattle.number_sets.specs.declared.words.NumberSet.{NumberSet}
use Rattle.number_sets.proofs.Members.{in_filter, filter_in, in_below, members_ascending, same_numbers}

-- the bit of a number in its word
pub bit_of : (words : List ℕ) (q p : ℕ) → q / 64 ≡ p → is_set words q ≡ true → bit_at (get_or words p 0) (q % 64) ≡ 1
bit_of words q p at s = ap (λ (k : ℕ). bit_at (get_or words k 0) (q % 64)) (sym at) ∙ eqb-true (bit_at (get_or words (q / 64) 0) (q % 64)) 1 s

pub of_bit : (words : List ℕ) (q p : ℕ) → q / 64 ≡ p → bit_at (get_or words p 0) (q % 64) ≡ 1 → is_set words q ≡ true
of_bit words q p at b = eq-eqb (bit_at (get_or words (q / 64) 0) (q % 64)) 1 (ap (λ (k : ℕ). bit_at (get_or words k 0) (q % 64)) at ∙ b)

-- words that are alike at a place have the same numbers there
pub set_alike : (words others : List ℕ) (q : ℕ) → get_or words (q / 64) 0 ≡ get_or others (q / 64) 0 → is_set words q ≡ true → is_set others q ≡ true
set_alike words others q e s = ap (λ (w : ℕ). nat_eq (bit_at w (q % 64)) 1) (sym e) ∙ s

not_in_zero : (words : List ℕ) (q : ℕ) → get_or words (q / 64) 0 ≡ 0 → is_set words q ≡ true → ⊥
not_in_zero words q none s =
    let one : bit_at (get_or words (q / 64) 0) (q % 64) ≡ 1 = bit_of words q (q / 64) refl s in
    let off : bit_at (get_or words (q / 64) 0) (q % 64) ≡ 0 = ap (λ (w : ℕ). bit_at w (q % 64)) none ∙ bit_at-zero (q % 64) in
    omega arith

pub set_within : (words : List ℕ) (q : ℕ) → is_set words q ≡ true → q < 64 * length words
set_within words q s = go (cases_lt (q / 64) (length words))
  where
    go : (q / 64 < length words) ⊎ (length words ≤ q / 64) → q < 64 * length words
    go (inl l) = omega arith
    go (inr l) = absurd (not_in_zero words q (get_or_past words (q / 64) 0 l) s)

-- the numbers of words are those with a bit
pub in_words : (words : List ℕ) (q : ℕ) → IsAmong q (members_below words (64 * length words)) ↔ (is_set words q ≡ true)
in_words words q = (
  λ h. (in_filter (is_set words) q (below (64 * length words)) h).1,
  λ s. filter_in (is_set words) q (below (64 * length words)) (in_below (64 * length words) q (set_within words q s)) s,
)

pub in_members : (s : NumberSet) (q : ℕ) → IsAmong q (members s) ↔ (is_set s.words.items q ≡ true)
in_members s q = in_words s.words.items q

-- the numbers in order, one more at a time
more : (words : List ℕ) (n : ℕ) → members_below words (n + 1) ≡ members_below words n ++ filter (is_set words) (n ∷ [])
more words n = let one : n + 1 ≡ suc n = omega arith in ap (members_below words) one ∙ filter-append (is_set words) (below n) (n ∷ [])

pub more_unset : (words : List ℕ) (n : ℕ) → is_set words n ≡ false → members_below words (n + 1) ≡ members_below words n
more_unset words n s = more words n ∙ ap (λ (b : Bool). members_below words n ++ (if b then (n ∷ []) else [])) s ∙ append-nil (members_below words n)

skipped : (words : List ℕ) (n m : ℕ) → ((k : ℕ) → n ≤ k → k < n + m → is_set words k ≡ false) → members_below words (n + m) ≡ members_below words n
skipped words n zero f = let none : n + zero ≡ n = omega arith in ap (members_below words) none
skipped words n (suc m) f =
    let one : n + suc m ≡ (n + m) + 1 = omega arith in
    ap (members_below words) one ∙ more_unset words (n + m) (f (n + m) (omega arith) (omega arith)) ∙ skipped words n m (λ k l h. f k l (omega arith))

pub word_skipped : (words : List ℕ) (p : ℕ) → get_or words p 0 ≡ 0 → members_below words (64 * (p + 1)) ≡ members_below words (64 * p)
word_skipped words p none = let long : 64 * (p + 1) ≡ 64 * p + 64 = omega arith in ap (members_below words) long ∙ skipped words (64 * p) 64 off
  where
    off : (k : ℕ) → 64 * p ≤ k → k < 64 * p + 64 → is_set words k ≡ false
    off k l h =
        let at : k / 64 ≡ p = omega arith in
        let bit : bit_at (get_or words (k / 64) 0) (k % 64) ≡ 0 = ap (λ (j : ℕ). bit_at (get_or words j 0) (k % 64)) at ∙ ap (λ (w : ℕ). bit_at w (k % 64)) none ∙ bit_at-zero (k % 64) in
        ap (λ (b : ℕ). nat_eq b 1) bit

-- words that are all zero, and one that is not
all_zero : (words : List ℕ) → ((k : ℕ) → k < length words → get_or words k 0 ≡ 0) → members_below words (64 * length words) ≡ []
all_zero words h = none_among (members_below words (64 * length words)) (λ q i. let s = (in_words words q).0 i in let low = set_within words q s in not_in_zero words q (h (q / 64) (omega arith)) s)

some_word : (words : List ℕ) (p : ℕ) → get_or words p 0 < 2 ^ 64 → get_or words p 0 ≢ 0 → members_below words (64 * length words) ≡ [] → ⊥
some_word words p fits some none = some (same_from_bits_below 64 (get_or words p 0) 0 fits (omega arith) (λ i l. off i l ∙ sym (bit_at-zero i)))
  where
    off : (i : ℕ) → i < 64 → bit_at (get_or words p 0) i ≡ 0
    off i l =
        let q = 64 * p + i in
        let at : (64 * p + i) / 64 ≡ p = omega arith in
        let place : (64 * p + i) % 64 ≡ i = omega arith in
        let never : bit_at (get_or words p 0) i ≡ 1 → ⊥ =
        λ b. subst (λ (l : List ℕ). IsAmong (64 * p + i) l) none ((in_words words (64 * p + i)).1 (of_bit words (64 * p + i) p at (ap (bit_at (get_or words p 0)) place ∙ b))) in
        omega (arith, never, bit_at-lt (get_or words p 0) i)

pub empty_by : (s : NumberSet) (words : List ℕ) → words ≡ s.words.items → (n : ℕ) → length words ≤ n → ((k : ℕ) → k < n → get_or words k 0 ≡ 0) → members s ≡ []
empty_by s words e n long h = ap (λ (l : List ℕ). members_below l (64 * length l)) (sym e) ∙ all_zero words (λ k l. h k (omega arith))

pub filled_by : (s : NumberSet) (words : List ℕ) → words ≡ s.words.items → (p : ℕ) → get_or words p 0 < 2 ^ 64 → (get_or words p 0 ≡ 0 → ⊥) → members s ≡ [] → ⊥
filled_by s words e p fits some none = some_word words p fits some (ap (λ (l : List ℕ). members_below l (64 * length l)) e ∙ none)

-- a word that has nothing that the other lacks
pub had_more : (words others : List ℕ) (p : ℕ) → bit_or (get_or words p 0) (get_or others p 0) ≡ get_or others p 0 → AreHad words others (64 * p) → AreHad words others (64 * (p + 1))
had_more words others p e front q low s = go (cases_lt q (64 * p))
  where
    go : (q < 64 * p) ⊎ (64 * p ≤ q) → is_set others q ≡ true
    go (inl l) = front q l s
    go (inr l) =
        let at : q / 64 ≡ p = omega arith in
        let here : bit_at (get_or words p 0) (q % 64) ≡ 1 = bit_of words q p at s in
        let joined = bit_at_or (get_or words p 0) (get_or others p 0) (q % 64) in
        let same : bit_at (bit_or (get_or words p 0) (get_or others p 0)) (q % 64) ≡ bit_at (get_or others p 0) (q % 64) = ap (λ (w : ℕ). bit_at w (q % 64)) e in
        of_bit others q p at (omega (arith, joined, same, here, bit_at-lt (get_or others p 0) (q % 64)))

-- a word that gets the bits of another
pub joined_more : (old others new : List ℕ) (p : ℕ) → p < length new → AreJoined old others new (64 * p)
    → AreJoined old others (set new p (bit_or (get_or new p 0) (get_or others p 0))) (64 * (p + 1))
joined_more old others new p inside front q = go (cases_eq (q / 64) p)
  where
    go : (q / 64 ≡ p) ⊎ (q / 64 ≢ p) → (is_set (set new p (bit_or (get_or new p 0) (get_or others p 0))) q ≡ true) ↔ ((is_set old q ≡ true) ⊎ ((q < 64 * (p + 1)) × (is_set others q ≡ true)))
    go (inl at) =
        let here : get_or (set new p (bit_or (get_or new p 0) (get_or others p 0))) p 0 ≡ bit_or (get_or new p 0) (get_or others p 0) = get_or-set_same new p
        (bit_or (get_or new p 0) (get_or others p 0)) 0 inside in
        let bit : bit_at (get_or (set new p (bit_or (get_or new p 0) (get_or others p 0))) p 0) (q % 64) ≡ bit_at (bit_or (get_or new p 0) (get_or others p 0)) (q % 64) = ap
        (λ (w : ℕ). bit_at w (q % 64)) here in
        let both = bit_at_or (get_or new p 0) (get_or others p 0) (q % 64) in
        let low : q < 64 * (p + 1) = omega arith in
        let a = bit_at-lt (get_or new p 0) (q % 64) in
        let b = bit_at-lt (get_or others p 0) (q % 64) in (
          λ s.
              let one = bit_of (set new p (bit_or (get_or new p 0) (get_or others p 0))) q p at s in
              let two : (bit_at (get_or new p 0) (q % 64) ≡ 1) ⊎ (bit_at (get_or others p 0) (q % 64) ≡ 1) =
              ⊎_elim (λ (e : bit_at (get_or new p 0) (q % 64) ≡ 1). inl e) (λ (e : bit_at (get_or new p 0) (q % 64) ≢ 1). inr (omega arith)) (cases_eq (bit_at (get_or new p 0) (q % 64)) 1) in
              ⊎_elim (λ n. ⊎_elim (λ o. inl o) (λ o. inr (low, o.1)) ((front q).0 (of_bit new q p at n))) (λ o. inr (low, of_bit others q p at o)) two,
          λ h.
              of_bit (set new p (bit_or (get_or new p 0) (get_or others p 0))) q p at
              (⊎_elim (λ o. let n = bit_of new q p at ((front q).1 (inl o)) in omega arith) (λ o. let n = bit_of others q p at o.1 in omega arith) h),
        )
    go (inr other) =
        let same : get_or (set new p (bit_or (get_or new p 0) (get_or others p 0))) (q / 64) 0 ≡ get_or new (q / 64) 0 = get_or-set_other new p (q / 64)
        (bit_or (get_or new p 0) (get_or others p 0)) 0 other in (
          λ s. ⊎_elim (λ o. inl o) (λ o. let low = o.0 in inr (omega arith, o.1)) ((front q).0 (set_alike _ new q same s)),
          λ h.
              set_alike new (set new p (bit_or (get_or new p 0) (get_or others p 0))) q (sym same)
              ((front q).1 (⊎_elim (λ o. inl o) (λ o. let low = o.0 in inr (omega arith, o.1)) h)),
        )

pub joined_next : (old others new : List ℕ) (p w v : ℕ) → w ≡ get_or new p 0 → v ≡ get_or others p 0 → p < length new → AreJoined old others new (64 * p)
    → AreJoined old others (set new p (bit_or w v)) (64 * (p + 1))
joined_next old others new p w v here there inside h =
    subst (λ (x : ℕ). AreJoined old others (set new p (bit_or x v)) (64 * (p + 1))) (sym here)
    (subst (λ (x : ℕ). AreJoined old others (set new p (bit_or (get_or new p 0) x)) (64 * (p + 1))) (sym there) (joined_more old others new p inside h))

-- a bit that is set
pub bit_put : (words : List ℕ) (n : ℕ) → n / 64 < length words → (q : ℕ)
    → (is_set (set words (n / 64) (bit_or (get_or words (n / 64) 0) (1 * 2 ^ (n % 64) % 2 ^ 64))) q ≡ true) ↔ ((is_set words q ≡ true) ⊎ (q ≡ n))
bit_put words n inside q = go (cases_eq (q / 64) (n / 64)) (cases_eq (q % 64) (n % 64))
  where
    word : ℕ
    word = bit_or (get_or words (n / 64) 0) (1 * 2 ^ (n % 64) % 2 ^ 64)

    here : get_or (set words (n / 64) word) (n / 64) 0 ≡ word
    here = get_or-set_same words (n / 64) word 0 inside

    go : (q / 64 ≡ n / 64) ⊎ (q / 64 ≢ n / 64) → (q % 64 ≡ n % 64) ⊎ (q % 64 ≢ n % 64) → (is_set (set words (n / 64) word) q ≡ true) ↔ ((is_set words q ≡ true) ⊎ (q ≡ n))
    go (inl at) (inl place) =
        let same : q ≡ n = omega arith in (
          λ s. inr same,
          λ h.
              of_bit (set words (n / 64) word) q (n / 64) at
              (ap (λ (w : ℕ). bit_at w (q % 64)) here ∙ ap (bit_at word) place ∙ bit_at_set_same w64 (get_or words (n / 64) 0) (n % 64) (omega arith)),
        )
    go (inl at) (inr apart) =
        let bit : bit_at word (q % 64) ≡ bit_at (get_or words (n / 64) 0) (q % 64) = bit_at_set_other w64 (get_or words (n / 64) 0) (n % 64) (omega arith) (q % 64) apart in
        let both : bit_at (get_or (set words (n / 64) word) (n / 64) 0) (q % 64) ≡ bit_at (get_or words (n / 64) 0) (q % 64) = ap (λ (w : ℕ). bit_at w (q % 64)) here ∙ bit in (
          λ s. inl (of_bit words q (n / 64) at (sym both ∙ bit_of (set words (n / 64) word) q (n / 64) at s)),
          λ h.
              ⊎_elim (λ o. of_bit (set words (n / 64) word) q (n / 64) at (both ∙ bit_of words q (n / 64) at o))
              (λ (e : q ≡ n). absurd (apart (ap (λ (k : ℕ). k % 64) e))) h,
        )
    go (inr other) place =
        let same : get_or (set words (n / 64) word) (q / 64) 0 ≡ get_or words (q / 64) 0 = get_or-set_other words (n / 64) (q / 64) word 0 other in (
          λ s. inl (set_alike (set words (n / 64) word) words q same s),
          λ h. ⊎_elim (λ o. set_alike words (set words (n / 64) word) q (sym same) o) (λ (e : q ≡ n). absurd (other (ap (λ (k : ℕ). k / 64) e))) h,
        )

-- what the words say of the sets
module _ (s o : NumberSet) (words others : List ℕ) (here : words ≡ s.words.items) (there : others ≡ o.words.items) where
  pub lacking_found : (n q : ℕ) → IsFirstLacking words others n (Some q) → IsLacking (members s) (members o) q
  lacking_found n q h = subst (λ (l : List ℕ). IsFirstLacking words l n (Some q) → IsLacking (members s) (members o) q) (sym there)
      (subst (λ (l : List ℕ). IsFirstLacking l o.words.items n (Some q) → IsLacking (members s) (members o) q) (sym here) from) h
    where
      from : IsFirstLacking s.words.items o.words.items n (Some q) → IsLacking (members s) (members o) q
      from (set, unset, front) = record {
        inside = (in_members s q).1 set;
        lacking = λ i. unset ((in_members o q).0 i);
        earlier = λ p i l. (in_members o p).1 (front p l ((in_members s p).0 i));
      }

  pub had_by : (n : ℕ) → AreHad words others n → AreHad s.words.items o.words.items n
  had_by n h = subst (λ (l : List ℕ). AreHad s.words.items l n) there (subst (λ (l : List ℕ). AreHad l others n) here h)

pub had_all : (s o : NumberSet) (n : ℕ) → AreHad s.words.items o.words.items (64 * n) → length s.words.items ≤ n → (q : ℕ) → IsAmong q (members s) → IsAmong q (members o)
had_all s o n h long q i = let set = (in_members s q).0 i in let low = set_within s.words.items q set in (in_members o q).1 (h q (omega arith) set)

-- sets that are joined
pub joined_first : (old others new : List ℕ) → ((k : ℕ) → get_or new k 0 ≡ get_or old k 0) → AreJoined old others new 0
joined_first old others new same q = (λ s. inl (set_alike new old q (same (q / 64)) s), λ h. ⊎_elim (λ s. set_alike old new q (sym (same (q / 64))) s) (λ (l, s). absurd (omega arith)) h)

pub joined_all : (s o t : NumberSet) (n : ℕ) → AreJoined s.words.items o.words.items t.words.items (64 * n) → length o.words.items ≤ n → (q : ℕ)
    → IsAmong q (members t) ↔ (IsAmong q (members s) ⊎ IsAmong q (members o))
joined_all s o t n h long q = (
  λ i. ⊎_elim (λ a. inl ((in_members s q).1 a)) (λ b. inr ((in_members o q).1 b.1)) ((h q).0 ((in_members t q).0 i)),
  λ e.
      (in_members t q).1
      ((h q).1
      (⊎_elim (λ i. inl ((in_members s q).0 i)) (λ i. let b = (in_members o q).0 i in let low = set_within o.words.items q b in inr (omega arith, b)) e)),
)

-- a set that gets a number
pub put_in : (s : NumberSet) (words : List ℕ) (n w : ℕ) → ((k : ℕ) → get_or words k 0 ≡ get_or s.words.items k 0) → n / 64 < length words → w ≡ get_or words (n / 64) 0
    → (made : List ℕ) → made ≡ set words (n / 64) (bit_or w (1 * 2 ^ (n % 64) % 2 ^ 64)) → (q : ℕ) → IsAmong q (members_below made (64 * length made)) ↔ (IsAmong q (members s) ⊎ (q ≡ n))
put_in s words n w same inside at made is q =
    let all : made ≡ set words (n / 64) (bit_or (get_or words (n / 64) 0) (1 * 2 ^ (n % 64) % 2 ^ 64)) = is ∙ ap (λ (v : ℕ). set words (n / 64) (bit_or v (1 * 2 ^ (n % 64) % 2 ^ 64))) at in
    let put = bit_put words n inside q in (
      λ i.
          ⊎_elim (λ a. inl ((in_members s q).1 (set_alike words s.words.items q (same (q / 64)) a))) (λ e. inr e)
          (put.0 (subst (λ (l : List ℕ). is_set l q ≡ true) all ((in_words made q).0 i))),
      λ h.
          (in_words made q).1
          (subst (λ (l : List ℕ). is_set l q ≡ true) (sym all)
          (put.1 (⊎_elim (λ i. inl (set_alike s.words.items words q (sym (same (q / 64))) ((in_members s q).0 i))) (λ e. inr e) h))),
    )

-- a set of one number
pub alone_is : (s t : NumberSet) (n : ℕ) → members s ≡ [] → ((q : ℕ) → IsAmong q (members t) ↔ (IsAmong q (members s) ⊎ (q ≡ n))) → members t ≡ n ∷ []
alone_is s t n none h = same_numbers (members t) (n ∷ []) (members_ascending t) (λ i j d l k. absurd (omega arith)) (λ q. (
  λ i. ⊎_elim (λ m. absurd (subst (λ (l : List ℕ). IsAmong q l) none m)) (λ e. inl e) ((h q).0 i),
  λ i. (h q).1 (⊎_elim (λ e. inr e) (λ f. absurd f) i),
))
