-- The arrangements of a list of distinct members: which lists they are, that they stand in order, and how many they are.
use Rattle.std.proofs.Common.{ℕ, zero, suc, ◌≡◌, ◌+◌, ◌*◌, ◌⊎◌, inl, inr, List, [], ◌∷◌, map, flat_map, length, refl, sym, ap, ap₂, ◌∙◌, subst, arith}
use Rattle.std.proofs.lemmas.List.{length-append, length-map}
use Rattle.rewriting.specs.Lists.{IsAmong, AreDistinct, IsSorted}
use Rattle.rewriting.proofs.Members.{flat_among, of_flat}
use Rattle.rewriting.proofs.Lists.{among_map, among_of_map, before_each, before_one, sorted_append, sorted_map}
use Rattle.precedence_walks.specs.Arrangements.{picks, arrangements, ComesBefore, factorial}

module _ {X : Type 0} where
  abbrev pub kept : X → X × List X → X × List X
  kept x p = (p.0, x ∷ p.1)

  -- a member and the others are all
  pub pick_all : (xs : List X) (p : X × List X) → IsAmong p (picks xs) → (z : X) → IsAmong z xs → (z ≡ p.0) ⊎ IsAmong z p.1
  pick_all [] p i z j = absurd i
  pick_all (x ∷ xs) p (inl e) z j = first j
    where
      one : p.0 ≡ x
      one = ap (λ (q : X × List X). q.0) e

      others : p.1 ≡ xs
      others = ap (λ (q : X × List X). q.1) e

      first : (z ≡ x) ⊎ IsAmong z xs → (z ≡ p.0) ⊎ IsAmong z p.1
      first (inl h) = inl (h ∙ sym one)
      first (inr h) = inr (subst (IsAmong z) (sym others) h)
  pick_all (x ∷ xs) p (inr i) z j = (let m = among_of_map (kept x) p (picks xs) i in go m.0 m.2 (λ h. pick_all xs m.0 m.1 z h) j)
    where
      go : (q : X × List X) → p ≡ kept x q → (IsAmong z xs → (z ≡ q.0) ⊎ IsAmong z q.1) → (z ≡ x) ⊎ IsAmong z xs → (z ≡ p.0) ⊎ IsAmong z p.1
      go q e below (inl h) = inr (subst (IsAmong z) (sym (ap (λ (r : X × List X). r.1) e)) (inl h))
      go q e below (inr h) = rest (below h)
        where
          rest : (z ≡ q.0) ⊎ IsAmong z q.1 → (z ≡ p.0) ⊎ IsAmong z p.1
          rest (inl k) = inl (k ∙ sym (ap (λ (r : X × List X). r.0) e))
          rest (inr k) = inr (subst (IsAmong z) (sym (ap (λ (r : X × List X). r.1) e)) (inr k))

  pub pick_one : (xs : List X) (p : X × List X) → IsAmong p (picks xs) → IsAmong p.0 xs
  pick_one [] p i = absurd i
  pick_one (x ∷ xs) p (inl e) = inl (ap (λ (q : X × List X). q.0) e)
  pick_one (x ∷ xs) p (inr i) = let m = among_of_map (kept x) p (picks xs) i in inr (subst (λ z. IsAmong z xs) (sym (ap (λ (q : X × List X). q.0) m.2)) (pick_one xs m.0 m.1))

  pub pick_others : (xs : List X) (p : X × List X) → IsAmong p (picks xs) → (z : X) → IsAmong z p.1 → IsAmong z xs
  pick_others [] p i z j = absurd i
  pick_others (x ∷ xs) p (inl e) z j = inr (subst (IsAmong z) (ap (λ (q : X × List X). q.1) e) j)
  pick_others (x ∷ xs) p (inr i) z j = (let m = among_of_map (kept x) p (picks xs) i in go m.0 (λ k. pick_others xs m.0 m.1 z k) (subst (IsAmong z) (ap (λ (q : X × List X). q.1) m.2) j))
    where
      go : (q : X × List X) → (IsAmong z q.1 → IsAmong z xs) → (z ≡ x) ⊎ IsAmong z q.1 → (z ≡ x) ⊎ IsAmong z xs
      go q below (inl h) = inl h
      go q below (inr h) = inr (below h)

  -- of distinct members the one that is picked is none of the others, which are distinct
  pub pick_distinct : (xs : List X) → AreDistinct xs → (p : X × List X) → IsAmong p (picks xs) → (IsAmong p.0 p.1 → ⊥) × AreDistinct p.1
  pick_distinct [] d p i = absurd i
  pick_distinct (x ∷ xs) (new, d) p (inl e) = (
    (λ j. new (subst (λ z. IsAmong z xs) (ap (λ (q : X × List X). q.0) e) (subst (IsAmong p.0) (ap (λ (q : X × List X). q.1) e) j))),
    subst AreDistinct (sym (ap (λ (q : X × List X). q.1) e)) d,
  )
  pick_distinct (x ∷ xs) (new, d) p (inr i) =
      let m = among_of_map (kept x) p (picks xs) i in
      let below = pick_distinct xs d m.0 m.1 in (
        (λ j. apart m.0 (pick_one xs m.0 m.1) below.0 (subst (λ (q : X × List X). IsAmong q.0 q.1) m.2 j)),
        subst AreDistinct (sym (ap (λ (q : X × List X). q.1) m.2)) ((λ k. new (pick_others xs m.0 m.1 x k)), below.1),
      )
    where
      apart : (q : X × List X) → IsAmong q.0 xs → (IsAmong q.0 q.1 → ⊥) → (q.0 ≡ x) ⊎ IsAmong q.0 q.1 → ⊥
      apart q one none (inl h) = new (subst (λ z. IsAmong z xs) h one)
      apart q one none (inr h) = none h

  -- each member is picked
  pub picked : (xs : List X) (z : X) → IsAmong z xs → (others : List X) × IsAmong (z, others) (picks xs)
  picked [] z i = absurd i
  picked (x ∷ xs) z (inl e) = (xs, inl (ap (λ (w : X). (w, xs)) e))
  picked (x ∷ xs) z (inr i) = let r = picked xs z i in (x ∷ r.0, inr (among_map (kept x) (z, r.0) (picks xs) r.1))

  pub length_picks : (xs : List X) → length (picks xs) ≡ length xs
  length_picks [] = refl
  length_picks (x ∷ xs) = ap suc (length-map (picks xs) (kept x) ∙ length_picks xs)

  pub pick_length : (n : ℕ) (xs : List X) (p : X × List X) → length xs ≡ suc n → IsAmong p (picks xs) → length p.1 ≡ n
  pick_length n [] p e i = absurd i
  pick_length n (x ∷ xs) p e (inl h) = ap (λ (q : X × List X). length q.1) h ∙ (let short : length xs ≡ n = omega (arith, e) in short)
  pick_length zero (x ∷ []) p e (inr i) = absurd i
  pick_length zero (x ∷ (y ∷ xs)) p e (inr i) = absurd (omega (arith, e))
  pick_length (suc n) (x ∷ xs) p e (inr i) = let m = among_of_map (kept x) p (picks xs) i in ap (λ (q : X × List X). length q.1) m.2 ∙ ap suc (pick_length n xs m.0 (omega (arith, e)) m.1)

  -- the same members, none twice
  pub record IsArranged (xs ys : List X) : Type 0 where
    pub distinct : AreDistinct ys
    pub from : (z : X) → IsAmong z ys → IsAmong z xs
    pub all : (z : X) → IsAmong z xs → IsAmong z ys

  abbrev arranged_behind : ℕ → X × List X → List (List X)
  arranged_behind n p = map (λ c. p.0 ∷ c) (arrangements n p.1)

  pub arranged : (n : ℕ) (xs : List X) → length xs ≡ n → AreDistinct xs → (ys : List X) → IsAmong ys (arrangements n xs) → IsArranged xs ys
  arranged zero [] e d ys (inl h) = record { distinct = subst AreDistinct (sym h) tt; from = λ z j. subst (IsAmong z) h j; all = λ z j. absurd j }
  arranged zero [] e d ys (inr h) = absurd h
  arranged zero (x ∷ xs) e d ys i = absurd (omega (arith, e))
  arranged (suc n) xs e d ys i =
      let at = of_flat (arranged_behind n) ys (picks xs) i in
      let tail = among_of_map (λ c. at.0.0 ∷ c) ys (arrangements n at.0.1) at.2 in
      let apart = pick_distinct xs d at.0 at.1 in
      let below = arranged n at.0.1 (pick_length n xs at.0 e at.1) apart.1 tail.0 tail.1 in
      subst (IsArranged xs) (sym tail.2) (put at.0 at.1 apart.0 tail.0 below)
    where
      put : (p : X × List X) → IsAmong p (picks xs) → (IsAmong p.0 p.1 → ⊥) → (c : List X) → IsArranged p.1 c → IsArranged xs (p.0 ∷ c)
      put p i none c a = record { distinct = ((λ j. none (a.from p.0 j)), a.distinct); from = from; all = all }
        where
          from : (z : X) → (z ≡ p.0) ⊎ IsAmong z c → IsAmong z xs
          from z (inl h) = subst (λ w. IsAmong w xs) (sym h) (pick_one xs p i)
          from z (inr h) = pick_others xs p i z (a.from z h)

          all : (z : X) → IsAmong z xs → (z ≡ p.0) ⊎ IsAmong z c
          all z h = go (pick_all xs p i z h)
            where
              go : (z ≡ p.0) ⊎ IsAmong z p.1 → (z ≡ p.0) ⊎ IsAmong z c
              go (inl k) = inl k
              go (inr k) = inr (a.all z k)

  pub there : (n : ℕ) (xs : List X) → length xs ≡ n → AreDistinct xs → (ys : List X) → IsArranged xs ys → IsAmong ys (arrangements n xs)
  there zero [] e d [] a = inl refl
  there zero [] e d (y ∷ ys) a = absurd (a.from y (inl refl))
  there zero (x ∷ xs) e d ys a = absurd (omega (arith, e))
  there (suc n) [] e d ys a = absurd (omega (arith, e))
  there (suc n) (x ∷ xs) e d [] a = absurd (a.all x (inl refl))
  there (suc n) (x ∷ xs) e d (y ∷ ys) a =
      let p = picked (x ∷ xs) y (a.from y (inl refl)) in
      let apart = pick_distinct (x ∷ xs) d (y, p.0) p.1 in
      flat_among (arranged_behind n) (y, p.0) (y ∷ ys) (picks (x ∷ xs)) p.1
      (among_map (λ c. y ∷ c) ys (arrangements n p.0) (there n p.0 (pick_length n (x ∷ xs) (y, p.0) e p.1) apart.1 ys (rest p.0 p.1 apart.0)))
    where
      rest : (others : List X) → IsAmong (y, others) (picks (x ∷ xs)) → (IsAmong y others → ⊥) → IsArranged others ys
      rest others i none = record { distinct = a.distinct.1; from = from; all = all }
        where
          from : (z : X) → IsAmong z ys → IsAmong z others
          from z j = go (pick_all (x ∷ xs) (y, others) i z (a.from z (inr j)))
            where
              go : (z ≡ y) ⊎ IsAmong z others → IsAmong z others
              go (inl h) = absurd (a.distinct.0 (subst (λ w. IsAmong w ys) h j))
              go (inr h) = h

          all : (z : X) → IsAmong z others → IsAmong z ys
          all z j = go (a.all z (pick_others (x ∷ xs) (y, others) i z j))
            where
              go : (z ≡ y) ⊎ IsAmong z ys → IsAmong z ys
              go (inl h) = absurd (none (subst (λ w. IsAmong w others) h j))
              go (inr h) = h

  -- how many there are
  length_each : (n m : ℕ) (ps : List (X × List X)) → ((p : X × List X) → IsAmong p ps → length (arrangements n p.1) ≡ m) → length (flat_map (arranged_behind n) ps) ≡ length ps * m
  length_each n m [] h = omega arith
  length_each n m (p ∷ ps) h =
      let first : length (map (λ c. p.0 ∷ c) (arrangements n p.1)) ≡ m = length-map (arrangements n p.1) (λ c. p.0 ∷ c) ∙ h p (inl refl) in
      let rest = length_each n m ps (λ q i. h q (inr i)) in
      length-append (arranged_behind n p) (flat_map (arranged_behind n) ps) ∙ ap₂ (λ a b. a + b) first rest ∙ (let e : m + length ps * m ≡ suc (length ps) * m = omega arith in e)

  pub length_arrangements : (n : ℕ) (xs : List X) → length xs ≡ n → length (arrangements n xs) ≡ factorial n
  length_arrangements zero xs e = refl
  length_arrangements (suc n) xs e =
      length_each n (factorial n) (picks xs) (λ p i. length_arrangements n p.1 (pick_length n xs p e i)) ∙ ap (λ k. k * factorial n) (length_picks xs ∙ e)

  -- they stand in order
  module _ (Less : X → X → Type 0) where
    abbrev FirstLess : X × List X → X × List X → Type 0
    FirstLess p q = Less p.0 q.0

    picks_sorted : (xs : List X) → IsSorted Less xs → IsSorted FirstLess (picks xs)
    picks_sorted [] s = tt
    picks_sorted (x ∷ xs) (less, s) = (
      before_each FirstLess (x, xs) (map (kept x) (picks xs))
          (λ p i. let m = among_of_map (kept x) p (picks xs) i in subst (λ (q : X × List X). Less x q.0) (sym m.2) (before_one Less x m.0.0 xs less (pick_one xs m.0 m.1))),
      sorted_map FirstLess FirstLess (kept x) (picks xs) (λ p q h. h) (picks_sorted xs s),
    )

    pub others_sorted : (xs : List X) → IsSorted Less xs → (p : X × List X) → IsAmong p (picks xs) → IsSorted Less p.1
    others_sorted [] s p i = absurd i
    others_sorted (x ∷ xs) (less, s) p (inl e) = subst (IsSorted Less) (sym (ap (λ (q : X × List X). q.1) e)) s
    others_sorted (x ∷ xs) (less, s) p (inr i) =
        let m = among_of_map (kept x) p (picks xs) i in
        subst (IsSorted Less) (sym (ap (λ (q : X × List X). q.1) m.2))
        (before_each Less x m.0.1 (λ z j. before_one Less x z xs less (pick_others xs m.0 m.1 z j)), others_sorted xs s m.0 m.1)

    blocks_sorted : (n : ℕ) (ps : List (X × List X)) → ((p : X × List X) → IsAmong p ps → IsSorted (ComesBefore Less) (arrangements n p.1)) → IsSorted FirstLess ps
        → IsSorted (ComesBefore Less) (flat_map (arranged_behind n) ps)
    blocks_sorted n [] each s = tt
    blocks_sorted n (p ∷ ps) each (less, s) =
        sorted_append (ComesBefore Less) (arranged_behind n p) (flat_map (arranged_behind n) ps)
        (sorted_map (ComesBefore Less) (ComesBefore Less) (λ c. p.0 ∷ c) (arrangements n p.1) (λ c d h. inr (refl, h)) (each p (inl refl)))
        (blocks_sorted n ps (λ q i. each q (inr i)) s) across
      where
        across : (c d : List X) → IsAmong c (arranged_behind n p) → IsAmong d (flat_map (arranged_behind n) ps) → ComesBefore Less c d
        across c d i j =
            let left = among_of_map (λ c. p.0 ∷ c) c (arrangements n p.1) i in
            let block = of_flat (arranged_behind n) d ps j in
            let right = among_of_map (λ c. block.0.0 ∷ c) d (arrangements n block.0.1) block.2 in
            subst (λ z. ComesBefore Less z d) (sym left.2) (subst (ComesBefore Less (p.0 ∷ left.0)) (sym right.2) (inl (before_one FirstLess p block.0 ps less block.1)))

    pub arrangements_sorted : (n : ℕ) (xs : List X) → IsSorted Less xs → IsSorted (ComesBefore Less) (arrangements n xs)
    arrangements_sorted zero xs s = (tt, tt)
    arrangements_sorted (suc n) xs s = blocks_sorted n (picks xs) (λ p i. arrangements_sorted n p.1 (others_sorted xs s p i)) (picks_sorted xs s)
