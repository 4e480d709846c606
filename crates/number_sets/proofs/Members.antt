-- Elements of lists, and lists of numbers in order.
use Rattle.std.proofs.Common.{◌≡◌, ◌↔◌, ◌⊎◌, inl, inr, ⊎_elim, ℕ, zero, suc, ◌+◌, ◌*◌, ◌<◌, ◌≤◌, Bool, true, false, cond, List, [], ◌∷◌, length, get_or, refl, ap, sym, subst, ◌∙◌}
use Rattle.std.proofs.Common.{length-append, arith}
use Rattle.std.specs.List.{filter, AllPairs}
use Rattle.std.specs.List.Sorted.{IsStrictlyIncreasing}
use Rattle.std.proofs.lemmas.Bool.{cases_lt}
use Rattle.std.proofs.lemmas.List.{get_or_append_left, get_or_push}
use Rattle.std.proofs.lemmas.List.Kept.{AllPairs-from_increasing, IsStrictlyIncreasing-filter}
use Rattle.rewriting.specs.Lists.{IsAmong}
use Rattle.rewriting.proofs.Lists.{among_left, among_right, among_either}
use Rattle.rewriting.proofs.Members.{contained_among}
use Rattle.number_sets.specs.Sets.{below, is_set, members}
use Rattle.number_sets.specs.declared.words.NumberSet.{NumberSet}

filtered : {X : Type 0} (p : X → Bool) (x y : X) (ys fs : List X) → (IsAmong x fs → IsAmong x ys × (p x ≡ true)) → (b : Bool) → p y ≡ b → IsAmong x (cond b (y ∷ fs) fs)
    → IsAmong x (y ∷ ys) × (p x ≡ true)
filtered p x y ys fs rest true e (inl f) = (inl f, ap p f ∙ e)
filtered p x y ys fs rest true e (inr h) = let r = rest h in (inr r.0, r.1)
filtered p x y ys fs rest false e h = let r = rest h in (inr r.0, r.1)

pub in_filter : {X : Type 0} (p : X → Bool) (x : X) (xs : List X) → IsAmong x (filter p xs) → IsAmong x xs × (p x ≡ true)
in_filter p x [] h = absurd h
in_filter p x (y ∷ ys) h = filtered p x y ys (filter p ys) (λ k. in_filter p x ys k) (p y) refl h

kept : {X : Type 0} (b : Bool) (x y : X) (fs : List X) → IsAmong x fs → IsAmong x (cond b (y ∷ fs) fs)
kept true x y fs h = inr h
kept false x y fs h = h

pub filter_in : {X : Type 0} (p : X → Bool) (x : X) (xs : List X) → IsAmong x xs → p x ≡ true → IsAmong x (filter p xs)
filter_in p x [] h t = absurd h
filter_in p x (y ∷ ys) (inl e) t = subst (λ b. IsAmong x (cond b (y ∷ filter p ys) (filter p ys))) (sym (ap p (sym e) ∙ t)) (inl e)
filter_in p x (y ∷ ys) (inr h) t = kept (p y) x y (filter p ys) (filter_in p x ys h t)

-- the numbers below n
pub in_below : (n k : ℕ) → k < n → IsAmong k (below n)
in_below zero k h = absurd (omega arith)
in_below (suc n) k h =
    ⊎_elim (λ (l : k < n). among_left k (below n) (n ∷ []) (in_below n k l)) (λ l. let here : k ≡ n = omega arith in among_right k (below n) (n ∷ []) (inl here)) (cases_lt k n)

pub of_below : (n k : ℕ) → IsAmong k (below n) → k < n
of_below zero k h = absurd h
of_below (suc n) k h = ⊎_elim (λ i. let low = of_below n k i in omega arith) (λ i. ⊎_elim (λ (e : k ≡ n). omega arith) (λ f. absurd f) i) (among_either k (below n) (n ∷ []) h)

pub length-below : (n : ℕ) → length (below n) ≡ n
length-below zero = refl
length-below (suc n) = omega (arith, length-append (below n) (n ∷ []), length-below n)

pub get_or-below : (n k : ℕ) → k < n → get_or (below n) k 0 ≡ k
get_or-below zero k h = absurd (omega arith)
get_or-below (suc n) k h =
    ⊎_elim (λ (l : k < n). get_or_append_left (below n) (n ∷ []) 0 k (omega (arith, length-below n)) ∙ get_or-below n k l)
    (λ (l : n ≤ k). let here : k ≡ n = omega arith in get_or_push (below n) n 0 k (omega (arith, length-below n)) ∙ sym here) (cases_lt k n)

increasing_below : (n : ℕ) → IsStrictlyIncreasing (below n)
increasing_below n k h =
    let long = length-below n in
    let one = get_or-below n k (omega arith) in
    let two = get_or-below n (k + 1) (omega arith) in
    omega arith

pub below_ascending : (n : ℕ) → AllPairs ◌<◌ (below n)
below_ascending n = AllPairs-from_increasing (below n) (increasing_below n)

pub filtered_ascending : (p : ℕ → Bool) (n : ℕ) → AllPairs ◌<◌ (filter p (below n))
filtered_ascending p n = AllPairs-from_increasing (filter p (below n)) (IsStrictlyIncreasing-filter p (below n) (increasing_below n))

pub members_ascending : (s : NumberSet) → AllPairs ◌<◌ (members s)
members_ascending s = filtered_ascending (is_set s.words.items) (64 * length s.words.items)

-- lists in order with the same numbers
above_first : (x : ℕ) (xs : List ℕ) → AllPairs ◌<◌ (x ∷ xs) → (q : ℕ) → IsAmong q xs → x < q
above_first x xs a q h =
    let c = contained_among q xs h in
    let low : suc c.0 < length (x ∷ xs) = let l = c.1 in omega arith in
    subst (λ (z : ℕ). x < z) c.2 (a 0 (suc c.0) q (omega arith) low)

later : (x : ℕ) (xs : List ℕ) → AllPairs ◌<◌ (x ∷ xs) → AllPairs ◌<◌ xs
later x xs a i j d l h = a (suc i) (suc j) d (omega arith) (omega arith)

pub same_numbers : (xs ys : List ℕ) → AllPairs ◌<◌ xs → AllPairs ◌<◌ ys → ((q : ℕ) → IsAmong q xs ↔ IsAmong q ys) → xs ≡ ys
same_numbers [] [] a b h = refl
same_numbers [] (y ∷ ys) a b h = absurd ((h y).1 (inl refl))
same_numbers (x ∷ xs) [] a b h = absurd ((h x).0 (inl refl))
same_numbers (x ∷ xs) (y ∷ ys) a b h = ap (λ (z : ℕ). z ∷ xs) first ∙ ap (λ (zs : List ℕ). y ∷ zs) (same_numbers xs ys (later x xs a) (later y ys b) rest)
  where
    met : (x ≡ y) ⊎ IsAmong x ys → (y ≡ x) ⊎ IsAmong y xs → x ≡ y
    met (inl e) k = e
    met (inr i) (inl e) = sym e
    met (inr i) (inr k) = let l = above_first x xs a y k in let m = above_first y ys b x i in absurd (omega arith)

    first : x ≡ y
    first = met ((h x).0 (inl refl)) ((h y).1 (inl refl))

    there : (q : ℕ) → IsAmong q xs → (q ≡ y) ⊎ IsAmong q ys → IsAmong q ys
    there q i (inl e) = let l = above_first x xs a q i in let f = first in absurd (omega arith)
    there q i (inr k) = k

    back : (q : ℕ) → IsAmong q ys → (q ≡ x) ⊎ IsAmong q xs → IsAmong q xs
    back q i (inl e) = let l = above_first y ys b q i in let f = first in absurd (omega arith)
    back q i (inr k) = k

    rest : (q : ℕ) → IsAmong q xs ↔ IsAmong q ys
    rest q = (λ i. there q i ((h q).0 (inr i)), λ i. back q i ((h q).1 (inr i)))
