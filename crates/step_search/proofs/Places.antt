-- The tries of a rule by their places, and those of rules one after the other.
use Rattle.std.proofs.Common.{◌≡◌, ℕ, zero, suc, ◌+◌, ◌-◌, ◌*◌, ◌<◌, ◌≤◌, refl, sym, ap, ◌∙◌, subst, List, [], ◌∷◌, ◌++◌, length, map, take, drop, slice_get, Some, arith}
use Rattle.std.proofs.Common.{add-one, append_assoc, append-nil}
use Rattle.std.specs.List.{range_with_len}
use Rattle.std.proofs.lemmas.List.FromFn.{length-range_with_len}
use Rattle.std.proofs.lemmas.Option.{same_Some}
use Rattle.std.proofs.lemmas.List.{length-map}
use Rattle.general_lemmas.proofs.Places.{slice_get-append_left, slice_get-append_right}
use Rattle.rewriting.specs.Rules as math
use Rattle.search_spaces.specs.Refuting.{Refuting, try_caps, try_growth}
use Rattle.simplifications.proofs.Rules.{split_at}
use Rattle.simplified_spaces.specs.Tries.{Try, try_drop, try_inline, tries_of, tries_from}

-- what stands in a list of tries made from numbers
at_number : (f : ℕ → Try) (a n q : ℕ) → q < n → slice_get (map f (range_with_len a n)) q ≡ Some (f (a + q))
at_number f a zero q h = absurd (omega (arith, h))
at_number f a (suc n) zero h = ap (λ k. Some (f k)) (let e : a ≡ a + 0 = omega arith in e)
at_number f a (suc n) (suc q) h = at_number f (a + 1) n q (omega (arith, h)) ∙ ap (λ k. Some (f k)) (let e : a + 1 + q ≡ a + suc q = omega arith in e)

-- the tries of a rule with n conditions, n at least 1
module _ (i n : ℕ) where
  abbrev drops : List Try
  drops = map (try_drop i) (map try_growth (range_with_len 1 n))

  abbrev inlines : List Try
  inlines = map (try_inline i) (range_with_len 1 n)

  many_drops : length drops ≡ n
  many_drops = length-map (map try_growth (range_with_len 1 n)) (try_drop i) ∙ length-map (range_with_len 1 n) try_growth ∙ length-range_with_len 1 n

  many_inlines : length inlines ≡ n
  many_inlines = length-map (range_with_len 1 n) (try_inline i) ∙ length-range_with_len 1 n

  twice : (f : ℕ → Refuting) (xs : List ℕ) → map (try_drop i) (map f xs) ≡ map (λ k. try_drop i (f k)) xs
  twice f [] = refl
  twice f (x ∷ xs) = ap (λ z. try_drop i (f x) ∷ z) (twice f xs)

  growth_there : (q : ℕ) → q < n → slice_get (drops ++ inlines) q ≡ Some (try_drop i (try_growth (suc q)))
  growth_there q h =
      let l = many_drops in
      slice_get-append_left drops inlines q (omega (arith, l, h)) ∙ ap (λ z. slice_get z q) (twice try_growth (range_with_len 1 n)) ∙ at_number (λ k. try_drop i (try_growth k)) 1 n q h
      ∙ ap (λ k. Some (try_drop i (try_growth k))) (let e : 1 + q ≡ suc q = omega arith in e)

  inline_there : (q : ℕ) → q < n → slice_get (drops ++ inlines) (n + q) ≡ Some (try_inline i (suc q))
  inline_there q h =
      subst (λ k. slice_get (drops ++ inlines) (k + q) ≡ slice_get inlines q) many_drops (slice_get-append_right drops inlines q) ∙ at_number (try_inline i) 1 n q h
      ∙ ap (λ k. Some (try_inline i k)) (let e : 1 + q ≡ suc q = omega arith in e)

pub caps_at : (i : ℕ) (cs : List math.Condition) (t : Try) → slice_get (tries_of i cs) 0 ≡ Some t → t ≡ try_drop i try_caps
caps_at i [] t e = absurd (cc)
caps_at i (c ∷ cs) t e = sym (same_Some (try_drop i try_caps) t e)

pub growth_at : (i : ℕ) (cs : List math.Condition) (p : ℕ) (t : Try) → (p ≡ 0 → ⊥) → p ≤ length cs → slice_get (tries_of i cs) p ≡ Some t → t ≡ try_drop i (try_growth p)
growth_at i [] p t some h e = absurd (cc)
growth_at i (c ∷ cs) zero t some h e = absurd (some refl)
growth_at i (c ∷ cs) (suc q) t some h e = sym (same_Some (try_drop i (try_growth (suc q))) t (sym (growth_there i (length (c ∷ cs)) q (omega (arith, h))) ∙ e))

pub many_tries : (i : ℕ) (cs : List math.Condition) → (length cs ≡ 0 → ⊥) → length (tries_of i cs) ≡ 2 * length cs + 1
many_tries i [] some = absurd (some refl)
many_tries i (c ∷ cs) some =
    let n : ℕ = length (c ∷ cs) in
    let a = many_drops i n in
    let b = many_inlines i n in
    let s = both_long (drops i n) (inlines i n) in
    omega (arith, a, b, s)
  where
    both_long : (xs ys : List Try) → length (xs ++ ys) ≡ length xs + length ys
    both_long [] ys = omega arith
    both_long (x ∷ xs) ys = let rest = both_long xs ys in omega (arith, rest)

pub inline_at : (i : ℕ) (cs : List math.Condition) (p : ℕ) (t : Try) → length cs < p → slice_get (tries_of i cs) p ≡ Some t → t ≡ try_inline i (p - length cs)
inline_at i [] p t h e = absurd (cc)
inline_at i (c ∷ cs) zero t h e = absurd (omega (arith, h))
inline_at i (c ∷ cs) (suc q) t h e = go (within (tries_of i (c ∷ cs)) (suc q) e)
  where
    within : (xs : List Try) (k : ℕ) → slice_get xs k ≡ Some t → k < length xs
    within [] k g = absurd (cc)
    within (x ∷ xs) zero g = omega arith
    within (x ∷ xs) (suc k) g = let less = within xs k g in omega (arith, less)

    n : ℕ
    n = length (c ∷ cs)

    go : suc q < length (tries_of i (c ∷ cs)) → t ≡ try_inline i (suc q - n)
    go less =
        let all = many_tries i (c ∷ cs) (λ z. absurd (omega (arith, z))) in
        let far : suc (q - n) ≡ suc q - n = omega (arith, h) in
        let place : n + (q - n) ≡ q = omega (arith, h) in
        let there = inline_there i n (q - n) (omega (arith, less, all, h)) in
        sym (same_Some (try_inline i (suc (q - n))) t (sym there ∙ subst (λ k. slice_get (drops i n ++ inlines i n) k ≡ Some t) (sym place) e)) ∙ ap (try_inline i) far

pub taken_more : {X : Type 0} (xs : List X) (k : ℕ) (x : X) → slice_get xs k ≡ Some x → take (k + 1) xs ≡ take k xs ++ x ∷ []
taken_more {X} xs k x e = rw add-one (go xs k e)
  where
    go : (ys : List X) (j : ℕ) → slice_get ys j ≡ Some x → take (suc j) ys ≡ take j ys ++ x ∷ []
    go [] j g = absurd (cc)
    go (y ∷ ys) zero g = let same : y ≡ x = cc in ap (λ z. z ∷ []) same
    go (y ∷ ys) (suc j) g = ap (λ zs. y ∷ zs) (go ys j g)

-- the tries of the rules before one, its own, and those behind
pub tries_append : (k : ℕ) (rs qs : List math.Rule) → tries_from k (rs ++ qs) ≡ tries_from k rs ++ tries_from (k + length rs) qs
tries_append k [] qs = ap (λ j. tries_from j qs) (let e : k ≡ k + 0 = omega arith in e)
tries_append k (r ∷ rs) qs =
    ap (λ z. tries_of k r.conditions ++ z) (tries_append (suc k) rs qs ∙ ap (λ j. tries_from (suc k) rs ++ tries_from j qs) (let e : suc k + length rs ≡ k + suc (length rs) = omega arith in e))
    ∙ sym (append_assoc (tries_of k r.conditions) (tries_from (suc k) rs) (tries_from (k + suc (length rs)) qs))

front_length : {X : Type 0} (xs : List X) (k : ℕ) (x : X) → slice_get xs k ≡ Some x → length (take k xs) ≡ k
front_length [] k x e = absurd (cc)
front_length (y ∷ xs) zero x e = refl
front_length (y ∷ xs) (suc k) x e = ap suc (front_length xs k x e)

module _ (rs : List math.Rule) (k : ℕ) (r : math.Rule) (is : slice_get rs k ≡ Some r) where
  numbered_so : 1 + length (take k rs) ≡ k + 1
  numbered_so = let e = front_length rs k r is in omega (arith, e)

  pub rule_tries : tries_from 1 rs ≡ tries_from 1 (take k rs) ++ (tries_of (k + 1) r.conditions ++ tries_from (suc (k + 1)) (drop (suc k) rs))
  rule_tries =
      ap (tries_from 1) (split_at rs k r is) ∙ tries_append 1 (take k rs) (r ∷ drop (suc k) rs)
      ∙ ap (λ j. tries_from 1 (take k rs) ++ (tries_of j r.conditions ++ tries_from (suc j) (drop (suc k) rs))) numbered_so

  pub more_tries : tries_from 1 (take (k + 1) rs) ≡ tries_from 1 (take k rs) ++ tries_of (k + 1) r.conditions
  more_tries =
      ap (tries_from 1) (taken_more rs k r is) ∙ tries_append 1 (take k rs) (r ∷ [])
      ∙ ap (λ j. tries_from 1 (take k rs) ++ (tries_of j r.conditions ++ [])) numbered_so ∙ ap (λ z. tries_from 1 (take k rs) ++ z) (append-nil (tries_of (k + 1) r.conditions))
