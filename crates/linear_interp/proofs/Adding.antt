-- Adding the parts of a term, argument by argument.
use Rattle.std.proofs.Common.{◌≡◌, ◌≢◌, ℕ, zero, suc, ◌+◌, ◌*◌, ◌^◌, ◌<◌, ◌≤◌, ◌⊎◌, inl, inr, min, Bool, true, false, refl, sym, ap, ◌∙◌, subst, List, [], ◌∷◌, length, get_or}
use Rattle.std.proofs.Common.{slice_set, arith, nat_eq, eq-eqb, eqb-true}
use Rattle.std.proofs.Math.Nat.{mul-le-mul_left, mul-le-mul_right, min-le_left}
use Rattle.std.proofs.lemmas.Bool.{cases_lt}
use Rattle.std.proofs.lemmas.List.{get_or-set_same, get_or-set_other}
use Rattle.rewriting.specs.Terms.{Term, app, Terms, cons}
use Rattle.interpretations.specs.Linear.{Interpretation, number_of}
use Rattle.linear_interp.specs.Parts.{part, part_from, AreSmall, HasAdded, GoesAbove}

-- what is still to add
pub record SoFar (es : Interpretation) (n : ℕ) (f k : ℕ) (rest : Terms) (t : Term) (old new : List ℕ) : Type 0 where
  pub as_many : length new ≡ length old
  pub sums : (i : ℕ) → i < length old → get_or new i 0 + n * part_from es i f k rest ≡ get_or old i 0 + n * part es i t
  pub small : AreSmall new

part_cons : (es : Interpretation) (i f k : ℕ) (t : Term) (ts : Terms) → part_from es i f k (cons t ts) ≡ number_of es f k * part es i t + part_from es i f (suc k) ts
part_cons es zero f k t ts = refl
part_cons es (suc x) f k t ts = refl

-- a factor above the limit by which a sum within it grew adds nothing
below_cap : (m c q : ℕ) → min m c * suc q < c → min m c * suc q ≡ m * suc q
below_cap m c q lt = go (cases_lt m c)
  where
    go : (m < c) ⊎ (c ≤ m) → min m c * suc q ≡ m * suc q
    go (inl less) = let e : min m c ≡ m = omega (arith, less) in ap (λ z. z * suc q) e
    go (inr more) =
        let e : min m c ≡ c = omega (arith, more) in
        let bad : c * suc q < c = subst (λ z. z * suc q < c) e lt in
        let most = mul-le-mul_left c (let one : 1 ≤ suc q = omega arith in one) in
        absurd (omega (arith, bad, most))

capped_same : (n w p : ℕ) → min (n * w) (2 ^ 100 + 1) * p ≤ 2 ^ 100 → min (n * w) (2 ^ 100 + 1) * p ≡ n * (w * p)
capped_same n w zero le = omega arith
capped_same n w (suc q) le = let h = below_cap (n * w) (2 ^ 100 + 1) q (omega (arith, le)) in omega (arith, h)

capped_less : (n w p : ℕ) → min (n * w) (2 ^ 100 + 1) * p ≤ n * (w * p)
capped_less n w p = let h = mul-le-mul_right p (min-le_left (n * w) (2 ^ 100 + 1)) in omega (arith, h)

split_sums : (new mid old m n w p whole rest all : ℕ) → new ≡ mid + m → m ≡ n * (w * p) → whole ≡ w * p + rest → mid + n * whole ≡ old + n * all → new + n * rest ≡ old + n * all
split_sums new mid old m n w p whole rest all a b c d = let e = subst (λ z. mid + n * z ≡ old + n * all) c d in omega (arith, a, b, e)

split_above : (mid old m n w p whole rest all limit : ℕ) → limit < mid + m → m ≤ n * (w * p) → whole ≡ w * p + rest → mid + n * whole ≡ old + n * all → limit < old + n * all
split_above mid old m n w p whole rest all limit a b c d = let e = subst (λ z. mid + n * z ≡ old + n * all) c d in omega (arith, a, b, e)

pub advance : (es : Interpretation) (n f k w : ℕ) (s : Term) (ss : Terms) (t : Term) (old mid new : List ℕ) → SoFar es n f k (cons s ss) t old mid → w ≡ number_of es f k
    → HasAdded es (min (n * w) (2 ^ 100 + 1)) s mid new → SoFar es n f (suc k) ss t old new
advance es n f k w s ss t old mid new so e a =
    record {
      as_many = a.as_many ∙ so.as_many;
      sums = λ i lt. (
          let long = so.as_many in
          let here = a.sums i (omega (arith, lt, long)) in
          let before = so.sums i lt in
          let split = part_cons es i f k s ss in
          let most = a.small i in
          let capped = capped_same n w (part es i s) (omega (arith, here, most)) in
          split_sums (get_or new i 0) (get_or mid i 0) (get_or old i 0) _ n w (part es i s) _ (part_from es i f (suc k) ss) (part es i t) here capped
          (split ∙ ap (λ z. z * part es i s + part_from es i f (suc k) ss) (sym e)) before
          );
      small = a.small;
    }

pub fails : (es : Interpretation) (n f k w : ℕ) (s : Term) (ss : Terms) (t : Term) (old mid : List ℕ) → SoFar es n f k (cons s ss) t old mid → w ≡ number_of es f k
    → GoesAbove es (min (n * w) (2 ^ 100 + 1)) s mid → GoesAbove es n t old
fails es n f k w s ss t old mid so e a =
    let long = so.as_many in
    let lt : a.place < length old = (let x = a.within in omega (arith, x, long)) in
    let before = so.sums a.place lt in
    let split = part_cons es a.place f k s ss in
    let above = a.above in
    let capped = capped_less n w (part es a.place s) in
    record {
      place = a.place;
      within = lt;
      above = split_above (get_or mid a.place 0) (get_or old a.place 0) _ n w (part es a.place s) _ (part_from es a.place f (suc k) ss)
          (part es a.place t) (2 ^ 100) above capped (split ∙ ap (λ z. z * part es a.place s + part_from es a.place f (suc k) ss) (sym e)) before;
    }

-- the parts of a symbol's term begin with its constant
pub begin : (es : Interpretation) (n f w : ℕ) (ts : Terms) (old new : List ℕ) → AreSmall old → 0 < length old → w ≡ number_of es f 0
    → new ≡ slice_set old 0 (get_or old 0 0 + n * w) → get_or old 0 0 + n * w ≤ 2 ^ 100
    → SoFar es n f 1 ts (app f ts) old new
begin es n f w ts [] new small lt e is le = absurd (omega (arith, lt))
begin es n f w ts (a ∷ old) new small lt e is le =
    record {
      as_many = ap length is;
      sums = λ i lt. subst (λ xs. get_or xs i 0 + n * part_from es i f 1 ts ≡ get_or (a ∷ old) i 0 + n * part es i (app f ts)) (sym is) (go i);
      small = λ i. subst (λ xs. get_or xs i 0 ≤ 2 ^ 100) (sym is) (within i);
    }
  where
    go : (i : ℕ) → get_or ((a + n * w) ∷ old) i 0 + n * part_from es i f 1 ts ≡ get_or (a ∷ old) i 0 + n * part es i (app f ts)
    go zero = let z : n * w ≡ n * number_of es f 0 = ap (λ z. n * z) e in omega (arith, z)
    go (suc i) = refl

    within : (i : ℕ) → get_or ((a + n * w) ∷ old) i 0 ≤ 2 ^ 100
    within zero = le
    within (suc i) = small (suc i)

pub raised_small : (old new : List ℕ) (i v : ℕ) → AreSmall old → i < length old → new ≡ slice_set old i v → v ≤ 2 ^ 100 → AreSmall new
raised_small old new i v small lt is le j = subst (λ xs. get_or xs j 0 ≤ 2 ^ 100) (sym is) (go (nat_eq j i) refl)
  where
    go : (b : Bool) → nat_eq j i ≡ b → get_or (slice_set old i v) j 0 ≤ 2 ^ 100
    go true e = let same : j ≡ i = eqb-true j i e in subst (λ k. get_or (slice_set old i v) k 0 ≤ 2 ^ 100) (sym same) (let z = get_or-set_same old i v 0 lt in omega (arith, z, le))
    go false e = let differ : j ≢ i = (λ z. let t = eq-eqb j i z in cc) in let z = get_or-set_other old i j v 0 differ in let m = small j in omega (arith, z, m)

-- the argument that is next
pub next : (es : Interpretation) (n f k : ℕ) (rest : Terms) (s : Term) (ss : Terms) (t : Term) (old new : List ℕ) → SoFar es n f k rest t old new → rest ≡ cons s ss
    → SoFar es n f k (cons s ss) t old new
next es n f k rest s ss t old new so e = subst (λ z. SoFar es n f k z t old new) e so
