-- Where variables are numbered as they come, the first that is seen again is the one whose second occurrence comes first.
use Rattle.std.proofs.Common.{ℕ, zero, suc, ◌≡◌, ◌⊎◌, inl, inr, ◌<◌, ◌≤◌, ◌+◌, ◌^◌, Bool, true, false, nat_eq, nat_lt, if◌then◌else◌, List, [], ◌∷◌, ◌++◌, length, None, Some, refl}
use Rattle.std.proofs.Common.{sym, ap, ap₂, ◌∙◌, subst, arith, eqb-true}
use Rattle.std.proofs.lemmas.Bool.{ltb-true, ltb-false}
use Rattle.std.proofs.lemmas.Bool.Decides.{leb_tells}
use Rattle.std.proofs.Math.Dec.{leb}
use Rattle.std.proofs.lemmas.List.{length-append}
use Rattle.rewriting.specs.Terms as math
use Rattle.rewriting.specs.Prelude.{var, app, nil, cons, IsLinear, with_new, with_variables, with_variables_of, variable_occurrences, variable_occurrences_of, sides, IsRule, rule_variables}
use Rattle.rewriting.specs.Prelude.{IsAmong, AreDistinct}
use Rattle.rewriting.specs.Rules as rules
use Rattle.term_core.specs.Numbering.{numbers_from, AreFirst}
use Rattle.term_core.proofs.Numbers.{first_leads, next_first, not_next, counts_first}
use Rattle.certificates.specs.Blames.{IsFirstRepeated}
use Rattle.certificates.proofs.Blames.{times, occurrences-times}
use Rattle.ctrs_classes.specs.Walks.{first_seen}

-- variables as terms
abbrev as_terms : List ℕ → math.Terms
as_terms [] = nil
as_terms (x ∷ xs) = cons (var x) (as_terms xs)

with-append : (acc xs ys : List ℕ) → with_variables_of acc (as_terms (xs ++ ys)) ≡ with_variables_of (with_variables_of acc (as_terms xs)) (as_terms ys)
with-append acc [] ys = refl
with-append acc (x ∷ xs) ys = with-append (with_new acc x) xs ys

mutual
  with-leaves : (acc : List ℕ) (t : math.Term) → with_variables acc t ≡ with_variables_of acc (as_terms (variable_occurrences t))
  with-leaves acc (var x) = refl
  with-leaves acc (app f ts) = with-leaves_of acc ts

  with-leaves_of : (acc : List ℕ) (ts : math.Terms) → with_variables_of acc ts ≡ with_variables_of acc (as_terms (variable_occurrences_of ts))
  with-leaves_of acc nil = refl
  with-leaves_of acc (cons t ts) =
      with-leaves_of (with_variables acc t) ts ∙ ap (λ a. with_variables_of a (as_terms (variable_occurrences_of ts))) (with-leaves acc t)
      ∙ sym (with-append acc (variable_occurrences t) (variable_occurrences_of ts))

-- behind n known variables the list goes on with numbers in order
abbrev GoesOn : ℕ → List ℕ → Type 0
GoesOn n xs = (m : ℕ) × AreFirst (with_variables_of (numbers_from 0 n) (as_terms xs)) m

next_is : (n x : ℕ) (xs : List ℕ) → n ≤ x → GoesOn n (x ∷ xs) → x ≡ n
next_is n x xs high (m, f) = go (leb_tells x n)
  where
    leads : AreFirst (with_new (numbers_from 0 n) x) (length (with_new (numbers_from 0 n) x))
    leads = first_leads (with_new (numbers_from 0 n) x) (as_terms xs) m f

    go : ((leb x n ≡ true) × (x ≤ n)) ⊎ ((leb x n ≡ false) × (n < x)) → x ≡ n
    go (inl (_, low)) = omega (arith, high, low)
    go (inr (_, more)) = absurd (not_next n x more _ leads)

next_on : (n x : ℕ) (xs : List ℕ) → n + 1 < 2 ^ 31 → n ≤ x → GoesOn n (x ∷ xs) → GoesOn (n + 1) xs
next_on n x xs few high g =
    let e = next_is n x xs high g in
    (g.0, subst (λ q. AreFirst (with_variables_of q (as_terms xs)) g.0) (next_first n x high (omega (arith, e)) few).are g.1)

-- what was passed over, where a variable is seen again
pub record Again (n : ℕ) (xs : List ℕ) (x : ℕ) : Type 0 where
  pub before : List ℕ
  pub after : List ℕ
  pub split : xs ≡ before ++ x ∷ after
  pub are : before ≡ numbers_from n (length before)
  pub below : x < n + length before

again_cons : (n z : ℕ) (zs : List ℕ) (x : ℕ) (b : Bool) → nat_lt z n ≡ b → n + length (z ∷ zs) < 2 ^ 31 → GoesOn n (z ∷ zs) → first_seen n (z ∷ zs) ≡ Some x
    → (GoesOn (n + 1) zs → first_seen (n + 1) zs ≡ Some x → Again (n + 1) zs x) → Again n (z ∷ zs) x
again_cons n z zs x true q few g e f =
    let is : Some z ≡ Some x = subst (λ b. (if b then Some z else first_seen (n + 1) zs) ≡ Some x) q e in
    let at : z ≡ x = cc in
    let less = ltb-true z n q in
    record { before = []; after = zs; split = ap (λ u. u ∷ zs) at; are = refl; below = omega (arith, less, at) }
again_cons n z zs x false q few g e f =
    let high = ltb-false z n q in
    let at = next_is n z zs high g in
    let r = f (next_on n z zs (omega (arith, few)) high g) (subst (λ b. (if b then Some z else first_seen (n + 1) zs) ≡ Some x) q e) in
    let one : n + 1 ≡ suc n = omega arith in
    let lower = r.below in
    record {
      before = z ∷ r.before;
      after = r.after;
      split = ap (λ us. z ∷ us) r.split;
      are = ap₂ (λ u us. u ∷ us) at (r.are ∙ ap (λ k. numbers_from k (length r.before)) one);
      below = omega (arith, lower);
    }

again : (n : ℕ) (xs : List ℕ) (x : ℕ) → n + length xs < 2 ^ 31 → GoesOn n xs → first_seen n xs ≡ Some x → Again n xs x
again n [] x few g e = absurd (cc)
again n (z ∷ zs) x few g e = again_cons n z zs x (nat_lt z n) refl few g e (λ h k. again (n + 1) zs x (omega (arith, few)) h k)

never_cons : (n z : ℕ) (zs : List ℕ) (b : Bool) → nat_lt z n ≡ b → n + length (z ∷ zs) < 2 ^ 31 → GoesOn n (z ∷ zs) → first_seen n (z ∷ zs) ≡ None
    → (GoesOn (n + 1) zs → first_seen (n + 1) zs ≡ None → zs ≡ numbers_from (n + 1) (length zs)) → z ∷ zs ≡ numbers_from n (length (z ∷ zs))
never_cons n z zs true q few g e f = absurd (let is : Some z ≡ None = subst (λ b. (if b then Some z else first_seen (n + 1) zs) ≡ None) q e in cc)
never_cons n z zs false q few g e f =
    let high = ltb-false z n q in
    let r = f (next_on n z zs (omega (arith, few)) high g) (subst (λ b. (if b then Some z else first_seen (n + 1) zs) ≡ None) q e) in
    let one : n + 1 ≡ suc n = omega arith in
    ap₂ (λ u us. u ∷ us) (next_is n z zs high g) (r ∙ ap (λ k. numbers_from k (length zs)) one)

never : (n : ℕ) (xs : List ℕ) → n + length xs < 2 ^ 31 → GoesOn n xs → first_seen n xs ≡ None → xs ≡ numbers_from n (length xs)
never n [] few g e = refl
never n (z ∷ zs) few g e = never_cons n z zs (nat_lt z n) refl few g e (λ h k. never (n + 1) zs (omega (arith, few)) h k)

-- numbers in order are distinct
not_among : (x k n : ℕ) → x < k → IsAmong x (numbers_from k n) → ⊥
not_among x k zero less a = a
not_among x k (suc n) less (inl e) = omega (arith, less, e)
not_among x k (suc n) less (inr a) = not_among x (suc k) n (omega (arith, less)) a

all_distinct : (k n : ℕ) → AreDistinct (numbers_from k n)
all_distinct k zero = tt
all_distinct k (suc n) = (not_among k (suc k) n (omega arith), all_distinct (suc k) n)

among_cons : (x k n : ℕ) → k ≤ x → (k < x → IsAmong x (numbers_from (suc k) n)) → ((leb x k ≡ true) × (x ≤ k)) ⊎ ((leb x k ≡ false) × (k < x)) → IsAmong x (numbers_from k (suc n))
among_cons x k n low f (inl (_, le)) = inl (omega (arith, low, le))
among_cons x k n low f (inr (_, more)) = inr (f more)

is_among : (x k n : ℕ) → k ≤ x → x < k + n → IsAmong x (numbers_from k n)
is_among x k zero low high = absurd (omega (arith, low, high))
is_among x k (suc n) low high = among_cons x k n low (λ more. is_among x (suc k) n (omega (arith, more)) (omega (arith, high))) (leb_tells x k)

times_absent : (x k n : ℕ) → x < k → times x (numbers_from k n) ≡ 0
times_absent x k zero less = refl
times_absent x k (suc n) less = go (nat_eq x k) refl (times_absent x (suc k) n (omega (arith, less)))
  where
    go : (b : Bool) → nat_eq x k ≡ b → times x (numbers_from (suc k) n) ≡ 0 → times x (numbers_from k (suc n)) ≡ 0
    go true q h = absurd (let e = eqb-true x k q in omega (arith, less, e))
    go false q h = subst (λ b. (if b then 1 else 0) + times x (numbers_from (suc k) n) ≡ 0) (sym q) (omega (arith, h))

times_once : (x k n : ℕ) → times x (numbers_from k n) ≤ 1
times_once x k zero = omega arith
times_once x k (suc n) = go (nat_eq x k) refl (times_once x (suc k) n)
  where
    go : (b : Bool) → nat_eq x k ≡ b → times x (numbers_from (suc k) n) ≤ 1 → times x (numbers_from k (suc n)) ≤ 1
    go true q h =
        let e = eqb-true x k q in
        let none = times_absent x (suc k) n (omega (arith, e)) in
        subst (λ b. (if b then 1 else 0) + times x (numbers_from (suc k) n) ≤ 1) (sym q) (omega (arith, none))
    go false q h = subst (λ b. (if b then 1 else 0) + times x (numbers_from (suc k) n) ≤ 1) (sym q) (omega (arith, h))

mutual
  few_leaves : (t : math.Term) → length (variable_occurrences t) ≤ math.size t
  few_leaves (var x) = omega arith
  few_leaves (app f ts) = let h = few_leaves_of ts in omega (arith, h)

  few_leaves_of : (ts : math.Terms) → length (variable_occurrences_of ts) ≤ math.size_all ts
  few_leaves_of nil = omega arith
  few_leaves_of (cons t ts) =
      let h = few_leaves t in
      let k = few_leaves_of ts in
      let e = length-append (variable_occurrences t) (variable_occurrences_of ts) in
      omega (arith, h, k, e)

module _ (arities : List ℕ) (r : rules.Rule) (is : IsRule arities r) where
  goes : GoesOn 0 (variable_occurrences r.left)
  goes =
      let all = counts_first (rule_variables r) is.numbered is.few_variables in
      let first = first_leads (with_variables [] r.left) (cons r.right (sides r.conditions)) _ all in
      (_, subst (λ q. AreFirst q (length (with_variables [] r.left))) (with-leaves [] r.left) first)

  few : 0 + length (variable_occurrences r.left) < 2 ^ 31
  few = let fit = is.fits.0.nodes in let le = few_leaves r.left in omega (arith, fit, le)

  pub linear : first_seen 0 (variable_occurrences r.left) ≡ None → IsLinear r.left
  linear e x =
      let at = never 0 (variable_occurrences r.left) few goes e in
      subst (λ n. n ≤ 1) (sym (occurrences-times x r.left ∙ ap (times x) at)) (times_once x 0 (length (variable_occurrences r.left)))

  pub repeated : (x : ℕ) → first_seen 0 (variable_occurrences r.left) ≡ Some x → IsFirstRepeated r.left x
  repeated x e =
      let a = again 0 (variable_occurrences r.left) x few goes e in
      let low = a.below in
      record {
        before = a.before;
        after = a.after;
        split = a.split;
        distinct = subst AreDistinct (sym a.are) (all_distinct 0 (length a.before));
        again = subst (λ us. IsAmong x us) (sym a.are) (is_among x 0 (length a.before) (omega arith) low);
      }
