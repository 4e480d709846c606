-- Heads stand in order, and where one stands is found by halves.
use Rattle.std.proofs.Common.{ℕ, zero, suc, ◌≡◌, ◌<◌, ◌≤◌, ◌⊎◌, inl, inr, List, [], ◌∷◌, Some, slice_get, sym, subst, arith}
use Rattle.std.proofs.lemmas.Bool.{cases_lt}
use Rattle.rewriting.specs.Prelude.{AreDistinct, IsSorted, Condition, Rule, System, Signature, Head, file, auxiliary, file_heads, condition_heads, auxiliary_heads, heads}
use Rattle.rewriting.proofs.Lists.{before_each, before_one, sorted_append}
use Rattle.rewriting.proofs.Members.{place_among}
use Rattle.path_orders.proofs.Heads.{IsFile, IsAuxiliary, IsConditionOf, files, conditions, auxiliaries}
use Rattle.lpo.specs.Symbols.{IsHeadBefore}

not_both : (a b : Head) → IsHeadBefore a b → IsHeadBefore b a → ⊥
not_both (file f) (file g) p q = omega (arith, p, q)
not_both (file f) (auxiliary i k) p q = q
not_both (auxiliary i k) (file f) p q = p
not_both (auxiliary i k) (auxiliary j l) (inl p) (inl q) = omega (arith, p, q)
not_both (auxiliary i k) (auxiliary j l) (inl p) (inr (e, q)) = omega (arith, p, e)
not_both (auxiliary i k) (auxiliary j l) (inr (e, p)) (inl q) = omega (arith, e, q)
not_both (auxiliary i k) (auxiliary j l) (inr (e, p)) (inr (d, q)) = omega (arith, p, q)

-- the heads of an unraveled system stand in order
file_before : (f : ℕ) (h : Head) → IsFile (suc f) h → IsHeadBefore (file f) h
file_before f (file g) i = omega (arith, i)
file_before f (auxiliary i k) h = tt

condition_before : (i k : ℕ) (h : Head) → IsConditionOf i (suc k) h → IsHeadBefore (auxiliary i k) h
condition_before i k (file f) h = h
condition_before i k (auxiliary j l) (e, h) = inr (sym e, omega (arith, h))

rule_before : (i n : ℕ) (a b : Head) → IsConditionOf i n a → IsAuxiliary (suc i) b → IsHeadBefore a b
rule_before i n (file f) b g h = absurd g
rule_before i n (auxiliary j k) (file f) g h = h
rule_before i n (auxiliary j k) (auxiliary m l) (e, g) h = inl (omega (arith, e, h))

kind_before : (n m : ℕ) (a b : Head) → IsFile n a → IsAuxiliary m b → IsHeadBefore a b
kind_before n m (file f) (file g) h k = absurd k
kind_before n m (file f) (auxiliary i j) h k = tt
kind_before n m (auxiliary i j) b h k = absurd h

files_in_order : (f : ℕ) (ns : Signature) → IsSorted IsHeadBefore (file_heads f ns)
files_in_order f [] = tt
files_in_order f (n ∷ ns) = (before_each IsHeadBefore (file f) (file_heads (suc f) ns) (λ h i. file_before f h (files (suc f) ns h i)), files_in_order (suc f) ns)

conditions_in_order : (i k : ℕ) (cs : List Condition) → IsSorted IsHeadBefore (condition_heads i k cs)
conditions_in_order i k [] = tt
conditions_in_order i k (c ∷ cs) = (
  before_each IsHeadBefore (auxiliary i k) (condition_heads i (suc k) cs) (λ h j. condition_before i k h (conditions i (suc k) cs h j)),
  conditions_in_order i (suc k) cs,
)

auxiliaries_in_order : (i : ℕ) (qs : List Rule) → IsSorted IsHeadBefore (auxiliary_heads i qs)
auxiliaries_in_order i [] = tt
auxiliaries_in_order i (q ∷ qs) =
    sorted_append IsHeadBefore (condition_heads i 1 q.conditions) (auxiliary_heads (suc i) qs) (conditions_in_order i 1 q.conditions) (auxiliaries_in_order (suc i) qs)
    (λ a b j k. rule_before i 1 a b (conditions i 1 q.conditions a j) (auxiliaries (suc i) qs b k))

heads_in_order : (sys : System) → IsSorted IsHeadBefore (heads sys)
heads_in_order sys =
    sorted_append IsHeadBefore (file_heads 0 sys.arities) (auxiliary_heads 1 sys.rules) (files_in_order 0 sys.arities) (auxiliaries_in_order 1 sys.rules)
    (λ a b i j. kind_before 0 1 a b (files 0 sys.arities a i) (auxiliaries 1 sys.rules b j))

pub sorted_heads : (sys : System) (hs : List Head) → hs ≡ heads sys → IsSorted IsHeadBefore hs
sorted_heads sys hs same = subst (IsSorted IsHeadBefore) (sym same) (heads_in_order sys)

pub distinct_heads : (hs : List Head) → IsSorted IsHeadBefore hs → AreDistinct hs
distinct_heads [] s = tt
distinct_heads (h ∷ hs) (first, s) = ((λ i. let again = before_one IsHeadBefore h h hs first i in not_both h h again again), distinct_heads hs s)

sorted_at : {X : Type 0} (order : X → X → Type 0) (xs : List X) → IsSorted order xs → (i j : ℕ) (x y : X) → i < j → slice_get xs i ≡ Some x → slice_get xs j ≡ Some y → order x y
sorted_at order [] s i j x y less a b = absurd (cc)
sorted_at order (z ∷ xs) s i zero x y less a b = absurd (omega (arith, less))
sorted_at order (z ∷ xs) (first, s) zero (suc j) x y less a b =
    (let same : z ≡ x = cc in subst (λ w. order w y) same (before_one order z y xs first (place_among xs j y b)))
sorted_at order (z ∷ xs) (first, s) (suc i) (suc j) x y less a b = sorted_at order xs s i j x y (omega (arith, less)) a b

-- on which side of a middle a head stands
module _ (hs : List Head) (sorted : IsSorted IsHeadBefore hs) (h x : Head) (m : ℕ) (at : slice_get hs m ≡ Some x) where
  pub behind_middle : IsHeadBefore x h → (f : ℕ) → slice_get hs f ≡ Some h → m < f
  behind_middle less f is = go (cases_lt m f) (cases_lt f m)
    where
      go : (m < f) ⊎ (f ≤ m) → (f < m) ⊎ (m ≤ f) → m < f
      go (inl lt) q = lt
      go (inr le) (inl lt) = absurd (not_both x h less (sorted_at IsHeadBefore hs sorted f m h x lt is at))
      go (inr le) (inr ge) =
          let same : m ≡ f = omega (arith, le, ge) in
          let there : slice_get hs f ≡ Some x = subst (λ k. slice_get hs k ≡ Some x) same at in
          let one : x ≡ h = cc in
          let again : IsHeadBefore h h = subst (λ z. IsHeadBefore z h) one less in absurd (not_both h h again again)

  pub up_to_middle : (IsHeadBefore x h → ⊥) → (f : ℕ) → slice_get hs f ≡ Some h → f ≤ m
  up_to_middle not f is = go (cases_lt m f)
    where
      go : (m < f) ⊎ (f ≤ m) → f ≤ m
      go (inl lt) = absurd (not (sorted_at IsHeadBefore hs sorted m f x h lt at is))
      go (inr le) = le
