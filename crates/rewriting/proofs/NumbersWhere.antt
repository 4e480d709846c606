-- The numbers of the rules that pass a test: in order, none twice, each that of such a rule.
use Rattle.std.proofs.Common.{◌≡◌, ℕ, zero, suc, ◌+◌, ◌<◌, ◌≤◌, Bool, true, false, if◌then◌else◌, List, [], ◌∷◌, length, get_or, slice_get, Some, refl, ap, subst, ◌∙◌, arith}
use Rattle.rewriting.specs.Prelude.{Rule, numbers_where}

-- a number stands at a place of a list
abbrev pub Stands : ℕ → List ℕ → Type 0
Stands i ns = (k : ℕ) × (k < length ns) × (get_or ns k 0 ≡ i)

-- a number is that of a rule that passes, where the rules are counted from n
pub record IsOf (test : Rule → Bool) (n : ℕ) (rs : List Rule) (i : ℕ) : Type 0 where
  pub place : ℕ
  pub rule : Rule
  pub is_rule : slice_get rs place ≡ Some rule
  pub passes : test rule ≡ true
  pub is_number : i ≡ n + place

-- the list with a number before it, or without
abbrev chosen : Bool → ℕ → List ℕ → List ℕ
chosen b n ns = if b then n ∷ ns else ns

least_chosen : (n : ℕ) (ns : List ℕ) → ((k : ℕ) → k < length ns → suc n ≤ get_or ns k 0) → (b : Bool) (k : ℕ) → k < length (chosen b n ns) → n ≤ get_or (chosen b n ns) k 0
least_chosen n ns least true zero h = omega arith
least_chosen n ns least true (suc k) h = omega (arith, least k (omega arith))
least_chosen n ns least false k h = omega (arith, least k h)

rising_chosen : (n : ℕ) (ns : List ℕ) → ((k : ℕ) → k < length ns → suc n ≤ get_or ns k 0) → ((j k : ℕ) → j < k → k < length ns → get_or ns j 0 < get_or ns k 0)
    → (b : Bool) (j k : ℕ) → j < k → k < length (chosen b n ns) → get_or (chosen b n ns) j 0 < get_or (chosen b n ns) k 0
rising_chosen n ns least rise true j zero l h = absurd (omega arith)
rising_chosen n ns least rise true zero (suc k) l h = least k (omega arith)
rising_chosen n ns least rise true (suc j) (suc k) l h = rise j k (omega arith) (omega arith)
rising_chosen n ns least rise false j k l h = rise j k l h

stands_first : (n : ℕ) (ns : List ℕ) (b : Bool) → b ≡ true → Stands n (chosen b n ns)
stands_first n ns true e = (0, omega arith, refl)
stands_first n ns false e = absurd (cc)

stands_later : (n i : ℕ) (ns : List ℕ) (b : Bool) → Stands i ns → Stands i (chosen b n ns)
stands_later n i ns true (k, h, e) = (suc k, omega arith, e)
stands_later n i ns false s = s

module _ (test : Rule → Bool) where
  is_of_later : (n : ℕ) (r : Rule) (rs : List Rule) (i : ℕ) → IsOf test (suc n) rs i → IsOf test n (r ∷ rs) i
  is_of_later n r rs i h = record { place = suc h.place; rule = h.rule; is_rule = h.is_rule; passes = h.passes; is_number = (let e = h.is_number in omega (arith, e)) }

  is_of_chosen : (n : ℕ) (r : Rule) (rs : List Rule) (ns : List ℕ) → ((k : ℕ) → k < length ns → IsOf test (suc n) rs (get_or ns k 0))
      → (b : Bool) → test r ≡ b → (k : ℕ) → k < length (chosen b n ns) → IsOf test n (r ∷ rs) (get_or (chosen b n ns) k 0)
  is_of_chosen n r rs ns later true e zero h = record { place = 0; rule = r; is_rule = refl; passes = e; is_number = omega arith }
  is_of_chosen n r rs ns later true e (suc k) h = is_of_later n r rs _ (later k (omega arith))
  is_of_chosen n r rs ns later false e k h = is_of_later n r rs _ (later k h)

  pub least : (n : ℕ) (rs : List Rule) (k : ℕ) → k < length (numbers_where test n rs) → n ≤ get_or (numbers_where test n rs) k 0
  least n [] k h = absurd (omega arith)
  least n (r ∷ rs) k h = least_chosen n (numbers_where test (suc n) rs) (λ m l. least (suc n) rs m l) (test r) k h

  -- the numbers stand in order, none twice
  pub rising : (n : ℕ) (rs : List Rule) (j k : ℕ) → j < k → k < length (numbers_where test n rs) → get_or (numbers_where test n rs) j 0 < get_or (numbers_where test n rs) k 0
  rising n [] j k l h = absurd (omega arith)
  rising n (r ∷ rs) j k l h = rising_chosen n (numbers_where test (suc n) rs) (λ m q. least (suc n) rs m q) (λ i m p q. rising (suc n) rs i m p q) (test r) j k l h

  -- the number of each rule that passes stands in the list
  pub stands : (n : ℕ) (rs : List Rule) (j : ℕ) (r : Rule) → slice_get rs j ≡ Some r → test r ≡ true → Stands (n + j) (numbers_where test n rs)
  stands n [] j r e h = absurd (cc)
  stands n (q ∷ rs) zero r e h =
      let same : q ≡ r = cc in
      let here : n ≡ n + 0 = omega arith in
      subst (λ (i : ℕ). Stands i (chosen (test q) n (numbers_where test (suc n) rs))) here (stands_first n (numbers_where test (suc n) rs) (test q) (ap test same ∙ h))
  stands n (q ∷ rs) (suc j) r e h =
      let next : suc n + j ≡ n + suc j = omega arith in
      stands_later n (n + suc j) (numbers_where test (suc n) rs) (test q) (subst (λ (i : ℕ). Stands i (numbers_where test (suc n) rs)) next (stands (suc n) rs j r e h))

  -- each number in the list is that of a rule that passes
  pub of_rule : (n : ℕ) (rs : List Rule) (k : ℕ) → k < length (numbers_where test n rs) → IsOf test n rs (get_or (numbers_where test n rs) k 0)
  of_rule n [] k h = absurd (omega arith)
  of_rule n (r ∷ rs) k h = is_of_chosen n r rs (numbers_where test (suc n) rs) (λ m l. of_rule (suc n) rs m l) (test r) refl k h
