-- The blame for a class is one, and where there is one the class does not hold.
use Rattle.std.proofs.Common.{ℕ, suc, ◌≡◌, inl, inr, ◌<◌, refl, sym, ap, ap₂, ◌∙◌, subst, false, List, [], ◌∷◌, ◌++◌, Option, Some, None}
use Rattle.rewriting.specs.Prelude.{IsAmong, AreDistinct, Term, cons, Condition, Rule, System, rule_at, sides, EachRule, occurs_in, IsAt, known}
use Rattle.rewriting.proofs.Lists.{among_middle, distinct_middle}
use Rattle.rewriting.proofs.Conditions.{Order, is_smaller, is_equal, is_greater, order}
use Rattle.certificates.specs.Prelude.{Class, left_linear, type3, extended_oriented, right_stable, deterministic, Blame, IsFirstVariable, IsFirstRepeated, IsOld, IsType3Blame, IsUnstable}
use Rattle.certificates.specs.Prelude.{IsRightStableBlame, IsDeterministicBlame, IsUndetermined, IsInClass, IsRuleBlamed}
use Rattle.certificates.proofs.Blames.{not_type3, fresh_not_old, stable_or_blamed, known_or_blamed, outside, blamed_outside}
use Rattle.valid_certificates.specs.Confluence.{IsBlameOf}

-- a list is split at two places: the same one, or one behind the other
data Splits (xs ys : List ℕ) (x y : ℕ) : Type 0 where
  same_place : x ≡ y → Splits xs ys x y
  first_earlier : (rest : List ℕ) → ys ≡ xs ++ x ∷ rest → Splits xs ys x y
  second_earlier : (rest : List ℕ) → xs ≡ ys ++ y ∷ rest → Splits xs ys x y

splits : (xs ys us vs : List ℕ) (x y : ℕ) → xs ++ x ∷ us ≡ ys ++ y ∷ vs → Splits xs ys x y
splits [] [] us vs x y e = same_place (cc)
splits [] (b ∷ ys) us vs x y e = (let h : x ≡ b = cc in first_earlier ys (ap (λ z. z ∷ ys) (sym h)))
splits (a ∷ xs) [] us vs x y e = (let h : a ≡ y = cc in second_earlier xs (ap (λ z. z ∷ xs) h))
splits (a ∷ xs) (b ∷ ys) us vs x y e = (let h : a ≡ b = cc in let k : xs ++ x ∷ us ≡ ys ++ y ∷ vs = cc in go h (splits xs ys us vs x y k))
  where
    go : a ≡ b → Splits xs ys x y → Splits (a ∷ xs) (b ∷ ys) x y
    go h (same_place s) = same_place s
    go h (first_earlier rest s) = first_earlier rest (ap₂ (λ (z : ℕ) (zs : List ℕ). z ∷ zs) (sym h) s)
    go h (second_earlier rest s) = second_earlier rest (ap₂ (λ (z : ℕ) (zs : List ℕ). z ∷ zs) h s)

first_once : (P : ℕ → Type 0) (t : Term) (x y : ℕ) → IsFirstVariable P t x → IsFirstVariable P t y → x ≡ y
first_once P t x y f g = go (splits f.before g.before f.after g.after x y (sym f.split ∙ g.split))
  where
    go : Splits f.before g.before x y → x ≡ y
    go (same_place e) = e
    go (first_earlier rest e) = absurd (g.none_before x (subst (IsAmong x) (sym e) (among_middle x f.before rest)) f.here)
    go (second_earlier rest e) = absurd (f.none_before y (subst (IsAmong y) (sym e) (among_middle y g.before rest)) g.here)

repeated_once : (t : Term) (x y : ℕ) → IsFirstRepeated t x → IsFirstRepeated t y → x ≡ y
repeated_once t x y f g = go (splits f.before g.before f.after g.after x y (sym f.split ∙ g.split))
  where
    go : Splits f.before g.before x y → x ≡ y
    go (same_place e) = e
    go (first_earlier rest e) = absurd (distinct_middle x f.before rest (subst AreDistinct e g.distinct) f.again)
    go (second_earlier rest e) = absurd (distinct_middle y g.before rest (subst AreDistinct e f.distinct) g.again)

same_condition : (cs : List Condition) (i k : ℕ) (c d : Condition) → IsAt cs i c → IsAt cs k d → i ≡ k → c ≡ d
same_condition cs i k c d a b e = (let h : IsAt cs k c = subst (λ n. IsAt cs n c) e a in cc)

-- one condition and one variable
abbrev OneFault : ℕ → Option ℕ → ℕ → Option ℕ → Type 0
OneFault condition variable number other = (condition ≡ number) × (variable ≡ other)

type3_once : (r : Rule) (n m : ℕ) (v w : Option ℕ) → IsType3Blame r n v → IsType3Blame r m w → OneFault n v m w
type3_once r n m None w a b = absurd a
type3_once r n m (Some x) None a b = absurd b
type3_once r n m (Some x) (Some y) (e, f) (h, g) =
    (e ∙ sym h, ap Some (first_once (λ z. occurs_in z (cons r.left (sides r.conditions)) ≡ false) r.right x y f g))

module _ (sys : System) (r : Rule) where
  unstable_once : (i : ℕ) (c : Condition) (v w : Option ℕ) → IsUnstable sys r i c v → IsUnstable sys r i c w → v ≡ w
  unstable_once i c None None a b = refl
  unstable_once i c None (Some y) a b = absurd (fresh_not_old r i c y a.0 b)
  unstable_once i c (Some x) None a b = absurd (fresh_not_old r i c x b.0 a)
  unstable_once i c (Some x) (Some y) a b = ap Some (first_once (IsOld r i) c.right x y a b)

  right_stable_once : (n m : ℕ) (v w : Option ℕ) → IsRightStableBlame sys r n v → IsRightStableBlame sys r m w → OneFault n v m w
  right_stable_once n m v w a b = go (order a.i b.i)
    where
      here : a.i ≡ b.i → a.c ≡ b.c → IsUnstable sys r b.i b.c v
      here e c = subst (λ z. IsUnstable sys r b.i z v) c (subst (λ k. IsUnstable sys r k a.c v) e a.fails)

      go : Order a.i b.i → OneFault n v m w
      go (is_smaller lt) = absurd (stable_or_blamed sys r n v a (b.good_before a.i a.c lt a.is_at))
      go (is_greater lt) = absurd (stable_or_blamed sys r m w b (a.good_before b.i b.c lt b.is_at))
      go (is_equal e) = (
        a.number ∙ ap suc e ∙ sym b.number,
        unstable_once b.i b.c v w (here e (same_condition r.conditions a.i b.i a.c b.c a.is_at b.is_at e)) b.fails,
      )

module _ (r : Rule) where
  undetermined_once : (n m x y : ℕ) → IsUndetermined r n x → IsUndetermined r m y → OneFault n (Some x) m (Some y)
  undetermined_once n m x y a b = go (order a.i b.i)
    where
      here : a.i ≡ b.i → a.c ≡ b.c → IsFirstVariable (λ z. occurs_in z (known r b.i) ≡ false) b.c.left x
      here e c =
          subst (λ (d : Condition). IsFirstVariable (λ z. occurs_in z (known r b.i) ≡ false) d.left x) c
          (subst (λ k. IsFirstVariable (λ z. occurs_in z (known r k) ≡ false) a.c.left x) e a.first)

      go : Order a.i b.i → OneFault n (Some x) m (Some y)
      go (is_smaller lt) = absurd (known_or_blamed r n x a (b.good_before a.i a.c lt a.is_at))
      go (is_greater lt) = absurd (known_or_blamed r m y b (a.good_before b.i b.c lt b.is_at))
      go (is_equal e) = (
        a.number ∙ ap suc e ∙ sym b.number,
        ap Some (first_once (λ z. occurs_in z (known r b.i) ≡ false) b.c.left x y (here e (same_condition r.conditions a.i b.i a.c b.c a.is_at b.is_at e)) b.first),
      )

  deterministic_once : (n m : ℕ) (v w : Option ℕ) → IsDeterministicBlame r n v → IsDeterministicBlame r m w → OneFault n v m w
  deterministic_once n m None w a b = absurd a
  deterministic_once n m (Some x) None a b = absurd b
  deterministic_once n m (Some x) (Some y) (inl a) (inl b) = type3_once r n m (Some x) (Some y) a b
  deterministic_once n m (Some x) (Some y) (inl a) (inr b) = absurd (not_type3 r n (Some x) a b.0)
  deterministic_once n m (Some x) (Some y) (inr a) (inl b) = absurd (not_type3 r m (Some y) b a.0)
  deterministic_once n m (Some x) (Some y) (inr a) (inr b) = undetermined_once n m x y a.1 b.1

module _ (sys : System) where
  -- what is at fault in a rule is one
  fault_once : (class : Class) (r : Rule) (n m : ℕ) (v w : Option ℕ) → IsRuleBlamed sys class r n v → IsRuleBlamed sys class r m w → OneFault n v m w
  fault_once left_linear r n m None w a b = absurd a
  fault_once left_linear r n m (Some x) None a b = absurd b
  fault_once left_linear r n m (Some x) (Some y) a b = (a.0 ∙ sym b.0, ap Some (repeated_once r.left x y a.1 b.1))
  fault_once type3 r n m v w a b = type3_once r n m v w a b
  fault_once extended_oriented r n m None None a b = (a.0 ∙ sym b.0, refl)
  fault_once extended_oriented r n m None (Some y) a b = absurd b
  fault_once extended_oriented r n m (Some x) w a b = absurd a
  fault_once right_stable r n m v w a b = right_stable_once sys r n m v w a b
  fault_once deterministic r n m v w a b = deterministic_once r n m v w a b

  same_rule : (i k : ℕ) (q r : Rule) → rule_at sys i ≡ Some q → rule_at sys k ≡ Some r → i ≡ k → q ≡ r
  same_rule i k q r a b e = (let h : rule_at sys k ≡ Some q = subst (λ n. rule_at sys n ≡ Some q) e a in cc)

same_blame : (a b : Blame) → a.class ≡ b.class → a.rule ≡ b.rule → (a.condition ≡ b.condition) × (a.variable ≡ b.variable) → a ≡ b
same_blame a b e h k =
    let first : Class → ℕ → Blame = λ c n. record { class = c; rule = n; condition = a.condition; variable = a.variable } in
    let second : ℕ → Option ℕ → Blame = λ n v. record { class = b.class; rule = b.rule; condition = n; variable = v } in
    ap₂ first e h ∙ ap₂ second k.0 k.1

module _ (sys : System) (class : Class) where
  -- what is at fault, and what holds of the rules before
  fails_at : (a : Blame) (x : IsBlameOf sys class a) → IsRuleBlamed sys class x.blamed.rule a.condition a.variable
  fails_at a x = subst (λ c. IsRuleBlamed sys c x.blamed.rule a.condition a.variable) x.names x.blamed.fails

  good_at : (a : Blame) (x : IsBlameOf sys class a) (i : ℕ) (r : Rule) → i < a.rule → rule_at sys i ≡ Some r → IsInClass sys class r
  good_at a x i r lt at = subst (λ c. IsInClass sys c r) x.names (x.blamed.good_before i r lt at)

  pub blame_once : (a b : Blame) → IsBlameOf sys class a → IsBlameOf sys class b → a ≡ b
  blame_once a b x y = go (order a.rule b.rule)
    where
      go : Order a.rule b.rule → a ≡ b
      go (is_smaller lt) = absurd (outside sys class x.blamed.rule a.condition a.variable (fails_at a x) (good_at b y a.rule x.blamed.rule lt x.blamed.is_rule))
      go (is_greater lt) = absurd (outside sys class y.blamed.rule b.condition b.variable (fails_at b y) (good_at a x b.rule y.blamed.rule lt y.blamed.is_rule))
      go (is_equal e) =
          let same = same_rule sys a.rule b.rule x.blamed.rule y.blamed.rule x.blamed.is_rule y.blamed.is_rule e in
          same_blame a b (x.names ∙ sym y.names) e
          (fault_once sys class y.blamed.rule a.condition b.condition a.variable b.variable
          (subst (λ r. IsRuleBlamed sys class r a.condition a.variable) same (fails_at a x)) (fails_at b y))

  -- and then not every rule is in the class
  pub blame_excludes : (a : Blame) → IsBlameOf sys class a → EachRule sys (λ r. IsInClass sys class r) → ⊥
  blame_excludes a x all = blamed_outside sys class a x.blamed x.names all
