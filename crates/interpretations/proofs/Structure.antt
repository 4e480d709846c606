-- The sides of an unraveled system: passive arguments are variables, so no subterm has a greater part than the side.
use Rattle.std.proofs.Common.{◌≡◌, ℕ, zero, suc, ◌+◌, ◌*◌, ◌<◌, ◌≤◌, ◌⊎◌, inl, inr, refl, sym, ap, ◌∙◌, subst, arith, List, [], ◌∷◌, ◌++◌, length, slice_get, Option, Some, None}
use Rattle.std.proofs.Common.{option_and_then, ◌^◌, Bool, true, false, nat_eq, if◌then◌else◌}
use Rattle.std.proofs.Math.Nat.{mul-le-mul_right}
use Rattle.rewriting.specs.Prelude.{Each, terms_of_rule, IsWellFormed, unraveled, unraveled_from, unraveled_rule, unraveled_rules, keeper, variable_terms, IsActive}
use Rattle.rewriting.proofs.Common.{Term, var, app, Terms, nil, cons, count, Position, argument, subterm, apply, apply_all, Signature, IsOver, Rule, System, rule_at}
use Rattle.rewriting.proofs.Common.{Condition, sides, variables, with_variables}
use Rattle.rewriting.specs.Signatures.{HasSymbolsBelow, HaveSymbolsBelow}
use Rattle.rewriting.proofs.Over.{below_of_over}
use Rattle.rewriting.proofs.Unraveled.{argument_of_over}
use Rattle.interpretations.specs.Linear.{Interpretation, number_of, constant, coefficient, coefficient_from, HasShape, AreAllNumbersGood, IsLarge, HasLargePart}
use Rattle.interpretations.proofs.Bound.{active_number_by, argument_within, in_sum}

abbrev pub AreVariables : Terms → Type 0
AreVariables nil = Unit {0}
AreVariables (cons t ts) = ((x : ℕ) × (t ≡ var x)) × AreVariables ts

-- a side is such a term, or one of them behind any symbol, followed by variables
pub record IsKept (n : ℕ) (t : Term) : Type 0 where
  pub symbol : ℕ
  pub first : Term
  pub others : Terms
  pub shown : t ≡ app symbol (cons first others)
  pub plain : HasSymbolsBelow n first
  pub variable : AreVariables others

abbrev pub IsSide : ℕ → Term → Type 0
IsSide n t = HasSymbolsBelow n t ⊎ IsKept n t

each_plain : (arities : Signature) (ts : Terms) → Each (IsOver arities) ts → Each (HasSymbolsBelow (length arities)) ts
each_plain arities nil h = tt
each_plain arities (cons t ts) h = (below_of_over arities t h.0, each_plain arities ts h.1)

-- renaming variables keeps all this
mutual
  plain_renamed : (n : ℕ) (f : ℕ → ℕ) (t : Term) → HasSymbolsBelow n t → HasSymbolsBelow n (apply (λ x. var (f x)) t)
  plain_renamed n f (var x) h = tt
  plain_renamed n f (app g ts) h = (h.0, plain_all_renamed n f ts h.1)

  plain_all_renamed : (n : ℕ) (f : ℕ → ℕ) (ts : Terms) → HaveSymbolsBelow n ts → HaveSymbolsBelow n (apply_all (λ x. var (f x)) ts)
  plain_all_renamed n f nil h = tt
  plain_all_renamed n f (cons t ts) h = (plain_renamed n f t h.0, plain_all_renamed n f ts h.1)

variables_renamed : (f : ℕ → ℕ) (ts : Terms) → AreVariables ts → AreVariables (apply_all (λ x. var (f x)) ts)
variables_renamed f nil h = tt
variables_renamed f (cons t ts) ((x, e), h) = ((f x, ap (apply (λ x. var (f x))) e), variables_renamed f ts h)

side_renamed : (n : ℕ) (f : ℕ → ℕ) (t : Term) → IsSide n t → IsSide n (apply (λ x. var (f x)) t)
side_renamed n f t (inl h) = inl (plain_renamed n f t h)
side_renamed n f t (inr k) =
    inr record {
      symbol = k.symbol;
      first = apply (λ x. var (f x)) k.first;
      others = apply_all (λ x. var (f x)) k.others;
      shown = ap (apply (λ x. var (f x))) k.shown;
      plain = plain_renamed n f k.first k.plain;
      variable = variables_renamed f k.others k.variable;
    }

variables_variable : (xs : List ℕ) → AreVariables (variable_terms xs)
variables_variable [] = tt
variables_variable (x ∷ xs) = ((x, refl), variables_variable xs)

keeper_side : (n f : ℕ) (t : Term) (xs : List ℕ) → HasSymbolsBelow n t → IsSide n (keeper f t xs)
keeper_side n f t xs h = inr record { symbol = f; first = t; others = variable_terms xs; shown = refl; plain = h; variable = variables_variable xs }

abbrev AllSides : ℕ → List Rule → Type 0
AllSides n [] = Unit {0}
AllSides n (r ∷ rs) = (IsSide n r.left × IsSide n r.right) × AllSides n rs

sides_append : (n : ℕ) (ps qs : List Rule) → AllSides n ps → AllSides n qs → AllSides n (ps ++ qs)
sides_append n [] qs h k = k
sides_append n (p ∷ ps) qs (h, hs) k = (h, sides_append n ps qs hs k)

from_sides : (n f : ℕ) (xs : List ℕ) (head : Term) (cs : List Condition) (r : Term) → IsSide n head → Each (HasSymbolsBelow n) (sides cs) → HasSymbolsBelow n r
    → AllSides n (unraveled_from f xs head cs r)
from_sides n f xs head [] r h k p = ((side_renamed n _ head h, side_renamed n _ r (inl p)), tt)
from_sides n f xs head (c ∷ cs) r h k p = (
  (side_renamed n _ head h, side_renamed n _ (keeper f c.left xs) (keeper_side n f c.left xs k.0)),
  from_sides n (suc f) (with_variables xs c.right) (keeper f c.right xs) cs r
      (keeper_side n f c.right xs k.1.0) k.1.1 p,
)

rules_sides : (n f : ℕ) (qs : List Rule) → ((i : ℕ) (q : Rule) → slice_get qs i ≡ Some q → Each (HasSymbolsBelow n) (terms_of_rule q)) → AllSides n (unraveled_rules f qs)
rules_sides n f [] h = tt
rules_sides n f (q ∷ qs) h =
    let first = h 0 q refl in
    sides_append n (unraveled_rule f q) _ (from_sides n f (variables q.left) q.left q.conditions q.right (inl first.0) first.1.1 first.1.0)
    (rules_sides n (f + length q.conditions) qs (λ i r e. h (suc i) r e))

one_side : (n : ℕ) (rs : List Rule) → AllSides n rs → (i : ℕ) (r : Rule) → slice_get rs i ≡ Some r → IsSide n r.left × IsSide n r.right
one_side n [] h i r e = absurd (cc)
one_side n (q ∷ qs) (h, hs) zero r e = let same : q ≡ r = cc in subst (λ z. IsSide n z.left × IsSide n z.right) same h
one_side n (q ∷ qs) (h, hs) (suc i) r e = one_side n qs hs i r e

pub sides_of : (sys : System) → IsWellFormed sys → (i : ℕ) (r : Rule) → rule_at (unraveled sys) i ≡ Some r → IsSide (length sys.arities) r.left × IsSide (length sys.arities) r.right
sides_of sys well zero r e = absurd (cc)
sides_of sys well (suc i) r e =
    one_side (length sys.arities) (unraveled_rules (length sys.arities) sys.rules)
    (rules_sides (length sys.arities) (length sys.arities) sys.rules (λ i q at. each_plain sys.arities (terms_of_rule q) (well (suc i) q at).over)) i r e

coefficient_in : (es : Interpretation) (x f i : ℕ) (ts : Terms) (k : ℕ) (t : Term) → argument ts (suc k) ≡ Some t → 1 ≤ number_of es f (i + k) → coefficient es x t ≤ coefficient_from es x f i ts
coefficient_in es x f i nil k t e le = absurd (cc)
coefficient_in es x f i (cons s ts) zero t e le =
    let same : s ≡ t = cc in
    let here : 1 ≤ number_of es f i = (let z : i + 0 ≡ i = omega arith in subst (λ j. 1 ≤ number_of es f j) z le) in
    let product = mul-le-mul_right (coefficient es x s) here in
    subst (λ z. coefficient es x z ≤ number_of es f i * coefficient es x s + coefficient_from es x f (suc i) ts) same (omega (arith, product))
coefficient_in es x f i (cons s ts) (suc k) t e le =
    let there : 1 ≤ number_of es f (suc i + k) = (let z : i + suc k ≡ suc i + k = omega arith in subst (λ j. 1 ≤ number_of es f j) z le) in
    let rest = coefficient_in es x f (suc i) ts k t e there in
    omega (arith, rest)

-- neither the constant nor a coefficient of u is greater than that of t
pub record IsAtMost (es : Interpretation) (u t : Term) : Type 0 where
  pub constants : constant es u ≤ constant es t
  pub coefficients : (x : ℕ) → coefficient es x u ≤ coefficient es x t

at_most-trans : (es : Interpretation) (u v t : Term) → IsAtMost es u v → IsAtMost es v t → IsAtMost es u t
at_most-trans es u v t h k =
    record {
      constants = (let a = h.constants in let b = k.constants in omega (arith, a, b));
      coefficients = λ x. (let a = h.coefficients x in let b = k.coefficients x in omega (arith, a, b));
    }

argument_at_most : (es : Interpretation) (f : ℕ) (ts : Terms) (k : ℕ) (t : Term) → argument ts (suc k) ≡ Some t → 1 ≤ number_of es f (suc k) → IsAtMost es t (app f ts)
argument_at_most es f ts k t e le =
    let there : 1 ≤ number_of es f (1 + k) = (let z : suc k ≡ 1 + k = omega arith in subst (λ j. 1 ≤ number_of es f j) z le) in
    let a = in_sum es f 1 ts k t e there in
    record { constants = omega (arith, a); coefficients = λ x. coefficient_in es x f 1 ts k t e there }

plain_argument : (n : ℕ) (ts : Terms) (k : ℕ) (t : Term) → HaveSymbolsBelow n ts → argument ts k ≡ Some t → HasSymbolsBelow n t
plain_argument n nil k t h e = absurd (cc)
plain_argument n (cons s ts) zero t h e = absurd (cc)
plain_argument n (cons s ts) (suc zero) t h e = let same : s ≡ t = cc in subst (HasSymbolsBelow n) same h.0
plain_argument n (cons s ts) (suc (suc k)) t h e = plain_argument n ts (suc k) t h.1 e

variable_argument : (ts : Terms) (k : ℕ) (t : Term) → AreVariables ts → argument ts k ≡ Some t → (x : ℕ) × (t ≡ var x)
variable_argument nil k t h e = absurd (cc)
variable_argument (cons s ts) zero t h e = absurd (cc)
variable_argument (cons s ts) (suc zero) t ((x, is), h) e = let same : s ≡ t = cc in (x, sym same ∙ is)
variable_argument (cons s ts) (suc (suc k)) t (_, h) e = variable_argument ts (suc k) t h e

same_term : (es : Interpretation) (t u : Term) → Some t ≡ Some u → IsAtMost es u t
same_term es t u e = let same : t ≡ u = cc in subst (λ z. IsAtMost es z t) same record { constants = omega arith; coefficients = λ x. omega arith }

module _ (sys : System) (es : Interpretation) (shape : HasShape sys es) (numbers : AreAllNumbersGood sys es) where
  -- an active argument is at most the term
  active_at_most : (f : ℕ) (ts : Terms) (k : ℕ) (s : Term) → IsOver (unraveled sys).arities (app f ts) → IsActive sys f k → argument ts k ≡ Some s → IsAtMost es s (app f ts)
  active_at_most f ts zero s over active e = let w = argument_within ts zero s e in absurd (omega (arith, w.0))
  active_at_most f ts (suc k) s over active e = let w = argument_within ts (suc k) s e in argument_at_most es f ts k s e (active_number_by sys es shape numbers f k (count ts) over.0 active w.1)

  -- no subterm of a plain term is greater
  plain_dominates : (p : Position) (t u : Term) → IsOver (unraveled sys).arities t → HasSymbolsBelow (length sys.arities) t → subterm t p ≡ Some u → IsAtMost es u t
  plain_dominates [] t u over plain e = same_term es t u e
  plain_dominates (k ∷ p) (var x) u over plain e = absurd (cc)
  plain_dominates (k ∷ p) (app f ts) u over plain e = below (argument ts k) refl e (λ s o q at. plain_dominates p s u o q at)
    where
      below : (o : Option Term) → argument ts k ≡ o → option_and_then (λ s. subterm s p) o ≡ Some u
          → ((s : Term) → IsOver (unraveled sys).arities s → HasSymbolsBelow (length sys.arities) s → subterm s p ≡ Some u → IsAtMost es u s) → IsAtMost es u (app f ts)
      below None here at ih = absurd (cc)
      below (Some s) here at ih =
          at_most-trans es u s (app f ts) (ih s (argument_of_over (unraveled sys).arities (app f ts) k s here over) (plain_argument (length sys.arities) ts k s plain.1 here) at)
          (active_at_most f ts k s over (inl plain.0) here)

  in_variable : (x : ℕ) (p : Position) (u : Term) → subterm (var x) p ≡ Some u → u ≡ var x
  in_variable x [] u e = cc
  in_variable x (k ∷ p) u e = absurd (cc)

  -- a subterm of a side is at most the side, or a variable
  kept_dominates : (p : Position) (symbol : ℕ) (first : Term) (others : Terms) (u : Term) → IsOver (unraveled sys).arities (app symbol (cons first others))
      → HasSymbolsBelow (length sys.arities) first → AreVariables others → subterm (app symbol (cons first others)) p ≡ Some u
      → IsAtMost es u (app symbol (cons first others)) ⊎ ((x : ℕ) × (u ≡ var x))
  kept_dominates [] symbol first others u over plain vs e = inl (same_term es _ u e)
  kept_dominates (zero ∷ p) symbol first others u over plain vs e = absurd (cc)
  kept_dominates (suc zero ∷ p) symbol first others u over plain vs e =
      inl (at_most-trans es u first _ (plain_dominates p first u over.1.0 plain e) (active_at_most symbol (cons first others) 1 first over (inr refl) refl))
  kept_dominates (suc (suc k) ∷ p) symbol first others u over plain vs e = behind (argument others (suc k)) refl e
    where
      behind : (o : Option Term) → argument others (suc k) ≡ o → option_and_then (λ s. subterm s p) o ≡ Some u → IsAtMost es u (app symbol (cons first others)) ⊎ ((x : ℕ) × (u ≡ var x))
      behind None here at = absurd (cc)
      behind (Some s) here at = let v = variable_argument others (suc k) s vs here in inr (v.0, in_variable v.0 p u (subst (λ z. subterm z p ≡ Some u) v.1 at))

  side_dominates : (p : Position) (t u : Term) → IsOver (unraveled sys).arities t → IsSide (length sys.arities) t → subterm t p ≡ Some u → IsAtMost es u t ⊎ ((x : ℕ) × (u ≡ var x))
  side_dominates p t u over (inl plain) e = inl (plain_dominates p t u over plain e)
  side_dominates p t u over (inr k) e =
      subst (λ z. IsAtMost es u z ⊎ ((x : ℕ) × (u ≡ var x))) (sym k.shown)
      (kept_dominates p k.symbol k.first k.others u (subst (IsOver (unraveled sys).arities) k.shown over) k.plain k.variable (subst (λ z. subterm z p ≡ Some u) k.shown e))

  variable_small : (x : ℕ) → IsLarge es (var x) → ⊥
  variable_small x (inl lt) = omega (arith, lt)
  variable_small x (inr (y, lt)) = go (nat_eq y x) lt
    where
      go : (b : Bool) → 2 ^ 100 < (if b then 1 else 0) → ⊥
      go true lt = omega (arith, lt)
      go false lt = omega (arith, lt)

  at_most_small : (u t : Term) → IsAtMost es u t → IsLarge es u → IsLarge es t
  at_most_small u t h (inl lt) = inl (let a = h.constants in omega (arith, a, lt))
  at_most_small u t h (inr (x, lt)) = inr (x, (let a = h.coefficients x in omega (arith, a, lt)))

  -- where a subterm of a side has a large part, the side has
  pub large_side : (t : Term) → IsOver (unraveled sys).arities t → IsSide (length sys.arities) t → HasLargePart es t → IsLarge es t
  large_side t over side (p, u, at, large) = by_case (side_dominates p t u over side at)
    where
      by_case : IsAtMost es u t ⊎ ((x : ℕ) × (u ≡ var x)) → IsLarge es t
      by_case (inl h) = at_most_small u t h large
      by_case (inr (x, e)) = absurd (variable_small x (subst (IsLarge es) e large))
