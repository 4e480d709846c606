-- A cap whose holes are numbered is linear, and has no other variables than its holes.
use Rattle.std.proofs.Common.{ℕ, ◌≡◌, ◌+◌, ◌^◌, ◌<◌, ◌≤◌, ◌⊎◌, inl, inr, Bool, true, false, nat_eq, if◌then◌else◌, Ok, refl, sym, ap, ◌∙◌, subst, subst₂, arith, eqb-true}
use Rattle.std.proofs.Math.Dec.{leb}
use Rattle.std.proofs.lemmas.Bool.Decides.{leb_tells}
use Rattle.general_lemmas.proofs.Numbers.{one_at_most}
use Rattle.rewriting.specs.Prelude.{Term, var, nil, cons, Fits, occurs, occurrences, occurrences_in, IsLinear, System}
use Rattle.rewriting.proofs.Variables.{IsLinearInParts, linear_in_parts, occurs-counted}
use Rattle.caps.specs.Caps.{Cap, Caps, hole, kept, node, no_caps, caps, holes, holes_in, filled, all_filled, constants, IsCapOf}
use Rattle.unifier_run.specs.Run.{Outcome, IsOutcome}
use Rattle.term_core.specs.View.{view}
use Rattle.term_core.specs.declared.terms.Term as program
use Rattle.tcap_infeasible.specs.declared.Cap.TheVariants.{Capped}
use Rattle.tcap_infeasible.specs.Compared.{IsFrozenOutcome}
use Rattle.tcap_infeasible.specs.declared.capping.Leaf.{Leaf}
use Rattle.tcap_infeasible.specs.declared.capping.Leaf.TheVariants.{Hole, Kept}
use Rattle.tcap_infeasible.specs.Frozen.{leaf_of, standing, IsHeld, FrozenAnswers}
use Rattle.tcap_infeasible.proofs.Bases.{holes_alone}
use Rattle.tcap_infeasible.proofs.Sizes.{cap_small}
use Rattle.tcap_infeasible.proofs.Linear.{AreLinearApart}

other_hole : (x n : ℕ) → (x < n) ⊎ (n + 1 ≤ x) → occurrences x (var n) ≡ 0
other_hole x n h = go (nat_eq x n) refl h
  where
    go : (b : Bool) → nat_eq x n ≡ b → (x < n) ⊎ (n + 1 ≤ x) → ◌≡◌ {A = ℕ} (if b then 1 else 0) 0
    go true e (inl l) = absurd (let same = eqb-true x n e in omega (arith, same, l))
    go true e (inr l) = absurd (let same = eqb-true x n e in omega (arith, same, l))
    go false e k = refl

mutual
  outside : (base x n : ℕ) (c : Cap) → (x < n) ⊎ (n + holes c ≤ x) → occurrences x (filled (constants base) n c) ≡ 0
  outside base x n hole h = other_hole x n h
  outside base x n (kept y) h = refl
  outside base x n (node f cs) h = all_outside base x n cs h

  all_outside : (base x n : ℕ) (cs : Caps) → (x < n) ⊎ (n + holes_in cs ≤ x) → occurrences_in x (all_filled (constants base) n cs) ≡ 0
  all_outside base x n no_caps h = refl
  all_outside base x n (caps c cs) (inl l) = (let p = outside base x n c (inl l) in let q = all_outside base x (n + holes c) cs (inl (omega (arith, l))) in omega (arith, p, q))
  all_outside base x n (caps c cs) (inr l) = (let p = outside base x n c (inr (omega (arith, l))) in let q = all_outside base x (n + holes c) cs (inr (omega (arith, l))) in omega (arith, p, q))

mutual
  once : (base x n : ℕ) (c : Cap) → occurrences x (filled (constants base) n c) ≤ 1
  once base x n hole = one_at_most (nat_eq x n)
  once base x n (kept y) = omega arith
  once base x n (node f cs) = all_once base x n cs

  all_once : (base x n : ℕ) (cs : Caps) → occurrences_in x (all_filled (constants base) n cs) ≤ 1
  all_once base x n no_caps = omega arith
  all_once base x n (caps c cs) = one_side (leb_tells (n + holes c) x) (outside base x n c) (all_outside base x (n + holes c) cs) (once base x n c) (all_once base x (n + holes c) cs)
    where
      one_side : ((leb (n + holes c) x ≡ true) × (n + holes c ≤ x)) ⊎ ((leb (n + holes c) x ≡ false) × (x < n + holes c))
          → ((x < n) ⊎ (n + holes c ≤ x) → occurrences x (filled (constants base) n c) ≡ 0)
          → ((x < n + holes c) ⊎ (n + holes c + holes_in cs ≤ x) → occurrences_in x (all_filled (constants base) (n + holes c) cs) ≡ 0)
          → occurrences x (filled (constants base) n c) ≤ 1 → occurrences_in x (all_filled (constants base) (n + holes c) cs) ≤ 1
          → occurrences x (filled (constants base) n c) + occurrences_in x (all_filled (constants base) (n + holes c) cs) ≤ 1
      one_side (inl (e, l)) f g a b = (let none = f (inr l) in omega (arith, none, b))
      one_side (inr (e, l)) f g a b = (let none = g (inl l) in omega (arith, none, a))

absent : (x : ℕ) (t : Term) → occurs x t ≡ true → occurrences x t ≡ 0 → ⊥
absent x t o none = let some = occurs-counted x t o in omega (arith, some, none)

-- its variables are its holes
hole_from : (base x n : ℕ) (c : Cap) → occurs x (filled (constants base) n c) ≡ true → n ≤ x
hole_from base x n c o = go (leb_tells n x)
  where
    go : ((leb n x ≡ true) × (n ≤ x)) ⊎ ((leb n x ≡ false) × (x < n)) → n ≤ x
    go (inl (e, l)) = l
    go (inr (e, l)) = absurd (absent x _ o (outside base x n c (inl l)))

hole_before : (base x n : ℕ) (c : Cap) → occurs x (filled (constants base) n c) ≡ true → x < n + holes c
hole_before base x n c o = go (leb_tells (n + holes c) x)
  where
    go : ((leb (n + holes c) x ≡ true) × (n + holes c ≤ x)) ⊎ ((leb (n + holes c) x ≡ false) × (x < n + holes c)) → x < n + holes c
    go (inl (e, l)) = absurd (absent x _ o (outside base x n c (inr l)))
    go (inr (e, l)) = l

pub held_linear : (sys : System) (f : ℕ) (t : Term) (n : ℕ) (c : Cap) → IsHeld sys f t n c → IsLinear t
held_linear sys f t n c held x = subst (λ z. occurrences x z ≤ 1) (sym held.shown) (once held.base x n c)

pub held_from : (sys : System) (f : ℕ) (t : Term) (n : ℕ) (c : Cap) → IsHeld sys f t n c → (x : ℕ) → occurs x t ≡ true → 2 ^ 31 ≤ x
held_from sys f t n c held x o =
    let low = held.low in let h = hole_from held.base x n c (subst (λ z. occurs x z ≡ true) held.shown o) in omega (arith, low, h)

-- constants stand for the variables that stay
with_constants : (sys : System) (leaf : Leaf) (t : Term) (c : Cap) (n : ℕ) → IsCapOf sys (leaf_of leaf) t c → (base : ℕ) × (filled (standing leaf) n c ≡ filled (constants base) n c)
with_constants sys Hole t c n is = (0, holes_alone sys t c var (constants 0) n is)
with_constants sys (Kept base) t c n is = (base, refl)

cap_fits : (sys : System) (leaf : Leaf) (t : Term) (c : Cap) (n : ℕ) → IsCapOf sys (leaf_of leaf) t c → Fits t → Fits (filled (standing leaf) n c)
cap_fits sys leaf t c n is fit =
    let small = cap_small sys leaf t c n is in
    let a = small.nodes in
    let b = small.levels in
    let p = fit.nodes in
    let q = fit.levels in
    record { nodes = omega (arith, a, p); levels = omega (arith, b, q) }

cap_linear : (sys : System) (leaf : Leaf) (t : Term) (c : Cap) (n : ℕ) → IsCapOf sys (leaf_of leaf) t c → IsLinearInParts (filled (standing leaf) n c)
cap_linear sys leaf t c n is = let k = with_constants sys leaf t c n is in subst IsLinearInParts (sym k.1) (linear_in_parts _ (λ x. once k.0 x n c))

-- caps whose holes are numbered in one row
pub caps_apart : (sys : System) (leaf : Leaf) (u v : Term) (c d : Cap) (n : ℕ) → IsCapOf sys (leaf_of leaf) u c → IsCapOf sys (leaf_of leaf) v d → Fits u → Fits v
    → AreLinearApart (filled (standing leaf) n c) (filled (standing leaf) (n + holes c) d)
caps_apart sys leaf u v c d n is are fit fits =
    record {
      left = cap_linear sys leaf u c n is;
      right = cap_linear sys leaf v d (n + holes c) are;
      apart = λ x o p. (
          let j = with_constants sys leaf u c n is in
          let k = with_constants sys leaf v d (n + holes c) are in
          let before = hole_before j.0 x n c (subst (λ z. occurs x z ≡ true) j.1 o) in
          let from = hole_from k.0 x (n + holes c) d (subst (λ z. occurs x z ≡ true) k.1 p) in
          omega (arith, before, from)
          );
      left_fits = cap_fits sys leaf u c n is fit;
      right_fits = cap_fits sys leaf v d (n + holes c) are fits;
    }

-- two terms of the program that are such caps
module _ (sys : System) (leaf : Leaf) (u v : Term) (p q : program.Term) (n m : ℕ) (first : FrozenAnswers sys leaf u (2 ^ 31) n (Ok (Capped p)))
    (second : FrozenAnswers sys leaf v n m (Ok (Capped q))) where
  second_shown : view q ≡ filled (standing leaf) (2 ^ 31 + holes first.0) second.0
  second_shown = second.2 ∙ ap (λ z. filled (standing leaf) z second.0) first.3

  pub views_apart : Fits u → Fits v → AreLinearApart (view p) (view q)
  views_apart fit fits = subst₂ AreLinearApart (sym first.2) (sym second_shown) (caps_apart sys leaf u v first.0 second.0 (2 ^ 31) first.1 second.1 fit fits)

  pub frozen_outcome : (o : Outcome) → IsOutcome (cons (view p) nil) (cons (view q) nil) o → IsFrozenOutcome sys leaf u v o
  frozen_outcome o run =
      record {
        first = first.0;
        second = second.0;
        is_first = first.1;
        is_second = second.1;
        outcome = subst₂ (λ x y. IsOutcome (cons x nil) (cons y nil) o) first.2 second_shown run;
      }
