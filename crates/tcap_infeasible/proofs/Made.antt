-- Rigid caps that were made before: they clash where the run for them does, in which their variables are constants.
use Rattle.std.proofs.Common.{ℕ, suc, ◌≡◌, ◌+◌, ◌^◌, ◌<◌, ◌≤◌, ◌||◌, Bool, true, false, nat_eq, nat_lt, if◌then◌else◌, refl, sym, ap, ap₂, ◌∙◌, arith, eq-eqb, eqb-true}
use Rattle.std.proofs.lemmas.Bool.{lt-ltb, ne_eqb}
use Rattle.rewriting.specs.Prelude.{Term, Terms, var, app, count, Substitution, System}
use Rattle.unifier_run.specs.Run.{unifier, clash}
use Rattle.caps.specs.Caps.{Cap, Caps, hole, kept, node, no_caps, caps, holes, filled, all_filled, past_symbols, past_symbols_of, constants}
use Rattle.caps.specs.Evidence.{past_both}
use Rattle.caps.proofs.Instances.{Keeps, KeepAll}
use Rattle.caps.proofs.Steps.{cap_keeps}
use Rattle.tcap_infeasible.specs.Clashes.{do_clash, do_any_clash}
use Rattle.tcap_infeasible.specs.Made.{IsMadeCap, MadeAnswers}
use Rattle.tcap_infeasible.specs.declared.capping.Leaf.TheVariants.{Kept}
use Rattle.tcap_infeasible.proofs.Clashes.{first_open, second_open}
use Rattle.tcap_infeasible.proofs.Linear.{AreLinearApart, clash_outcome, unifier_outcome}
use Rattle.tcap_infeasible.proofs.Filled.{caps_apart}
use Rattle.tcap_infeasible.proofs.Pairs.{woven_outcome}

count_filled : (s r : Substitution) (k i : ℕ) (cs : Caps) → count (all_filled s k cs) ≡ count (all_filled r i cs)
count_filled s r k i no_caps = refl
count_filled s r k i (caps c cs) = ap suc (count_filled s r (k + holes c) (i + holes c) cs)

-- constants from the base on, of which no symbol below is one
module _ (base : ℕ) where
  constant_second : (f : ℕ) (ts : Terms) (y : ℕ) → f < base → do_clash 0 (app f ts) (constants base y) ≡ true
  constant_second f ts y h = let other : nat_eq f (base + y) ≡ false = ne_eqb f (base + y) (λ e. omega (arith, e, h)) in rw other refl

  constant_first : (x g : ℕ) (us : Terms) → g < base → do_clash 0 (constants base x) (app g us) ≡ true
  constant_first x g us h = let other : nat_eq (base + x) g ≡ false = ne_eqb (base + x) g (λ e. omega (arith, e, h)) in rw other refl

  -- for the variables below a number
  module _ (n : ℕ) where
    both_constants : (x y : ℕ) → x < n → y < n → do_clash n (var x) (var y) ≡ do_clash 0 (constants base x) (constants base y)
    both_constants x y h k = go (nat_eq x y) refl
      where
        first : nat_lt x n ≡ true
        first = lt-ltb x n h

        second : nat_lt y n ≡ true
        second = lt-ltb y n k

        go : (b : Bool) → nat_eq x y ≡ b → do_clash n (var x) (var y) ≡ do_clash 0 (constants base x) (constants base y)
        go true e = (let same : nat_eq (base + x) (base + y) ≡ true = eq-eqb (base + x) (base + y) (ap (λ z. base + z) (eqb-true x y e)) in rw (first, second, e, same) refl)
        go false e =
            (let other : nat_eq (base + x) (base + y) ≡ false = ne_eqb (base + x) (base + y) (λ s. let yes = eq-eqb x y (omega (arith, s)) in cc) in
            rw (first, second, e, other) refl)

    mutual
      same_clash : (i j k l : ℕ) (c d : Cap) → n ≤ k → n ≤ l → past_symbols c ≤ base → past_symbols d ≤ base → Keeps (λ x. x < n) c → Keeps (λ x. x < n) d
          → do_clash n (filled var k c) (filled var l d) ≡ do_clash 0 (filled (constants base) i c) (filled (constants base) j d)
      same_clash i j k l hole d h m p q r s = first_open n k (filled var l d) h ∙ sym (first_open 0 i (filled (constants base) j d) (omega arith))
      same_clash i j k l (kept x) hole h m p q r s = second_open n (var x) l m ∙ sym (second_open 0 (constants base x) j (omega arith))
      same_clash i j k l (kept x) (kept y) h m p q r s = both_constants x y r s
      same_clash i j k l (kept x) (node g ds) h m p q r s = lt-ltb x n r ∙ sym (constant_first x g (all_filled (constants base) j ds) (omega (arith, q)))
      same_clash i j k l (node f cs) hole h m p q r s =
          second_open n (app f (all_filled var k cs)) l m ∙ sym (second_open 0 (app f (all_filled (constants base) i cs)) j (omega arith))
      same_clash i j k l (node f cs) (kept y) h m p q r s = lt-ltb y n s ∙ sym (constant_second f (all_filled (constants base) i cs) y (omega (arith, p)))
      same_clash i j k l (node f cs) (node g ds) h m p q r s =
          ap₂ (λ (a b : Bool). if nat_eq f g then (if a then b else true) else true)
          (ap₂ nat_eq (count_filled var (constants base) k i cs) (count_filled var (constants base) l j ds))
          (any_same_clash i j k l cs ds h m (omega (arith, p)) (omega (arith, q)) r s)

      any_same_clash : (i j k l : ℕ) (cs ds : Caps) → n ≤ k → n ≤ l → past_symbols_of cs ≤ base → past_symbols_of ds ≤ base → KeepAll (λ x. x < n) cs → KeepAll (λ x. x < n) ds
          → do_any_clash n (all_filled var k cs) (all_filled var l ds) ≡ do_any_clash 0 (all_filled (constants base) i cs) (all_filled (constants base) j ds)
      any_same_clash i j k l no_caps ds h m p q r s = refl
      any_same_clash i j k l (caps c cs) no_caps h m p q r s = refl
      any_same_clash i j k l (caps c cs) (caps d ds) h m p q (r, rs) (s, ss) =
          ap₂ (λ (a b : Bool). a || b) (same_clash i j k l c d h m (omega (arith, p)) (omega (arith, q)) r s)
          (any_same_clash (i + holes c) (j + holes d) (k + holes c) (l + holes d) cs ds (omega (arith, h)) (omega (arith, m)) (omega (arith, p)) (omega (arith, q)) rs ss)

module _ (sys : System) (n : ℕ) (u v t w : Term) (first : IsMadeCap sys n u t) (second : IsMadeCap sys n v w) where
  abbrev base : ℕ
  base = past_both sys first.cap second.cap

  -- the same caps, with holes in one row and constants
  abbrev one : Term
  one = filled (constants base) (2 ^ 31) first.cap

  abbrev other : Term
  other = filled (constants base) (2 ^ 31 + holes first.cap) second.cap

  are_apart : AreLinearApart one other
  are_apart = caps_apart sys (Kept base) u v first.cap second.cap (2 ^ 31) first.is_cap second.is_cap first.fits second.fits

  same_walk : do_clash n t w ≡ do_clash 0 one other
  same_walk =
      ap₂ (do_clash n) first.shown second.shown
      ∙ same_clash base n (2 ^ 31) (2 ^ 31 + holes first.cap) n n first.cap second.cap (omega arith) (omega arith) (omega arith) (omega arith)
      (cap_keeps sys kept (λ x. x < n) u first.cap first.below first.is_cap) (cap_keeps sys kept (λ x. x < n) v second.cap second.below second.is_cap)

  pub made_answers : (b : Bool) → b ≡ do_clash n t w → MadeAnswers sys u v b
  made_answers true e = woven_outcome sys kept u v first.cap second.cap first.is_cap second.is_cap clash (clash_outcome one other are_apart (sym same_walk ∙ sym e))
  made_answers false e =
      let run = unifier_outcome one other are_apart (sym same_walk ∙ sym e) in
      (_, woven_outcome sys kept u v first.cap second.cap first.is_cap second.is_cap (unifier run.0) run.1)
