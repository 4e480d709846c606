-- Clashes of terms as the program walks them.
use Rattle.std.proofs.Common.{ℕ, ◌≡◌, ◌≢◌, ◌⊎◌, inl, inr, ◌+◌, ◌<◌, ◌≤◌, ◌&&◌, ◌||◌, Bool, true, false, not, nat_eq, nat_lt, List, length, drop, get_or, Vec, Global, refl, sym, ap}
use Rattle.std.proofs.Common.{ap₂, ◌∙◌, eq-eqb, eqb-true}
use Rattle.std.proofs.lemmas.Bool.{le-ltb, and_left, and_right}
use Rattle.rewriting.specs.Terms as math
use Rattle.rewriting.specs.Terms.{var, app, count}
use Rattle.term_core.specs.View.{view, views}
use Rattle.term_core.specs.declared.terms.Term.{Term, Fun}
use Rattle.term_core.proofs.Over.{count-views}
use Rattle.term_core.proofs.Views.{view-Fun, views-drop}
use Rattle.unification.proofs.Terms.{views-drop_all}
use Rattle.tcap_infeasible.specs.Clashes.{do_clash, do_any_clash}

-- variables that are no constants clash with nothing
pub first_open : (n x : ℕ) (u : math.Term) → n ≤ x → do_clash n (var x) u ≡ false
first_open n x (var y) h = and_left (nat_lt x n && nat_lt y n) (not (nat_eq x y)) (and_left (nat_lt x n) (nat_lt y n) (le-ltb x n h))
first_open n x (app g us) h = le-ltb x n h

pub second_open : (n : ℕ) (t : math.Term) (y : ℕ) → n ≤ y → do_clash n t (var y) ≡ false
second_open n (var x) y h = and_left (nat_lt x n && nat_lt y n) (not (nat_eq x y)) (and_right (nat_lt x n) (nat_lt y n) (le-ltb y n h))
second_open n (app f ts) y h = le-ltb y n h

-- the arguments from a place on: those there, then the rest
pub from_place : (n : ℕ) (xs ys : List Term) (i : ℕ) (x y : Term) → i < length xs → i < length ys → x ≡ get_or xs i x → y ≡ get_or ys i y
    → do_any_clash n (views (drop i xs)) (views (drop i ys)) ≡ (do_clash n (view x) (view y) || do_any_clash n (views (drop (i + 1) xs)) (views (drop (i + 1) ys)))
from_place n xs ys i x y h k e f = ap₂ (do_any_clash n) (views-drop xs i x h e) (views-drop ys i y k f)

pub past_all : (n : ℕ) (xs ys : List Term) (i : ℕ) → length xs ≤ i → do_any_clash n (views (drop i xs)) (views (drop i ys)) ≡ false
past_all n xs ys i h = ap (λ z. do_any_clash n z (views (drop i ys))) (views-drop_all xs i h)

module _ (n : ℕ) (s t : Term) (f g : ℕ) (v w : Vec Term Global) (left : s ≡ Fun f v) (right : t ≡ Fun g w) where
  shown : do_clash n (view s) (view t) ≡ do_clash n (app f (views v.items)) (app g (views w.items))
  shown = ap₂ (do_clash n) (ap view left ∙ view-Fun f v) (ap view right ∙ view-Fun g w)

  pub other_roots : (f ≢ g) ⊎ (length v.items ≢ length w.items) → do_clash n (view s) (view t) ≡ true
  other_roots h = shown ∙ go (nat_eq f g) refl (nat_eq (count (views v.items)) (count (views w.items))) refl h
    where
      go : (a : Bool) → nat_eq f g ≡ a → (b : Bool) → nat_eq (count (views v.items)) (count (views w.items)) ≡ b → (f ≢ g) ⊎ (length v.items ≢ length w.items)
          → do_clash n (app f (views v.items)) (app g (views w.items)) ≡ true
      go false p b q h = rw p refl
      go true p false q h = rw (p, q) refl
      go true p true q (inl ne) = absurd (ne (eqb-true f g p))
      go true p true q (inr ne) = absurd (ne (sym (count-views v.items) ∙ (eqb-true (count (views v.items)) (count (views w.items)) q ∙ count-views w.items)))

  pub arguments : f ≡ g → length v.items ≡ length w.items → do_clash n (view s) (view t) ≡ do_any_clash n (views v.items) (views w.items)
  arguments e h =
      (let p : nat_eq f g ≡ true = eq-eqb f g e in
      let q : nat_eq (count (views v.items)) (count (views w.items)) ≡ true = eq-eqb _ _ (count-views v.items ∙ (h ∙ sym (count-views w.items))) in
      shown ∙ rw (p, q) refl)
