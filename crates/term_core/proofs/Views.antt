-- The arguments of a `Term`, seen as trees.
use Rattle.std.proofs.Common.{◌≡◌, ℕ, zero, suc, ◌+◌, ◌-◌, ◌<◌, ◌≤◌, List, [], ◌∷◌, ◌++◌, map, length, get_or, take, drop, Some, None, IsSome, Vec, Global, refl, sym, ap, ◌∙◌, subst, arith, rules}
use Rattle.std.proofs.lemmas.List.{length-map, take-map, drop-map}
use Rattle.std.proofs.Common.{append_assoc, add-one, length-drop}
use Rattle.std.proofs.Math.Seq.{take-length}
use Rattle.std.proofs.lemmas.Bool.{false≢true}
use Rattle.general_lemmas.proofs.Places.{drop_read}
use Rattle.rewriting.specs.Terms as math
use Rattle.rewriting.specs.Prelude.{var, app, terms_of, argument, argument_of, with_argument, with_argument_of}
use Rattle.term_core.proofs.Arguments.{terms_of-injective, argument_past, argument_zero, with_argument-split}
use Rattle.term_core.specs.View.{view, views}
use Rattle.term_core.specs.declared.terms.Term.{Term, Var, Fun, the_lemmas}

pub view-Var : (x : ℕ) → view (Var x) ≡ var x
view-Var x = search (rules, the_lemmas)

pub view-Fun : (f : ℕ) (v : Vec Term Global) → view (Fun f v) ≡ app f (views v.items)
view-Fun f v = search (rules, the_lemmas)

pub argument_within : (ts : List Term) (i : ℕ) (d : Term) → i < length ts → argument (views ts) (suc i) ≡ Some (view (get_or ts i d))
argument_within [] i d h = absurd (omega arith)
argument_within (t ∷ ts) zero d h = refl
argument_within (t ∷ ts) (suc i) d h = argument_within ts i d (omega arith)

within : (ts : List Term) (k : ℕ) → IsSome (argument (views ts) k) → (1 ≤ k) × (k ≤ length ts)
within [] k h = absurd (false≢true h)
within (t ∷ ts) zero h = absurd (false≢true h)
within (t ∷ ts) (suc zero) h = (omega arith, omega arith)
within (t ∷ ts) (suc (suc k)) h = (omega arith, omega (arith, (within ts (suc k) h).1))

module _ (t : Term) (f : ℕ) (v : Vec Term Global) (is : t ≡ Fun f v) where
  shown : view t ≡ app f (views v.items)
  shown = ap view is ∙ view-Fun f v

  pub argument_at : (k i : ℕ) (d : Term) → i + 1 ≡ k → i < length v.items → Some (view (get_or v.items i d)) ≡ argument_of (view t) k
  argument_at k i d here high =
      let next : suc i ≡ k = omega arith in
      sym (ap (λ u. argument_of u k) shown ∙ ap (argument (views v.items)) (sym next) ∙ argument_within v.items i d high)

  pub argument_below : (k : ℕ) → k < 1 → None ≡ argument_of (view t) k
  argument_below zero low = sym (ap (λ u. argument_of u zero) shown ∙ argument_zero (views v.items))
  argument_below (suc k) low = absurd (omega arith)

  pub argument_above : (k : ℕ) → length v.items < k → None ≡ argument_of (view t) k
  argument_above k high = sym (ap (λ u. argument_of u k) shown ∙ argument_past (map view v.items) k (simp length-map (omega arith)))

  pub argument_bounds : (k : ℕ) → IsSome (argument_of (view t) k) → (1 ≤ k) × (k ≤ length v.items)
  argument_bounds k h = within v.items k (subst (λ u. IsSome (argument_of u k)) shown h)

-- lists whose views are equal have equal views at each place
pub same_at : (xs ys : List Term) (i : ℕ) (x y : Term) → map view xs ≡ map view ys → i < length xs → x ≡ get_or xs i x → y ≡ get_or ys i y → view x ≡ view y
same_at [] ys i x y e h p q = absurd (omega arith)
same_at (a ∷ xs) [] i x y e h p q = cc
same_at (a ∷ xs) (b ∷ ys) zero x y e h p q = let first : view a ≡ view b = cc in ap view p ∙ first ∙ sym (ap view q)
same_at (a ∷ xs) (b ∷ ys) (suc i) x y e h p q = let rest : map view xs ≡ map view ys = cc in same_at xs ys i x y rest (omega arith) p q

module _ (a b : Term) (f g : ℕ) (v w : Vec Term Global) (left : a ≡ Fun f v) (right : b ≡ Fun g w) where
  pub equal_from : f ≡ g → map view v.items ≡ map view w.items → view a ≡ view b
  equal_from e es = shown a f v left ∙ (let all : views v.items ≡ views w.items = ap terms_of es in cc) ∙ sym (shown b g w right)

  pub equal_to : view a ≡ view b → map view v.items ≡ map view w.items
  equal_to e =
      let whole : app f (views v.items) ≡ app g (views w.items) = sym (shown a f v left) ∙ e ∙ shown b g w right in
      terms_of-injective (map view v.items) (map view w.items) cc

pub rest_of : (n : ℕ) (ts : List Term) → take (length ts - n) (drop n ts) ≡ drop n ts
rest_of n ts = rw (← length-drop n ts) (take-length (drop n ts))

pub spliced_views : (ts vs : List Term) (i : ℕ) (u : Term) → map view vs ≡ (map view (take i ts) ++ view u ∷ []) ++ map view (drop (i + 1) ts) → i < length ts
    → views vs ≡ with_argument (views ts) (i + 1) (view u)
spliced_views ts vs i u e h =
    let inside : i < length (map view ts) = simp length-map (omega arith) in
    ap terms_of (e ∙ append_assoc (map view (take i ts)) (view u ∷ []) (map view (drop (i + 1) ts)))
    ∙ rw (add-one, ← take-map view i ts, ← drop-map view (suc i) ts) (sym (with_argument-split (map view ts) i (view u) inside))

module _ (t : Term) (f : ℕ) (v : Vec Term Global) (k : ℕ) (is : t ≡ Fun f v) (some : IsSome (argument_of (view t) k)) where
  pub low : 1 ≤ k
  low = (argument_bounds t f v is k some).0

  pub high : k ≤ length v.items
  high = (argument_bounds t f v is k some).1

  pub with_argument_views : (w : Vec Term Global) (i : ℕ) (u : math.Term) → views w.items ≡ with_argument (views v.items) (i + 1) u → i + 1 ≡ k
      → view (Fun f w) ≡ with_argument_of (view t) k u
  with_argument_views w i u e here =
      view-Fun f w ∙ ap (app f) (e ∙ ap (λ n. with_argument (views v.items) n u) here) ∙ sym (ap (λ s. with_argument_of s k u) (shown t f v is))

-- what is left of some terms begins with the one at the place
pub views-drop : (ts : List Term) (i : ℕ) (t : Term) → i < length ts → t ≡ get_or ts i t → views (drop i ts) ≡ math.cons (view t) (views (drop (i + 1) ts))
views-drop ts i t h e = ap views (drop_read ts i t h e)
