-- A term taken apart at the first number of a position, and put together again.
use Rattle.std.proofs.Common.{◌≡◌, ℕ, zero, suc, ◌+◌, ◌≤◌, List, [], ◌∷◌, length, get_or, slice_set, Option, Some, None, IsSome, Vec, Global, refl, sym, ap, ◌∙◌, subst, arith}
use Rattle.std.proofs.lemmas.Bool.{false≢true}
use Rattle.rewriting.specs.Terms as math
use Rattle.rewriting.specs.Prelude.{app, argument_of, with_argument, with_argument_of, subterm, replace}
use Rattle.rewriting.proofs.Positions.{above}
use Rattle.term_core.specs.View.{view, views}
use Rattle.term_core.specs.declared.terms.Term.{Term, Fun}
use Rattle.term_core.proofs.Views.{view-Fun, argument_at, argument_bounds}

-- the first argument on the way to a subterm
record OnWay (t : math.Term) (k : ℕ) (rest : List ℕ) : Type 0 where
  part : math.Term
  here : argument_of t k ≡ Some part
  further : IsSome (subterm part rest)

on_way : (t : math.Term) (k : ℕ) (rest : List ℕ) → IsSome (subterm t (k ∷ rest)) → OnWay t k rest
on_way t k rest h = go (argument_of t k) refl
  where
    go : (o : Option math.Term) → argument_of t k ≡ o → OnWay t k rest
    go None e = absurd (false≢true (rw e at h))
    go (Some s) e = record { part = s; here = e; further = rw e at h }

views-set : (ts : List Term) (i : ℕ) (u : Term) → views (slice_set ts i u) ≡ with_argument (views ts) (suc i) (view u)
views-set [] i u = refl
views-set (t ∷ ts) zero u = refl
views-set (t ∷ ts) (suc i) u = ap (math.cons (view t)) (views-set ts i u)

module _ (t : Term) (f : ℕ) (v : Vec Term Global) (p rest : List ℕ) (k : ℕ) (is : t ≡ Fun f v) (split : p ≡ k ∷ rest) (there : IsSome (subterm (view t) p)) where
  way : OnWay (view t) k rest
  way = on_way (view t) k rest (subst (λ q. IsSome (subterm (view t) q)) split there)

  some : IsSome (argument_of (view t) k)
  some = rw way.here refl

  pub low : 1 ≤ k
  low = (argument_bounds t f v is k some).0

  pub high : k ≤ length v.items
  high = (argument_bounds t f v is k some).1

  same : (i : ℕ) (x : Term) → i + 1 ≡ k → x ≡ get_or v.items i x → view x ≡ way.part
  same i x next e =
      let at = argument_at t f v is k i x next (let h = high in omega arith) in
      let shown : Some (view x) ≡ argument_of (view t) k = ap (λ y. Some (view y)) e ∙ at in
      let both : Some (view x) ≡ Some way.part = shown ∙ way.here in
      cc

  pub inside : (i : ℕ) (x : Term) → i + 1 ≡ k → x ≡ get_or v.items i x → IsSome (subterm (view x) rest)
  inside i x next e = subst (λ y. IsSome (subterm y rest)) (sym (same i x next e)) way.further

  pub stood : (i : ℕ) (x : Term) → i + 1 ≡ k → x ≡ get_or v.items i x → (u : math.Term) → subterm (view x) rest ≡ Some u → subterm (view t) p ≡ Some u
  stood i x next e u h =
      let inner : subterm way.part rest ≡ Some u = subst (λ z. subterm z rest ≡ Some u) (same i x next e) h in
      ap (subterm (view t)) split ∙ rw way.here inner

  pub whole : (w : Vec Term Global) (i : ℕ) (x y : Term) (u : math.Term) → i + 1 ≡ k → x ≡ get_or v.items i x → w.items ≡ slice_set v.items i y
      → replace (view x) rest u ≡ Some (view y) → replace (view t) p u ≡ Some (view (Fun f w))
  whole w i x y u next e set put =
      let put_there : replace way.part rest u ≡ Some (view y) = subst (λ z. replace z rest u ≡ Some (view y)) (same i x next e) put in
      let above_t : replace (view t) (k ∷ rest) u ≡ Some (with_argument_of (view t) k (view y)) = above (view t) k rest u way.part (view y) way.here put_there in
      let shown : view t ≡ app f (views v.items) = ap view is ∙ view-Fun f v in
      let at_k : suc i ≡ k = omega arith in
      let items : views w.items ≡ with_argument (views v.items) k (view y) = ap views set ∙ views-set v.items i y ∙ ap (λ n. with_argument (views v.items) n (view y)) at_k in
      ap (λ q. replace (view t) q u) split ∙ above_t ∙ ap Some (ap (λ z. with_argument_of z k (view y)) shown ∙ ap (app f) (sym items) ∙ sym (view-Fun f w))
