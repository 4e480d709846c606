-- Arguments that are laid one after the other.
use Rattle.std.proofs.Common.{ℕ, zero, suc, ◌≡◌, ◌+◌, ◌<◌, ◌≤◌, ◌⊎◌, inl, inr, true, false, min, List, [], ◌∷◌, map, length, get_or, take, drop, slice_set, Vec, Global, refl, sym}
use Rattle.std.proofs.Common.{ap, ap₂, ◌∙◌, add-one, arith}
use Rattle.std.proofs.Math.Dec.{leb}
use Rattle.std.proofs.Math.ListN.{drop_of_length-le}
use Rattle.std.proofs.lemmas.Bool.Decides.{leb_tells}
use Rattle.rewriting.specs.Prelude.{append}
use Rattle.rewriting.specs.Terms as math
use Rattle.rewriting.specs.Terms.{Terms, app, nil, cons, terms_of}
use Rattle.term_core.specs.View.{view, views}
use Rattle.term_core.specs.declared.terms.Term.{Term, Fun}
use Rattle.term_core.proofs.Views.{view-Fun}
use Rattle.noncon_search.specs.Laying.{laid, all_laid}

-- the arguments below a place are laid, and the others are still to be
abbrev pub laid_from : ℕ → List Term → List Term → ℕ → Terms
laid_from n ts us i = append (views (take i ts)) (all_laid n (views (drop i ts)) (views (drop i us)))

module _ (n : ℕ) where
  next_laid_suc : (ts us : List Term) (i : ℕ) (t u v : Term) → i < length ts → i < length us → t ≡ get_or ts i t → u ≡ get_or us i u → view v ≡ laid n (view t) (view u)
      → laid_from n (slice_set ts i v) us (suc i) ≡ laid_from n ts us i
  next_laid_suc [] us i t u v h k e f is = absurd (omega (arith, h))
  next_laid_suc (x ∷ ts) [] i t u v h k e f is = absurd (omega (arith, k))
  next_laid_suc (x ∷ ts) (y ∷ us) zero t u v h k e f is = ap (λ z. cons z (all_laid n (views ts) (views us))) (is ∙ ap₂ (laid n) (ap view e) (ap view f))
  next_laid_suc (x ∷ ts) (y ∷ us) (suc i) t u v h k e f is = ap (cons (view x)) (next_laid_suc ts us i t u v (omega (arith, h)) (omega (arith, k)) e f is)

  pub next_laid : (ts us : List Term) (i : ℕ) (t u v : Term) → i < length ts → i < length us → t ≡ get_or ts i t → u ≡ get_or us i u → view v ≡ laid n (view t) (view u)
      → laid_from n (slice_set ts i v) us (i + 1) ≡ laid_from n ts us i
  next_laid ts us i t u v h k e f is = rw add-one (next_laid_suc ts us i t u v h k e f is)

  whole_again : (ts : List Term) (i : ℕ) → append (views (take i ts)) (views (drop i ts)) ≡ views ts
  whole_again ts zero = refl
  whole_again [] (suc i) = refl
  whole_again (t ∷ ts) (suc i) = ap (cons (view t)) (whole_again ts i)

  none_upon : (ts : Terms) → all_laid n ts nil ≡ ts
  none_upon nil = refl
  none_upon (cons t ts) = refl

  none_left : (ts : List Term) (i : ℕ) → length ts ≤ i → views (drop i ts) ≡ nil
  none_left ts i h = ap terms_of (ap (map view) (drop_of_length-le ts h))

  all_are_laid : (ts us : List Term) (i : ℕ) → (length ts ≤ i) ⊎ (length us ≤ i) → laid_from n ts us i ≡ views ts
  all_are_laid ts us i (inl h) =
      let none = none_left ts i h in
      ap (append (views (take i ts))) (ap (λ z. all_laid n z (views (drop i us))) none ∙ sym none) ∙ whole_again ts i
  all_are_laid ts us i (inr h) = ap (append (views (take i ts))) (ap (all_laid n (views (drop i ts))) (none_left us i h) ∙ none_upon (views (drop i ts))) ∙ whole_again ts i

  past_one : (a b i : ℕ) → min a b ≤ i → (a ≤ i) ⊎ (b ≤ i)
  past_one a b i h = go (leb_tells a i)
    where
      go : ((leb a i ≡ true) × (a ≤ i)) ⊎ ((leb a i ≡ false) × (i < a)) → (a ≤ i) ⊎ (b ≤ i)
      go (inl (e, l)) = inl l
      go (inr (e, l)) = inr (omega (arith, l, h))

  -- all arguments of a cap are laid
  pub all_laid_there : (cap : Term) (g : ℕ) (others : Vec Term Global) → cap ≡ Fun g others → (start now : List Term) (i : ℕ) → min (length now) (length others.items) ≤ i
      → laid_from n now others.items i ≡ all_laid n (views start) (views others.items) → (f : ℕ) → app f (views now) ≡ laid n (app f (views start)) (view cap)
  all_laid_there cap g others is start now i past all f =
      ap (app f) (sym (all_are_laid now others.items i (past_one (length now) (length others.items) i past)) ∙ all) ∙ ap (laid n (app f (views start))) (sym (ap view is ∙ view-Fun g others))

  -- and the symbol is put back over the arguments that it had
  pub put_back : (t : Term) (f : ℕ) (v w : Vec Term Global) (was now : List Term) (u : math.Term) → t ≡ Fun f v → was ≡ v.items → w.items ≡ now → app f (views now) ≡ laid n (app f (views was)) u
      → view (Fun f w) ≡ laid n (view t) u
  put_back t f v w was now u is same put h =
      view-Fun f w ∙ (ap (λ xs. app f (views xs)) put ∙ (h ∙ ap (λ z. laid n z u) (ap (λ xs. app f (views xs)) same ∙ sym (ap view is ∙ view-Fun f v))))
