-- A term that stands for another under a substitution, and the arguments of it.
use Rattle.std.proofs.Common.{ℕ, zero, suc, ◌≡◌, ◌<◌, ◌≤◌, true, List, [], ◌∷◌, length, get_or, Vec, Global, sym, ap, ◌∙◌, subst, arith}
use Rattle.std.proofs.lemmas.Bool.{or_right, or_left}
use Rattle.rewriting.specs.Terms as math
use Rattle.rewriting.specs.Prelude.{app, size, size_all, Substitution, apply, apply_all, occurs, occurs_in}
use Rattle.term_core.specs.View.{view, views}
use Rattle.term_core.specs.declared.terms.Term.{Term, Fun}
use Rattle.term_core.proofs.Views.{view-Fun}

pub size_at : (s : Substitution) (ts : List Term) (i : ℕ) (t : Term) → i < length ts → t ≡ get_or ts i t → size (apply s (view t)) ≤ size_all (apply_all s (views ts))
size_at s [] i t h e = absurd (omega arith)
size_at s (u ∷ ts) zero t h e = subst (λ z. size (apply s (view z)) ≤ size_all (apply_all s (views (u ∷ ts)))) (sym e) (omega arith)
size_at s (u ∷ ts) (suc i) t h e = let k = size_at s ts i t (omega arith) e in omega (arith, k)

occurs_at : (x : ℕ) (s : Substitution) (ts : List Term) (i : ℕ) (t : Term) → i < length ts → t ≡ get_or ts i t → occurs x (apply s (view t)) ≡ true → occurs_in x (apply_all s (views ts)) ≡ true
occurs_at x s [] i t h e o = absurd (omega arith)
occurs_at x s (u ∷ ts) zero t h e o = or_left _ _ (subst (λ z. occurs x (apply s (view z)) ≡ true) e o)
occurs_at x s (u ∷ ts) (suc i) t h e o = or_right _ _ (occurs_at x s ts i t (omega arith) e o)

module _ (s : Substitution) (head : Term) (t : math.Term) (f : ℕ) (v : Vec Term Global) (items : List Term) (same : apply s (view head) ≡ apply s t) (is : head ≡ Fun f v)
    (listed : items ≡ v.items) where
  pub opened_head : apply s t ≡ app f (apply_all s (views items))
  opened_head = sym same ∙ (ap (λ z. apply s (view z)) is ∙ (ap (apply s) (view-Fun f v) ∙ ap (λ z. app f (apply_all s (views z))) (sym listed)))

  pub argument_is_smaller : (i : ℕ) (u : Term) → i < length items → u ≡ get_or items i u → size (apply s (view u)) < size (apply s t)
  argument_is_smaller i u lt at =
      let whole : size (apply s t) ≡ suc (size_all (apply_all s (views items))) = ap size opened_head in
      let part = size_at s items i u lt at in
      omega (arith, whole, part)

  pub argument_has : (x i : ℕ) (u : Term) → i < length items → u ≡ get_or items i u → occurs x (apply s (view u)) ≡ true → occurs x (apply s t) ≡ true
  argument_has x i u lt at o = ap (occurs x) opened_head ∙ occurs_at x s items i u lt at o
