-- When a `Term` is over some symbols.
use Rattle.std.proofs.Common.{◌≡◌, ◌<◌, ℕ, suc, List, [], ◌∷◌, length, Some, Vec, Global, refl, sym, ap, ◌∙◌, subst, slice_get, vec_len}
use Rattle.rewriting.specs.Prelude.{app, count, IsOver, AreOver}
use Rattle.term_core.specs.View.{view, views}
use Rattle.term_core.specs.SystemView.{HasSymbolsBelow, HaveSymbolsBelow}
use Rattle.term_core.specs.declared.terms.Term.{Term, Fun}
use Rattle.term_core.proofs.Views.{view-Fun}

pub count-views : (ts : List Term) → count (views ts) ≡ length ts
count-views [] = refl
count-views (t ∷ ts) = ap suc (count-views ts)

module _ (arities : List ℕ) (t : Term) (f : ℕ) (v : Vec Term Global) (is : t ≡ Fun f v) where
  shown : view t ≡ app f (views v.items)
  shown = ap view is ∙ view-Fun f v

  pub over_from : slice_get arities f ≡ Some (vec_len v) → AreOver arities (views v.items) → IsOver arities (view t)
  over_from e all = subst (IsOver arities) (sym shown) (e ∙ ap Some (sym (count-views v.items ∙ sym v.ok.0)), all)

  pub over_arity : IsOver arities (view t) → slice_get arities f ≡ Some (vec_len v)
  over_arity h = (subst (IsOver arities) shown h).0 ∙ ap Some (count-views v.items ∙ sym v.ok.0)

  pub over_args : IsOver arities (view t) → AreOver arities (views v.items)
  over_args h = (subst (IsOver arities) shown h).1

module _ (n : ℕ) (t : Term) (f : ℕ) (v : Vec Term Global) (is : t ≡ Fun f v) where
  pub below_from : f < n → HaveSymbolsBelow n (views v.items) → HasSymbolsBelow n (view t)
  below_from e all = subst (HasSymbolsBelow n) (sym (ap view is ∙ view-Fun f v)) (e, all)

  pub below_symbol : HasSymbolsBelow n (view t) → f < n
  below_symbol h = (subst (HasSymbolsBelow n) (ap view is ∙ view-Fun f v) h).0

  pub below_args : HasSymbolsBelow n (view t) → HaveSymbolsBelow n (views v.items)
  below_args h = (subst (HasSymbolsBelow n) (ap view is ∙ view-Fun f v) h).1
