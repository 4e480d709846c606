-- The cases of an equation whose sides are no bound variables.
use Rattle.std.proofs.Common.{ℕ, ◌≡◌, ◌≢◌, inl, inr, ◌+◌, ◌<◌, List, length, Vec, Global, sym, ap, ◌∙◌, subst, subst₂, arith, Result, Ok, suc}
use Rattle.rewriting.specs.Prelude.{var, app, Fits, size, size_all, Each, apply, apply_all}
use Rattle.unifier_run.specs.Run.{Binding, value, DoFit}
use Rattle.unifier_run.proofs.Equal.{arguments_fit}
use Rattle.term_core.specs.View.{view, views}
use Rattle.term_core.specs.declared.terms.Term.{Term, Var, Fun}
use Rattle.term_core.specs.declared.terms.NoMemory.{NoMemory}
use Rattle.term_core.proofs.Views.{view-Var, view-Fun}
use Rattle.term_core.proofs.Over.{count-views}
use Rattle.unification.specs.declared.solving.Progress.{Progress}
use Rattle.unification.specs.declared.solving.Progress.TheVariants.{Solved, Clash}
use Rattle.unification.specs.Solving.{IsGood, IsHead, SolveAnswers, BindAnswers}
use Rattle.unification.proofs.Measure.{weight, smaller_less}
use Rattle.unification.proofs.Solve.{One, ends_roots, opened, solved_equal, bound_left, bound_right}

module _ (b c : List Binding) (s t : Term) (good : IsGood b) (fit : DoFit (apply (value b) (view s)) (apply (value b) (view t))) where
  module _ (f g : ℕ) (v w : Vec Term Global) (left : s ≡ Fun f v) (right : t ≡ Fun g w) where
    left_view : view s ≡ app f (views v.items)
    left_view = ap view left ∙ view-Fun f v

    right_view : view t ≡ app g (views w.items)
    right_view = ap view right ∙ view-Fun g w

    fit_inside : DoFit (apply (value b) (app f (views v.items))) (apply (value b) (app g (views w.items)))
    fit_inside = (subst (λ z. Fits (apply (value b) z)) left_view fit.0, subst (λ z. Fits (apply (value b) z)) right_view fit.1)

    pub other_symbols : f ≢ g → One b c (view s) (view t) (Ok Clash)
    other_symbols n = subst₂ (λ x y. One b c x y (Ok Clash)) (sym left_view) (sym right_view) (ends_roots b c f g (views v.items) (views w.items) fit_inside (inl n))

    pub other_lengths : length v.items ≢ length w.items → One b c (view s) (view t) (Ok Clash)
    other_lengths n =
        subst₂ (λ x y. One b c x y (Ok Clash)) (sym left_view) (sym right_view)
        (ends_roots b c f g (views v.items) (views w.items) fit_inside (inr (λ e. n (sym (count-views v.items) ∙ (e ∙ count-views w.items)))))

    pub same_arguments : f ≡ g → length v.items ≡ length w.items → (r : Result Progress NoMemory) → SolveAnswers b c (views v.items) (views w.items) r → One b c (view s) (view t) r
    same_arguments e n r h =
        subst₂ (λ x y. One b c x y r) (sym left_view) (sym (right_view ∙ ap (λ z. app z (views w.items)) (sym e)))
        (opened b c f (views v.items) (views w.items) r good (fit_inside.0, subst (λ z. Fits (apply (value b) (app z (views w.items)))) (sym e) fit_inside.1)
        (count-views v.items ∙ (n ∙ sym (count-views w.items))) h)

    pub left_fit : Each Fits (apply_all (value b) (views v.items))
    left_fit = arguments_fit _ (omega (arith, fit_inside.0.nodes)) (omega (arith, fit_inside.0.levels))

    pub right_fit : Each Fits (apply_all (value b) (views w.items))
    right_fit = arguments_fit _ (omega (arith, fit_inside.1.nodes)) (omega (arith, fit_inside.1.levels))

    pub left_size : size (apply (value b) (view s)) ≡ suc (size_all (apply_all (value b) (views v.items)))
    left_size = ap (λ z. size (apply (value b) z)) left_view

    pub right_size : size (apply (value b) (view t)) ≡ suc (size_all (apply_all (value b) (views w.items)))
    right_size = ap (λ z. size (apply (value b) z)) right_view

    pub arguments_weigh_less : (n : ℕ) → weight n (size_all (apply_all (value b) (views v.items)) + size_all (apply_all (value b) (views w.items))) 3 < weight n
        (size (apply (value b) (view s)) + size (apply (value b) (view t))) 1
    arguments_weigh_less n =
        let p = left_size in
        let q = right_size in
        smaller_less n _ _ 3 1 (omega (arith, p, q)) (omega (arith, fit.0.nodes, fit.1.nodes)) (omega arith)

  module _ (x : ℕ) (left : s ≡ Var x) (head : IsHead b (view s)) where
    var_view : view s ≡ var x
    var_view = ap view left ∙ view-Var x

    free : value b x ≡ var x
    free = head x var_view

    pub same_variables : (y : ℕ) → t ≡ Var y → x ≡ y → One b b (view s) (view t) (Ok Solved)
    same_variables y right e = solved_equal b (view s) (view t) good fit (ap (apply (value b)) (var_view ∙ (ap var e ∙ sym (ap view right ∙ view-Var y))))

    left_binds : apply (value b) (view t) ≢ var x → (r : Result Progress NoMemory) → BindAnswers b c x (apply (value b) (view t)) r → One b c (view s) (view t) r
    left_binds n r h =
        subst (λ z. One b c z (view t) r) (sym var_view)
        (bound_left b c x (view t) r good free (subst (λ z. Fits (apply (value b) z)) var_view fit.0, fit.1) n h)

    pub binds_variable : (y : ℕ) → t ≡ Var y → IsHead b (view t) → x ≢ y → (r : Result Progress NoMemory) → BindAnswers b c x (apply (value b) (view t)) r → One b c (view s) (view t) r
    binds_variable y right other n r h = left_binds (λ e. let k : var y ≡ var x = sym (ap (apply (value b)) shown ∙ other y shown) ∙ e in n (cc)) r h
      where
        shown : view t ≡ var y
        shown = ap view right ∙ view-Var y

    pub binds_application : (g : ℕ) (w : Vec Term Global) → t ≡ Fun g w → (r : Result Progress NoMemory) → BindAnswers b c x (apply (value b) (view t)) r → One b c (view s) (view t) r
    binds_application g w right r h =
        left_binds (λ e. let k : app g (apply_all (value b) (views w.items)) ≡ var x = sym (ap (apply (value b)) (ap view right ∙ view-Fun g w)) ∙ e in cc) r h

  pub binds_right : (f : ℕ) (v : Vec Term Global) (y : ℕ) → s ≡ Fun f v → t ≡ Var y → IsHead b (view t) → (r : Result Progress NoMemory)
      → BindAnswers b c y (apply (value b) (view s)) r → One b c (view s) (view t) r
  binds_right f v y left right head r h =
      subst₂ (λ p q. One b c p q r) (sym shown_left) (sym shown)
      (bound_right b c f (views v.items) y r good (head y shown) (subst (λ z. Fits (apply (value b) z)) shown_left fit.0, subst (λ z. Fits (apply (value b) z)) shown fit.1)
      (subst (λ z. BindAnswers b c y (apply (value b) z) r) shown_left h))
    where
      shown : view t ≡ var y
      shown = ap view right ∙ view-Var y

      shown_left : view s ≡ app f (views v.items)
      shown_left = ap view left ∙ view-Fun f v
