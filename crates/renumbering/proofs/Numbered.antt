-- Terms with numbers for their variables, argument by argument.
use Rattle.std.proofs.Common.{◌≡◌, ℕ, zero, suc, ◌+◌, ◌<◌, ◌≤◌, ◌⊎◌, inl, inr, true, false, eqb-true, List, [], ◌∷◌, ◌++◌, length, get_or, slice_get, take, drop, Some, Vec, Global}
use Rattle.std.proofs.Common.{refl, sym, ap, ap₂, ◌∙◌, subst, arith}
use Rattle.std.proofs.lemmas.Option.{slice_get_within, get_or_from_slice_get}
use Rattle.rewriting.specs.Terms as math
use Rattle.rewriting.specs.Prelude.{var, app, Terms, nil, cons, occurs, occurs_in, with_variables, with_variables_of, Substitution, apply, apply_all, IsFront}
use Rattle.rewriting.proofs.Instances.{or_cases, apply_all-agree}
use Rattle.std.proofs.lemmas.Bool.{or_left, or_right}
use Rattle.std.proofs.lemmas.List.{take_all}
use Rattle.general_lemmas.proofs.Places.{take_read}
use Rattle.renumbering.specs.Rows.{naming, IsNumbered}
use Rattle.rewriting.proofs.Lists.{front_at, front_length}
use Rattle.term_core.specs.View.{view, views}
use Rattle.term_core.specs.declared.terms.Term.{Term, Var, Fun}
use Rattle.term_core.proofs.Views.{view-Var, view-Fun, views-drop}

-- us are ts with numbers of the row for their variables
pub record AreNumbered (xs : List ℕ) (ts us : Terms) : Type 0 where
  pub names : ts ≡ apply_all (naming xs) us
  pub below : (m : ℕ) → occurs_in m us ≡ true → m < length xs

pub numbered_grows : (xs ys : List ℕ) (ts us : Terms) → IsFront xs ys → AreNumbered xs ts us → AreNumbered ys ts us
numbered_grows xs ys ts us f n = record {
  names = n.names ∙ apply_all-agree (naming xs) (naming ys) us (λ m o. ap var (sym (front_at xs ys 0 m f (n.below m o))));
  below = λ m o. (let long = front_length xs ys f in let low = n.below m o in omega arith);
}

names_push : (s : Substitution) (ts us : List Term) (t u : Term) → views ts ≡ apply_all s (views us) → view t ≡ apply s (view u) → views (ts ++ t ∷ []) ≡ apply_all s (views (us ++ u ∷ []))
names_push s [] [] t u e h = ap (λ (x : math.Term). cons x nil) h
names_push s [] (v ∷ us) t u e h = absurd (cc)
names_push s (q ∷ ts) [] t u e h = absurd (cc)
names_push s (q ∷ ts) (v ∷ us) t u e h =
    let first : view q ≡ apply s (view v) = cc in
    let rest : views ts ≡ apply_all s (views us) = cc in
    ap₂ cons first (names_push s ts us t u rest h)

occurs_push : (m : ℕ) (us : List Term) (u : Term) → occurs_in m (views (us ++ u ∷ [])) ≡ true → (occurs_in m (views us) ≡ true) ⊎ (occurs m (view u) ≡ true)
occurs_push m [] u o = or_cases (occurs m (view u)) false o (λ q. inr q) (λ q. inl q)
occurs_push m (v ∷ us) u o = or_cases (occurs m (view v)) (occurs_in m (views (us ++ u ∷ []))) o (λ q. inl (or_left _ _ q)) (λ q. later (occurs_push m us u q))
  where
    later : (occurs_in m (views us) ≡ true) ⊎ (occurs m (view u) ≡ true) → (occurs_in m (views (v ∷ us)) ≡ true) ⊎ (occurs m (view u) ≡ true)
    later (inl q) = inl (or_right _ _ q)
    later (inr q) = inr q

numbered_push : (xs : List ℕ) (ts us : List Term) (t u : Term) → AreNumbered xs (views ts) (views us) → IsNumbered xs (view t) (view u) → AreNumbered xs (views (ts ++ t ∷ [])) (views (us ++ u ∷ []))
numbered_push xs ts us t u all one = record { names = names_push (naming xs) ts us t u all.names one.names; below = λ m o. go m (occurs_push m us u o) }
  where
    go : (m : ℕ) → (occurs_in m (views us) ≡ true) ⊎ (occurs m (view u) ≡ true) → m < length xs
    go m (inl q) = all.below m q
    go m (inr q) = one.below m q

-- one more argument has got its numbers
pub numbered_more : (xs ys : List ℕ) (args us vs : List Term) (i : ℕ) (t u : Term) → i < length args → t ≡ get_or args i t → IsFront xs ys → AreNumbered xs (views (take i args)) (views us)
    → IsNumbered ys (view t) (view u) → vs ≡ us ++ u ∷ [] → AreNumbered ys (views (take (i + 1) args)) (views vs)
numbered_more xs ys args us vs i t u h e f all one new =
    subst (λ (ts : List Term). AreNumbered ys (views ts) (views vs)) (sym (take_read args i t h e))
    (subst (λ (ws : List Term). AreNumbered ys (views (take i args ++ t ∷ [])) (views ws)) (sym new) (numbered_push ys (take i args) us t u (numbered_grows xs ys _ _ f all) one))

-- the row has met one more argument
pub row_more : (xs ys end : List ℕ) (args : List Term) (i : ℕ) (t : Term) → i < length args → t ≡ get_or args i t → ys ≡ with_variables xs (view t)
    → with_variables_of xs (views (drop i args)) ≡ end → with_variables_of ys (views (drop (i + 1) args)) ≡ end
row_more xs ys end args i t h e new old =
    ap (λ (ws : List ℕ). with_variables_of ws (views (drop (i + 1) args))) new ∙ sym (ap (with_variables_of xs) (views-drop args i t h e)) ∙ old

drop_all : (ts : List Term) (i : ℕ) → length ts ≤ i → drop i ts ≡ []
drop_all [] zero h = refl
drop_all [] (suc i) h = refl
drop_all (t ∷ ts) zero h = absurd (omega arith)
drop_all (t ∷ ts) (suc i) h = drop_all ts i (omega arith)

-- a variable with its number
pub numbered_variable : (xs : List ℕ) (t : Term) (x m : ℕ) → t ≡ Var x → slice_get xs m ≡ Some x → IsNumbered xs (view t) (view (Var m))
numbered_variable xs t x m is e = record {
  names = ap view is ∙ view-Var x ∙ ap var (sym (get_or_from_slice_get xs m x 0 e)) ∙ sym (ap (apply (naming xs)) (view-Var m));
  below = λ k o. (let same : k ≡ m = eqb-true k m (subst (λ (u : math.Term). occurs k u ≡ true) (view-Var m) o) in subst (λ (j : ℕ). j < length xs) (sym same) (slice_get_within xs m x e));
}

module _ (t : Term) (f i : ℕ) (v : Vec Term Global) (args : List Term) (is : t ≡ Fun f v) (same : args ≡ v.items) (h : length args ≤ i) where
  shown : view t ≡ app f (views args)
  shown = ap view is ∙ view-Fun f v ∙ ap (λ (ts : List Term). app f (views ts)) (sym same)

  -- a symbol over arguments with their numbers
  pub numbered_symbol : (xs : List ℕ) (w : Vec Term Global) → AreNumbered xs (views (take i args)) (views w.items) → IsNumbered xs (view t) (view (Fun f w))
  numbered_symbol xs w all = record {
    names = shown ∙ ap (app f) (ap views (sym (take_all i args h)) ∙ all.names) ∙ sym (ap (apply (naming xs)) (view-Fun f w));
    below = λ m o. all.below m (subst (λ (u : math.Term). occurs m u ≡ true) (view-Fun f w) o);
  }

  pub row_symbol : (xs ys : List ℕ) → with_variables_of ys (views (drop i args)) ≡ with_variables_of xs (views args) → ys ≡ with_variables xs (view t)
  row_symbol xs ys e = sym (ap (λ (ts : List Term). with_variables_of ys (views ts)) (drop_all args i h)) ∙ e ∙ sym (ap (with_variables xs) shown)
