-- The symbols of a pattern stand in each of its instances.
use Rattle.std.proofs.Common.{◌≡◌, List, [], ◌∷◌, length, get_or, drop, take, ◌-◌, ◌↔◌, Vec, Global, ℕ, refl, sym, ap, ◌∙◌, subst, subst₂, ◌≤◌, ◌<◌, arith}
use Rattle.rewriting.specs.Prelude.{Substitution, Bindings, Matches, apply, apply_all, HasNoMatch, Term, Terms, var, app, nil, cons}
use Rattle.matching.proofs.Unmatched.{no_instance}
use Rattle.term_core.specs.declared.terms.Term as program
use Rattle.term_core.specs.declared.terms.Term.{Fun}
use Rattle.term_core.specs.View.{view, views}
use Rattle.term_core.proofs.Views.{view-Fun, rest_of}
use Rattle.matching.specs.Values.{HasShape, HaveShape}

mutual
  shape_of_instance : (s : Substitution) (p : Term) → HasShape p (apply s p)
  shape_of_instance s (var x) = tt
  shape_of_instance s (app f ps) = (refl, shapes_of_instances s ps)

  shapes_of_instances : (s : Substitution) (ps : Terms) → HaveShape ps (apply_all s ps)
  shapes_of_instances s nil = tt
  shapes_of_instances s (cons p ps) = (shape_of_instance s p, shapes_of_instances s ps)

pub shape_of : (p u : Term) → Matches p u → HasShape p u
shape_of p u (s, e) = subst (HasShape p) e (shape_of_instance s p)

pub no_shape : (b : Bindings) (p u : Term) → (HasShape p u → ⊥) → HasNoMatch b p u
no_shape b p u h = no_instance b p u (λ k. h (shape_of p u k))

-- the same of the program's terms
pub shape_args : (p s : program.Term) (f g : ℕ) (v w : Vec program.Term Global) (ps ss : List program.Term) → p ≡ Fun f v → s ≡ Fun g w → ps ≡ v.items → ss ≡ w.items → f ≡ g
    → HaveShape (views ps) (views ss) ↔ HasShape (view p) (view s)
shape_args p s f g v w ps ss is_p is_s pe se e =
    let left : view p ≡ app f (views ps) = ap view is_p ∙ view-Fun f v ∙ ap (λ ts. app f (views ts)) (sym pe) in
    let right : view s ≡ app g (views ss) = ap view is_s ∙ view-Fun g w ∙ ap (λ ts. app g (views ts)) (sym se) in
    (λ h. subst₂ HasShape (sym left) (sym right) (e, h), λ h. (subst₂ HasShape left right h).1)

pub shape_first : (ps ss : List program.Term) (p s : program.Term) → 1 ≤ length ps → 1 ≤ length ss → p ≡ get_or ps 0 p → s ≡ get_or ss 0 s
    → HaveShape (views ps) (views ss) ↔ (HasShape (view p) (view s) × HaveShape (views (take (length ps - 1) (drop 1 ps))) (views (take (length ss - 1) (drop 1 ss))))
shape_first [] ss p s lp ls ep es = absurd (omega arith)
shape_first (q ∷ ps) [] p s lp ls ep es = absurd (omega arith)
shape_first (q ∷ ps) (r ∷ ss) p s lp ls ep es =
    let left : take (length (q ∷ ps) - 1) (drop 1 (q ∷ ps)) ≡ ps = rest_of 1 (q ∷ ps) in
    let right : take (length (r ∷ ss) - 1) (drop 1 (r ∷ ss)) ≡ ss = rest_of 1 (r ∷ ss) in (
      λ h. rw (ep, es, left, right) h,
      λ h. subst₂ (λ a b. HasShape (view a) (view b) × HaveShape (views ps) (views ss)) ep es
          (subst₂ (λ a b. HasShape (view p) (view s) × HaveShape (views a) (views b)) left right h),
    )

pub shape_empty : (ps ss : List program.Term) → length ps < 1 → HaveShape (views ps) (views ss) ↔ (length ss ≡ 0)
shape_empty [] [] h = (λ _. refl, λ _. tt)
shape_empty [] (s ∷ ss) h = (λ k. absurd k, λ e. absurd (omega (arith, e)))
shape_empty (p ∷ ps) ss h = absurd (omega arith)
