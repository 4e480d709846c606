-- A subject is an instance exactly where the parts at the pattern's variables agree.
use Rattle.std.proofs.Common.{◌≡◌, ℕ, Bool, true, false, Option, None, Some, unwrap_or, refl, sym, ap, ap₂, ◌∙◌, subst, eqb-true, eq-eqb, ◌||◌, ◌↔◌, List, [], ◌∷◌, length, get_or}
use Rattle.std.proofs.Common.{drop, take, ◌-◌, Vec, Global, subst₂, ◌≤◌, ◌<◌, arith}
use Rattle.std.proofs.lemmas.Bool.{or_left, false≢true, or_right, or_parts}
use Rattle.rewriting.specs.Substitutions.{Matches}
use Rattle.term_core.specs.declared.terms.Term as program
use Rattle.term_core.specs.declared.terms.Term.{Fun}
use Rattle.term_core.specs.View.{view, views}
use Rattle.term_core.proofs.Views.{view-Fun, rest_of}
use Rattle.rewriting.proofs.Common.{Term, Terms, var, app, nil, cons, apply, apply_all, Substitution, occurs, occurs_in}
use Rattle.matching.specs.Values.{value_at, value_among, Agrees, AgreeAll}

abbrev with_values : (ℕ → Option Term) → Substitution
with_values value = λ x. unwrap_or (value x) (var x)

mutual
  agreed : (value : ℕ → Option Term) (p s : Term) → Agrees value p s → apply (with_values value) p ≡ s
  agreed value (var x) s h = ap (λ o. unwrap_or o (var x)) h
  agreed value (app f ps) (var y) h = absurd h
  agreed value (app f ps) (app g ss) (e, h) = ap₂ app e (all_agreed value ps ss h)

  all_agreed : (value : ℕ → Option Term) (ps ss : Terms) → AgreeAll value ps ss → apply_all (with_values value) ps ≡ ss
  all_agreed value nil nil h = refl
  all_agreed value nil (cons s ss) h = absurd h
  all_agreed value (cons p ps) nil h = absurd h
  all_agreed value (cons p ps) (cons s ss) (h, k) = ap₂ cons (agreed value p s h) (all_agreed value ps ss k)

-- a variable that does not occur has no value
mutual
  absent : (x : ℕ) (p s : Term) → occurs x p ≡ false → value_at x p s ≡ None
  absent x (var y) s h = rw h refl
  absent x (app f ps) (var y) h = refl
  absent x (app f ps) (app g ss) h = absent_among x ps ss h

  absent_among : (x : ℕ) (ps ss : Terms) → occurs_in x ps ≡ false → value_among x ps ss ≡ None
  absent_among x nil ss h = refl
  absent_among x (cons p ps) nil h = refl
  absent_among x (cons p ps) (cons s ss) h =
      rw (absent x p s (or_parts (occurs x p) (occurs_in x ps) h).0) (absent_among x ps ss (or_parts (occurs x p) (occurs_in x ps) h).1)

split : (s : Substitution) (x : ℕ) (p : Term) (ps : Terms) (b : Bool) → occurs x p ≡ b → occurs_in x (cons p ps) ≡ true
    → (occurs x p ≡ true → value_at x p (apply s p) ≡ Some (s x)) → (occurs_in x ps ≡ true → value_among x ps (apply_all s ps) ≡ Some (s x))
    → value_among x (cons p ps) (apply_all s (cons p ps)) ≡ Some (s x)
split s x p ps true e h f g = rw (f e) refl
split s x p ps false e h f g =
    let rest : occurs_in x ps ≡ true = subst (λ z. (z || occurs_in x ps) ≡ true) e h in
    rw (absent x p (apply s p) e) (g rest)

-- in an instance each variable that occurs has its value
mutual
  value_there : (s : Substitution) (x : ℕ) (p : Term) → occurs x p ≡ true → value_at x p (apply s p) ≡ Some (s x)
  value_there s x (var y) h = rw h (ap (λ z. Some (s z)) (sym (eqb-true x y h)))
  value_there s x (app f ps) h = value_there_among s x ps h

  value_there_among : (s : Substitution) (x : ℕ) (ps : Terms) → occurs_in x ps ≡ true → value_among x ps (apply_all s ps) ≡ Some (s x)
  value_there_among s x nil h = absurd (false≢true h)
  value_there_among s x (cons p ps) h = split s x p ps (occurs x p) refl h (λ e. value_there s x p e) (λ e. value_there_among s x ps e)

mutual
  agrees : (value : ℕ → Option Term) (s : Substitution) (p : Term) → ((x : ℕ) → occurs x p ≡ true → value x ≡ Some (s x)) → Agrees value p (apply s p)
  agrees value s (var x) h = h x (eq-eqb x x refl)
  agrees value s (app f ps) h = (refl, agree_all value s ps h)

  agree_all : (value : ℕ → Option Term) (s : Substitution) (ps : Terms) → ((x : ℕ) → occurs_in x ps ≡ true → value x ≡ Some (s x)) → AgreeAll value ps (apply_all s ps)
  agree_all value s nil h = tt
  agree_all value s (cons p ps) h = (agrees value s p (λ x o. h x (or_left _ _ o)), agree_all value s ps (λ x o. h x (or_right _ _ o)))

instance_agrees : (p u : Term) (s : Substitution) → apply s p ≡ u → Agrees (λ x. value_at x p u) p u
instance_agrees p u s e = subst (λ z. Agrees (λ x. value_at x p z) p z) e (agrees (λ x. value_at x p (apply s p)) s p (λ x o. value_there s x p o))

pub matches_where : (p u : Term) → Agrees (λ x. value_at x p u) p u → Matches p u
matches_where p u h = (with_values (λ x. value_at x p u), agreed (λ x. value_at x p u) p u h)

pub agrees_where : (p u : Term) → Matches p u → Agrees (λ x. value_at x p u) p u
agrees_where p u (s, e) = instance_agrees p u s e

-- the same of the program's terms
pub agrees_args : (value : ℕ → Option Term) (p s : program.Term) (f g : ℕ) (v w : Vec program.Term Global) (ps ss : List program.Term)
    → p ≡ Fun f v → s ≡ Fun g w → ps ≡ v.items → ss ≡ w.items → f ≡ g → AgreeAll value (views ps) (views ss) ↔ Agrees value (view p) (view s)
agrees_args value p s f g v w ps ss is_p is_s pe se e =
    let left : view p ≡ app f (views ps) = ap view is_p ∙ view-Fun f v ∙ ap (λ ts. app f (views ts)) (sym pe) in
    let right : view s ≡ app g (views ss) = ap view is_s ∙ view-Fun g w ∙ ap (λ ts. app g (views ts)) (sym se) in
    (λ h. subst₂ (λ a b. Agrees value a b) (sym left) (sym right) (e, h), λ h. (subst₂ (λ a b. Agrees value a b) left right h).1)

pub agree_first : (value : ℕ → Option Term) (ps ss : List program.Term) (p s : program.Term) → 1 ≤ length ps → 1 ≤ length ss → p ≡ get_or ps 0 p → s ≡ get_or ss 0 s
    → AgreeAll value (views ps) (views ss) ↔ (Agrees value (view p) (view s) × AgreeAll value (views (take (length ps - 1) (drop 1 ps))) (views (take (length ss - 1) (drop 1 ss))))
agree_first value [] ss p s lp ls ep es = absurd (omega arith)
agree_first value (q ∷ ps) [] p s lp ls ep es = absurd (omega arith)
agree_first value (q ∷ ps) (r ∷ ss) p s lp ls ep es =
    let left : take (length (q ∷ ps) - 1) (drop 1 (q ∷ ps)) ≡ ps = rest_of 1 (q ∷ ps) in
    let right : take (length (r ∷ ss) - 1) (drop 1 (r ∷ ss)) ≡ ss = rest_of 1 (r ∷ ss) in (
      λ h. rw (ep, es, left, right) h,
      λ h. subst₂ (λ a b. Agrees value (view a) (view b) × AgreeAll value (views ps) (views ss)) ep es
          (subst₂ (λ a b. Agrees value (view p) (view s) × AgreeAll value (views a) (views b)) left right h),
    )

pub agree_empty : (value : ℕ → Option Term) (ps ss : List program.Term) → length ps < 1 → AgreeAll value (views ps) (views ss) ↔ (length ss ≡ 0)
agree_empty value [] [] h = (λ _. refl, λ _. tt)
agree_empty value [] (s ∷ ss) h = (λ k. absurd k, λ e. absurd (omega (arith, e)))
agree_empty value (p ∷ ps) ss h = absurd (omega arith)
