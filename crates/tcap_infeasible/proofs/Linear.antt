-- Runs for linear terms that fit and share no variable: each variable is bound once and never looked up, so that no term of
-- the run is larger than these, and the run clashes exactly where two symbols do.
use Rattle.std.proofs.Common.{ℕ, ◌≡◌, ◌≢◌, inl, inr, ◌||◌, Bool, true, false, nat_eq, if◌then◌else◌, List, [], ◌∷◌, ◌++◌, Ok, refl, sym, ap, ap₂, ◌∙◌, subst, arith, eqb-true, eq-eqb}
use Rattle.std.proofs.lemmas.Bool.{false≢true, or_right, or_left, or_parts, false_from_ne_true}
use Rattle.rewriting.specs.Prelude.{Term, Terms, var, app, nil, cons, count, Fits, Each, apply, occurs, occurs_in, append}
use Rattle.rewriting.proofs.Instances.{apply-agree}
use Rattle.rewriting.proofs.Variables.{IsLinearInParts, AreLinear}
use Rattle.unifier_run.specs.Run.{Binding, value, extended, DoAllFit, Outcome, unifier, clash, Runs, no_equation, IsOutcome}
use Rattle.unifier_run.proofs.Values.{apply_nothing}
use Rattle.unifier_run.proofs.General.{untouched}
use Rattle.unifier_run.proofs.Equal.{arguments_fit, open_equation}
use Rattle.unification.specs.declared.solving.Progress.TheVariants.{Solved}
use Rattle.unification.specs.Solving.{IsGood, AreSolved}
use Rattle.unification.proofs.Solve.{ends_roots, bound_left, bound_right}
use Rattle.tcap_infeasible.specs.Clashes.{do_clash, do_any_clash}
use Rattle.tcap_infeasible.proofs.Clashes.{first_open, second_open}

-- the variable is not bound, and occurs in no bound term
abbrev pub IsNew : List Binding → ℕ → Type 0
IsNew [] x = Unit {0}
IsNew (e ∷ b) x = (nat_eq x e.variable ≡ false) × (occurs x e.term ≡ false) × IsNew b x

new_value : (b : List Binding) (x : ℕ) → IsNew b x → value b x ≡ var x
new_value [] x h = refl
new_value (e ∷ b) x h = subst (λ q. (if q then e.term else value b x) ≡ var x) (sym h.0) (new_value b x h.2)

-- a term of new variables is itself under the bindings
stays : (b : List Binding) (t : Term) → ((x : ℕ) → occurs x t ≡ true → IsNew b x) → apply (value b) t ≡ t
stays b t h = apply-agree (value b) (value []) t (λ x o. new_value b x (h x o)) ∙ apply_nothing t

abbrev with_one : List Binding → ℕ → Term → List Binding
with_one b x v = b ++ (record { variable = x; term = v }) ∷ []

extended_one : (b : List Binding) (x : ℕ) (v : Term) → IsNew b x → extended b x v ≡ with_one b x v
extended_one [] x v h = refl
extended_one (e ∷ b) x v h = ap₂ (λ d c. d ∷ c) (ap (λ t. record { variable = e.variable; term = t }) (untouched x v e.term h.1)) (extended_one b x v h.2)

fit_one : (b : List Binding) (x : ℕ) (v : Term) → DoAllFit b → Fits v → DoAllFit (with_one b x v)
fit_one [] x v f g = (g, tt)
fit_one (e ∷ b) x v f g = (f.0, fit_one b x v f.1 g)

new_one : (b : List Binding) (x : ℕ) (v : Term) (y : ℕ) → IsNew b y → nat_eq y x ≡ false → occurs y v ≡ false → IsNew (with_one b x v) y
new_one [] x v y h n o = (n, o, tt)
new_one (e ∷ b) x v y h n o = (h.0, h.1, new_one b x v y h.2 n o)

-- two terms that are still to be met, and two lists of them: all their variables are new, and none occurs twice
record Meet (b : List Binding) (t u : Term) : Type 0 where
  good : IsGood b
  left : IsLinearInParts t
  right : IsLinearInParts u
  apart : (x : ℕ) → occurs x t ≡ true → occurs x u ≡ true → ⊥
  left_new : (x : ℕ) → occurs x t ≡ true → IsNew b x
  right_new : (x : ℕ) → occurs x u ≡ true → IsNew b x
  left_fits : Fits t
  right_fits : Fits u

record AllMeet (b : List Binding) (ts us : Terms) : Type 0 where
  good : IsGood b
  left : AreLinear ts
  right : AreLinear us
  apart : (x : ℕ) → occurs_in x ts ≡ true → occurs_in x us ≡ true → ⊥
  left_new : (x : ℕ) → occurs_in x ts ≡ true → IsNew b x
  right_new : (x : ℕ) → occurs_in x us ≡ true → IsNew b x
  left_fit : Each Fits ts
  right_fit : Each Fits us

-- the equations are solved, which leaves other new variables new
record Met (b c : List Binding) (ts us : Terms) : Type 0 where
  runs : (vs ws : Terms) (o : Outcome) → Runs c vs ws o → Runs b (append ts vs) (append us ws) o
  good : IsGood c
  new : (x : ℕ) → IsNew b x → occurs_in x ts ≡ false → occurs_in x us ≡ false → IsNew c x

inside : (b : List Binding) (f g : ℕ) (ts us : Terms) → Meet b (app f ts) (app g us) → AllMeet b ts us
inside b f g ts us m =
    record {
      good = m.good;
      left = m.left;
      right = m.right;
      apart = m.apart;
      left_new = m.left_new;
      right_new = m.right_new;
      left_fit = arguments_fit ts (omega (arith, m.left_fits.nodes)) (omega (arith, m.left_fits.levels));
      right_fit = arguments_fit us (omega (arith, m.right_fits.nodes)) (omega (arith, m.right_fits.levels));
    }

first : (b : List Binding) (t u : Term) (ts us : Terms) → AllMeet b (cons t ts) (cons u us) → Meet b t u
first b t u ts us m =
    record {
      good = m.good;
      left = m.left.0;
      right = m.right.0;
      apart = λ x o p. m.apart x (or_left _ _ o) (or_left _ _ p);
      left_new = λ x o. m.left_new x (or_left _ _ o);
      right_new = λ x o. m.right_new x (or_left _ _ o);
      left_fits = m.left_fit.0;
      right_fits = m.right_fit.0;
    }

-- what is still to be met has none of the variables of the terms before it
rest : (b c : List Binding) (t u : Term) (ts us : Terms) → AllMeet b (cons t ts) (cons u us) → Met b c (cons t nil) (cons u nil) → AllMeet c ts us
rest b c t u ts us m d =
    record {
      good = d.good;
      left = m.left.1;
      right = m.right.1;
      apart = λ x o p. m.apart x (or_right _ _ o) (or_right _ _ p);
      left_new = λ x o. d.new x (m.left_new x (or_right _ _ o)) (ap (λ a. a || false) (false_from_ne_true _ (λ h. m.left.2 x h o)))
          (ap (λ a. a || false) (false_from_ne_true _ (λ h. m.apart x (or_right _ _ o) (or_left _ _ h))));
      right_new = λ x o. d.new x (m.right_new x (or_right _ _ o)) (ap (λ a. a || false) (false_from_ne_true _ (λ h. m.apart x (or_left _ _ h) (or_right _ _ o))))
          (ap (λ a. a || false) (false_from_ne_true _ (λ h. m.right.2 x h o)));
      left_fit = m.left_fit.1;
      right_fit = m.right_fit.1;
    }

itself : (x : ℕ) → nat_eq x x ≡ true
itself x = eq-eqb x x refl

of_solved : (b : List Binding) (x : ℕ) (v : Term) (t u : Term) → AreSolved b (with_one b x v) (cons t nil) (cons u nil)
    → ((y : ℕ) → occurs y t ≡ false → occurs y u ≡ false → (nat_eq y x ≡ false) × (occurs y v ≡ false))
    → Met b (with_one b x v) (cons t nil) (cons u nil)
of_solved b x v t u s others =
    record {
      runs = s.runs;
      good = s.good;
      new = λ y h o p. (let k = others y (or_parts _ _ o).0 (or_parts _ _ p).0 in new_one b x v y h k.0 k.1);
    }

met_left : (b : List Binding) (x : ℕ) (u : Term) → Meet b (var x) u → Met b (with_one b x u) (cons (var x) nil) (cons u nil)
met_left b x u m =
    of_solved b x u (var x) u
    (bound_left b (with_one b x u) x u (Ok Solved) m.good free (subst Fits (sym free) m.left_fits, subst Fits (sym same) m.right_fits)
    (λ e. m.apart x (itself x) (ap (occurs x) (sym same ∙ e) ∙ itself x))
    (ap (occurs x) same ∙ absent, sym (ap (extended b x) same ∙ extended_one b x u here), fit_one b x u m.good.fit m.right_fits))
    (λ y o p. (o, p))
  where
    here : IsNew b x
    here = m.left_new x (itself x)

    free : value b x ≡ var x
    free = new_value b x here

    same : apply (value b) u ≡ u
    same = stays b u m.right_new

    absent : occurs x u ≡ false
    absent = false_from_ne_true _ (λ h. m.apart x (itself x) h)

met_right : (b : List Binding) (f : ℕ) (ts : Terms) (x : ℕ) → Meet b (app f ts) (var x) → Met b (with_one b x (app f ts)) (cons (app f ts) nil) (cons (var x) nil)
met_right b f ts x m =
    of_solved b x (app f ts) (app f ts) (var x)
    (bound_right b (with_one b x (app f ts)) f ts x (Ok Solved) m.good free (subst Fits (sym same) m.left_fits, subst Fits (sym free) m.right_fits)
    (ap (occurs x) same ∙ absent, sym (ap (extended b x) same ∙ extended_one b x (app f ts) here), fit_one b x (app f ts) m.good.fit m.left_fits))
    (λ y o p. (p, o))
  where
    here : IsNew b x
    here = m.right_new x (itself x)

    free : value b x ≡ var x
    free = new_value b x here

    same : apply (value b) (app f ts) ≡ app f ts
    same = stays b (app f ts) m.left_new

    absent : occurs x (app f ts) ≡ false
    absent = false_from_ne_true _ (λ h. m.apart x h (itself x))

-- the cases of two symbols
data Roots (f g : ℕ) (ts us : Terms) : Type 0 where
  other_symbols : f ≢ g → do_clash 0 (app f ts) (app g us) ≡ true → Roots f g ts us
  other_counts : count ts ≢ count us → do_clash 0 (app f ts) (app g us) ≡ true → Roots f g ts us
  same_roots : f ≡ g → count ts ≡ count us → do_clash 0 (app f ts) (app g us) ≡ do_any_clash 0 ts us → Roots f g ts us

roots : (f g : ℕ) (ts us : Terms) → Roots f g ts us
roots f g ts us = go (nat_eq f g) refl (nat_eq (count ts) (count us)) refl
  where
    go : (a : Bool) → nat_eq f g ≡ a → (b : Bool) → nat_eq (count ts) (count us) ≡ b → Roots f g ts us
    go false p b q = other_symbols (λ e. (let yes = eq-eqb f g e in cc)) (rw p refl)
    go true p false q = other_counts (λ e. (let yes = eq-eqb (count ts) (count us) e in cc)) (rw (p, q) refl)
    go true p true q = same_roots (eqb-true f g p) (eqb-true (count ts) (count us) q) (rw (p, q) refl)

both_fit : (b : List Binding) (t u : Term) → Meet b t u → Fits (apply (value b) t) × Fits (apply (value b) u)
both_fit b t u m = (subst Fits (sym (stays b t m.left_new)) m.left_fits, subst Fits (sym (stays b u m.right_new)) m.right_fits)

opened : (b c : List Binding) (f g : ℕ) (ts us : Terms) → Meet b (app f ts) (app g us) → f ≡ g → count ts ≡ count us → Met b c ts us → Met b c (cons (app f ts) nil) (cons (app g us) nil)
opened b c f g ts us m e k d =
    record {
      runs = λ vs ws o r. subst (λ z. Runs b (cons (app f ts) vs) (cons (app z us) ws) o) e
          (open_equation b f ts us vs ws o m.good.settled (subst (λ z. Fits (apply (value b) (app f ts)) × Fits (apply (value b) (app z us))) (sym e)
          (both_fit b (app f ts) (app g us) m)) k (d.runs vs ws o r));
      good = d.good;
      new = λ x h o p. d.new x h (or_parts _ _ o).0 (or_parts _ _ p).0;
    }

-- without a clash all is solved
mutual
  solved : (b : List Binding) (t u : Term) → Meet b t u → do_clash 0 t u ≡ false → (c : List Binding) × Met b c (cons t nil) (cons u nil)
  solved b (var x) u m n = (_, met_left b x u m)
  solved b (app f ts) (var y) m n = (_, met_right b f ts y m)
  solved b (app f ts) (app g us) m n = go (roots f g ts us) (λ k e. all_solved b ts us (inside b f g ts us m) k e)
    where
      go : Roots f g ts us → (count ts ≡ count us → do_any_clash 0 ts us ≡ false → (c : List Binding) × Met b c ts us) → (c : List Binding) × Met b c (cons (app f ts) nil) (cons (app g us) nil)
      go (other_symbols d e) h = absurd (cc)
      go (other_counts d e) h = absurd (cc)
      go (same_roots e k s) h = (let d = h k (sym s ∙ n) in (d.0, opened b d.0 f g ts us m e k d.1))

  all_solved : (b : List Binding) (ts us : Terms) → AllMeet b ts us → count ts ≡ count us → do_any_clash 0 ts us ≡ false → (c : List Binding) × Met b c ts us
  all_solved b nil nil m k n = (b, record { runs = λ vs ws o r. r; good = m.good; new = λ x h o p. h })
  all_solved b nil (cons u us) m k n = absurd (omega (arith, k))
  all_solved b (cons t ts) nil m k n = absurd (omega (arith, k))
  all_solved b (cons t ts) (cons u us) m k n =
      (let none = or_parts (do_clash 0 t u) (do_any_clash 0 ts us) n in
      let d = solved b t u (first b t u ts us m) none.0 in
      let e = all_solved d.0 ts us (rest b d.0 t u ts us m d.1) (omega (arith, k)) none.1 in (
        e.0,
        record {
          runs = λ vs ws o r. d.1.runs (append ts vs) (append us ws) o (e.1.runs vs ws o r);
          good = e.1.good;
          new = λ x h o p. (let q = or_parts _ _ o in let r = or_parts _ _ p in e.1.new x (d.1.new x h (ap (λ a. a || false) q.0) (ap (λ a. a || false) r.0)) q.1 r.1);
        },
      ))

-- and the first clash ends the run
mutual
  ended : (b : List Binding) (t u : Term) → Meet b t u → do_clash 0 t u ≡ true → (vs ws : Terms) → Runs b (cons t vs) (cons u ws) clash
  ended b (var x) u m n vs ws = absurd (false≢true (sym (first_open 0 x u (omega arith)) ∙ n))
  ended b (app f ts) (var y) m n vs ws = absurd (false≢true (sym (second_open 0 (app f ts) y (omega arith)) ∙ n))
  ended b (app f ts) (app g us) m n vs ws = go (roots f g ts us) (λ k e. all_ended b ts us (inside b f g ts us m) k e vs ws)
    where
      go : Roots f g ts us → (count ts ≡ count us → do_any_clash 0 ts us ≡ true → Runs b (append ts vs) (append us ws) clash) → Runs b (cons (app f ts) vs) (cons (app g us) ws) clash
      go (other_symbols d e) h = ends_roots b b f g ts us (both_fit b (app f ts) (app g us) m) (inl d) vs ws
      go (other_counts d e) h = ends_roots b b f g ts us (both_fit b (app f ts) (app g us) m) (inr d) vs ws
      go (same_roots e k s) h =
          subst (λ z. Runs b (cons (app f ts) vs) (cons (app z us) ws) clash) e
          (open_equation b f ts us vs ws clash m.good.settled (subst (λ z. Fits (apply (value b) (app f ts)) × Fits (apply (value b) (app z us))) (sym e)
          (both_fit b (app f ts) (app g us) m)) k (h k (sym s ∙ n)))

  all_ended : (b : List Binding) (ts us : Terms) → AllMeet b ts us → count ts ≡ count us → do_any_clash 0 ts us ≡ true → (vs ws : Terms) → Runs b (append ts vs) (append us ws) clash
  all_ended b nil us m k n vs ws = absurd (cc)
  all_ended b (cons t ts) nil m k n vs ws = absurd (cc)
  all_ended b (cons t ts) (cons u us) m k n vs ws =
      go (do_clash 0 t u) refl (λ e. ended b t u (first b t u ts us m) e (append ts vs) (append us ws)) (λ c d e. all_ended c ts us (rest b c t u ts us m d) (omega (arith, k)) e vs ws)
    where
      go : (a : Bool) → do_clash 0 t u ≡ a → (do_clash 0 t u ≡ true → Runs b (cons t (append ts vs)) (cons u (append us ws)) clash)
          → ((c : List Binding) → Met b c (cons t nil) (cons u nil) → do_any_clash 0 ts us ≡ true → Runs c (append ts vs) (append us ws) clash)
          → Runs b (cons t (append ts vs)) (cons u (append us ws)) clash
      go true e f g = f e
      go false e f g =
          (let d = solved b t u (first b t u ts us m) e in d.1.runs (append ts vs) (append us ws) clash (g d.0 d.1 (subst (λ q. (q || do_any_clash 0 ts us) ≡ true) e n)))

-- terms that fit, are linear and share no variable
pub record AreLinearApart (t u : Term) : Type 0 where
  pub left : IsLinearInParts t
  pub right : IsLinearInParts u
  pub apart : (x : ℕ) → occurs x t ≡ true → occurs x u ≡ true → ⊥
  pub left_fits : Fits t
  pub right_fits : Fits u

start : (t u : Term) → AreLinearApart t u → Meet [] t u
start t u h =
    record {
      good = record { settled = λ x. refl; fit = tt };
      left = h.left;
      right = h.right;
      apart = h.apart;
      left_new = λ x o. tt;
      right_new = λ x o. tt;
      left_fits = h.left_fits;
      right_fits = h.right_fits;
    }

pub clash_outcome : (t u : Term) → AreLinearApart t u → do_clash 0 t u ≡ true → IsOutcome (cons t nil) (cons u nil) clash
clash_outcome t u h e = ended [] t u (start t u h) e nil nil

pub unifier_outcome : (t u : Term) → AreLinearApart t u → do_clash 0 t u ≡ false → (b : List Binding) × IsOutcome (cons t nil) (cons u nil) (unifier b)
unifier_outcome t u h e = (let d = solved [] t u (start t u h) e in (d.0, d.1.runs nil nil (unifier d.0) no_equation))
