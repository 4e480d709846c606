-- A run whose variables are renamed by rho and whose symbols by sigma, both one to one, has the same outcome, renamed:
--   runs_to : Runs b ts us o → Runs (renamed_bindings rho sigma b) (all_renamed rho sigma ts) (all_renamed rho sigma us) (renamed_outcome rho sigma o)
-- where renamed_outcome keeps clash and too_large, and renames a unifier. The arguments before the run are rho, sigma and
-- the proofs that they are one to one. Where symbols stay, renamed terms are instances under `names rho`:
--   runs_with_names : Runs [] ts us o → Runs [] (apply_all (names rho) ts) (apply_all (names rho) us) (renamed_outcome rho stays o)
use Rattle.std.proofs.Common.{ℕ, suc, ◌≡◌, inl, inr, ◌+◌, ◌≤◌, max, Bool, true, false, nat_eq, ◌||◌, if◌then◌else◌, List, [], ◌∷◌, ◌++◌, map, refl, sym, ap, ap₂, ◌∙◌, subst, subst₂, eqb-true, eq-eqb}
use Rattle.std.proofs.lemmas.Bool.{false≢true}
use Rattle.rewriting.specs.Prelude.{Term, Terms, var, app, nil, cons, count, size, size_all, depth, depth_all, Fits, Substitution, apply, apply_all, occurs, occurs_in, replacing, append}
use Rattle.unifier_run.specs.Run.{Binding, value, under, extended, DoFit, DoAllFit, Binds, DoRootsDiffer, HaveArguments, Outcome, unifier, clash, too_large, Turn, ends}
use Rattle.unifier_run.specs.Run.{goes_on, Takes, side_too_large, equal_sides, occurs_inside, binding, binding_too_large, roots_differ, arguments, Runs, no_equation}
use Rattle.unifier_run.specs.Run.{last_equation, next_equation}

module _ (rho sigma : ℕ → ℕ) where
  -- the term with rho of each variable and sigma of each symbol
  abbrev mutual
    pub renamed : Term → Term
    renamed (var x) = var (rho x)
    renamed (app f ts) = app (sigma f) (all_renamed ts)

    pub all_renamed : Terms → Terms
    all_renamed nil = nil
    all_renamed (cons t ts) = cons (renamed t) (all_renamed ts)

  abbrev pub renamed_binding : Binding → Binding
  renamed_binding e = record { variable = rho e.variable; term = renamed e.term }

  abbrev pub renamed_bindings : List Binding → List Binding
  renamed_bindings b = map renamed_binding b

  abbrev pub renamed_outcome : Outcome → Outcome
  renamed_outcome (unifier b) = unifier (renamed_bindings b)
  renamed_outcome clash = clash
  renamed_outcome too_large = too_large

  -- what is renamed has the size and depth that it had
  mutual
    pub size-renamed : (t : Term) → size (renamed t) ≡ size t
    size-renamed (var x) = refl
    size-renamed (app f ts) = ap suc (size_all-renamed ts)

    size_all-renamed : (ts : Terms) → size_all (all_renamed ts) ≡ size_all ts
    size_all-renamed nil = refl
    size_all-renamed (cons t ts) = ap₂ (λ a b. a + b) (size-renamed t) (size_all-renamed ts)

  mutual
    depth-renamed : (t : Term) → depth (renamed t) ≡ depth t
    depth-renamed (var x) = refl
    depth-renamed (app f ts) = ap suc (depth_all-renamed ts)

    depth_all-renamed : (ts : Terms) → depth_all (all_renamed ts) ≡ depth_all ts
    depth_all-renamed nil = refl
    depth_all-renamed (cons t ts) = ap₂ max (depth-renamed t) (depth_all-renamed ts)

  pub fits_to : (t : Term) → Fits t → Fits (renamed t)
  fits_to t f = record { nodes = subst (λ n. n ≤ 10000) (sym (size-renamed t)) f.nodes; levels = subst (λ n. n ≤ 400) (sym (depth-renamed t)) f.levels }

  pub fits_from : (t : Term) → Fits (renamed t) → Fits t
  fits_from t f = record { nodes = subst (λ n. n ≤ 10000) (size-renamed t) f.nodes; levels = subst (λ n. n ≤ 400) (depth-renamed t) f.levels }

module _ (rho sigma : ℕ → ℕ) (one_to_one : (x y : ℕ) → rho x ≡ rho y → x ≡ y) (symbols_one_to_one : (f g : ℕ) → sigma f ≡ sigma g → f ≡ g) where
  abbrev pub new : Term → Term
  new t = renamed rho sigma t

  abbrev pub all_new : Terms → Terms
  all_new ts = all_renamed rho sigma ts

  abbrev pub new_bindings : List Binding → List Binding
  new_bindings b = renamed_bindings rho sigma b

  abbrev pub new_outcome : Outcome → Outcome
  new_outcome o = renamed_outcome rho sigma o

  same_test : (x y : ℕ) → nat_eq (rho x) (rho y) ≡ nat_eq x y
  same_test x y = go (nat_eq x y) refl (nat_eq (rho x) (rho y)) refl
    where
      go : (a : Bool) → nat_eq x y ≡ a → (b : Bool) → nat_eq (rho x) (rho y) ≡ b → nat_eq (rho x) (rho y) ≡ nat_eq x y
      go true p true q = q ∙ sym p
      go false p false q = q ∙ sym p
      go true p false q = absurd (false≢true (sym q ∙ eq-eqb (rho x) (rho y) (ap rho (eqb-true x y p))))
      go false p true q = absurd (false≢true (sym p ∙ eq-eqb x y (one_to_one x y (eqb-true (rho x) (rho y) q))))

  abbrev new_turn : Turn → Turn
  new_turn (ends o) = ends (new_outcome o)
  new_turn (goes_on b xs ys) = goes_on (new_bindings b) (all_new xs) (all_new ys)

  either : (c : Bool) (s t : Term) → (if c then new s else new t) ≡ new (if c then s else t)
  either true s t = refl
  either false s t = refl

  value-renamed : (b : List Binding) (x : ℕ) → value (new_bindings b) (rho x) ≡ new (value b x)
  value-renamed [] x = refl
  value-renamed (e ∷ b) x =
      ap₂ (λ c t. if c then new e.term else t) (same_test x e.variable) (value-renamed b x) ∙ either (nat_eq x e.variable) e.term (value b x)

  replacing-renamed : (x : ℕ) (v : Term) (y : ℕ) → replacing (rho x) (new v) (rho y) ≡ new (replacing x v y)
  replacing-renamed x v y = ap (λ c. if c then new v else var (rho y)) (same_test y x) ∙ either (nat_eq y x) v (var y)

  mutual
    apply-renamed : (s r : Substitution) → ((x : ℕ) → r (rho x) ≡ new (s x)) → (t : Term) → apply r (new t) ≡ new (apply s t)
    apply-renamed s r h (var x) = h x
    apply-renamed s r h (app f ts) = ap (app (sigma f)) (apply_all-renamed s r h ts)

    apply_all-renamed : (s r : Substitution) → ((x : ℕ) → r (rho x) ≡ new (s x)) → (ts : Terms) → apply_all r (all_new ts) ≡ all_new (apply_all s ts)
    apply_all-renamed s r h nil = refl
    apply_all-renamed s r h (cons t ts) = ap₂ cons (apply-renamed s r h t) (apply_all-renamed s r h ts)

  instance-renamed : (b : List Binding) (t : Term) → apply (value (new_bindings b)) (new t) ≡ new (apply (value b) t)
  instance-renamed b t = apply-renamed (value b) (value (new_bindings b)) (value-renamed b) t

  extended-renamed : (b c : List Binding) (x : ℕ) (v : Term) → map (under (rho x) (new v)) (new_bindings b) ++ new_bindings c ≡ new_bindings (map (under x v) b ++ c)
  extended-renamed [] c x v = refl
  extended-renamed (e ∷ b) c x v =
      ap₂ (λ t r. (record { variable = rho e.variable; term = t }) ∷ r) (apply-renamed (replacing x v) (replacing (rho x) (new v)) (replacing-renamed x v) e.term) (extended-renamed b c x v)

  all_fit_to : (b : List Binding) → DoAllFit b → DoAllFit (new_bindings b)
  all_fit_to [] h = tt
  all_fit_to (e ∷ b) (h, hs) = (fits_to rho sigma e.term h, all_fit_to b hs)

  all_fit_from : (b : List Binding) → DoAllFit (new_bindings b) → DoAllFit b
  all_fit_from [] h = tt
  all_fit_from (e ∷ b) (h, hs) = (fits_from rho sigma e.term h, all_fit_from b hs)

  mutual
    same_from : (t u : Term) → new t ≡ new u → t ≡ u
    same_from (var x) (var y) e = (let same : rho x ≡ rho y = cc in ap var (one_to_one x y same))
    same_from (var x) (app g us) e = cc
    same_from (app f ts) (var y) e = cc
    same_from (app f ts) (app g us) e =
        (let symbol : sigma f ≡ sigma g = cc in let args : all_new ts ≡ all_new us = cc in ap₂ app (symbols_one_to_one f g symbol) (all_same_from ts us args))

    all_same_from : (ts us : Terms) → all_new ts ≡ all_new us → ts ≡ us
    all_same_from nil nil e = refl
    all_same_from nil (cons u us) e = cc
    all_same_from (cons t ts) nil e = cc
    all_same_from (cons t ts) (cons u us) e =
        (let first : new t ≡ new u = cc in let rest : all_new ts ≡ all_new us = cc in ap₂ cons (same_from t u first) (all_same_from ts us rest))

  mutual
    occurs-renamed : (x : ℕ) (t : Term) → occurs (rho x) (new t) ≡ occurs x t
    occurs-renamed x (var y) = same_test x y
    occurs-renamed x (app f ts) = occurs_in-renamed x ts

    occurs_in-renamed : (x : ℕ) (ts : Terms) → occurs_in (rho x) (all_new ts) ≡ occurs_in x ts
    occurs_in-renamed x nil = refl
    occurs_in-renamed x (cons t ts) = ap₂ (λ a b. a || b) (occurs-renamed x t) (occurs_in-renamed x ts)

  count-renamed : (ts : Terms) → count (all_new ts) ≡ count ts
  count-renamed nil = refl
  count-renamed (cons t ts) = ap suc (count-renamed ts)

  append-renamed : (ts us : Terms) → all_new (append ts us) ≡ append (all_new ts) (all_new us)
  append-renamed nil us = refl
  append-renamed (cons t ts) us = ap (cons (new t)) (append-renamed ts us)

  binds_to : (l r : Term) (x : ℕ) (v : Term) → Binds l r x v → Binds (new l) (new r) (rho x) (new v)
  binds_to (var y) r x v (e, h) = (ap rho e, ap new h)
  binds_to (app f ts) (var y) x v (e, h) = (ap rho e, ap new h)
  binds_to (app f ts) (app g us) x v h = absurd h

  differ_to : (l r : Term) → DoRootsDiffer l r → DoRootsDiffer (new l) (new r)
  differ_to (var y) r h = absurd h
  differ_to (app f ts) (var y) h = absurd h
  differ_to (app f ts) (app g us) (inl h) = inl (λ e. h (symbols_one_to_one f g e))
  differ_to (app f ts) (app g us) (inr h) = inr (λ e. h (sym (count-renamed ts) ∙ e ∙ count-renamed us))

  arguments_to : (l r : Term) (xs ys : Terms) → HaveArguments l r xs ys → HaveArguments (new l) (new r) (all_new xs) (all_new ys)
  arguments_to (var y) r xs ys h = absurd h
  arguments_to (app f ts) (var y) xs ys h = absurd h
  arguments_to (app f ts) (app g us) xs ys (e, c, p, q) = (ap sigma e, count-renamed ts ∙ c ∙ sym (count-renamed us), ap all_new p, ap all_new q)

  fit_to : (l r : Term) → DoFit l r → DoFit (new l) (new r)
  fit_to l r (a, b) = (fits_to rho sigma l a, fits_to rho sigma r b)

  extended_to : (b : List Binding) (x : ℕ) (v : Term) → extended (new_bindings b) (rho x) (new v) ≡ new_bindings (extended b x v)
  extended_to b x v = extended-renamed b ((record { variable = x; term = v }) ∷ []) x v

  takes_to : (b : List Binding) (l r : Term) (turn : Turn) → Takes b l r turn → Takes (new_bindings b) (new l) (new r) (new_turn turn)
  takes_to b l r _ (side_too_large h) = side_too_large (λ f. h (fits_from rho sigma l f.0, fits_from rho sigma r f.1))
  takes_to b l r _ (equal_sides f e) = equal_sides (fit_to l r f) (ap new e)
  takes_to b l r _ (occurs_inside f d x v h o) = occurs_inside (fit_to l r f) (λ e. d (same_from l r e)) (rho x) (new v) (binds_to l r x v h) (occurs-renamed x v ∙ o)
  takes_to b l r _ (binding f d x v h o c e all) =
      binding (fit_to l r f) (λ q. d (same_from l r q)) (rho x) (new v) (binds_to l r x v h) (occurs-renamed x v ∙ o) (new_bindings c) (ap new_bindings e ∙ sym (extended_to b x v)) (all_fit_to c all)
  takes_to b l r _ (binding_too_large f d x v h o none) =
      binding_too_large (fit_to l r f) (λ q. d (same_from l r q)) (rho x) (new v) (binds_to l r x v h) (occurs-renamed x v ∙ o)
      (λ all. none (all_fit_from (extended b x v) (subst DoAllFit (extended_to b x v) all)))
  takes_to b l r _ (roots_differ f h) = roots_differ (fit_to l r f) (differ_to l r h)
  takes_to b l r _ (arguments f d xs ys h) = arguments (fit_to l r f) (λ q. d (same_from l r q)) (all_new xs) (all_new ys) (arguments_to l r xs ys h)

  taken_to : (b : List Binding) (t u : Term) (turn : Turn) → Takes b (apply (value b) t) (apply (value b) u) turn
      → Takes (new_bindings b) (apply (value (new_bindings b)) (new t)) (apply (value (new_bindings b)) (new u)) (new_turn turn)
  taken_to b t u turn h =
      subst₂ (λ l r. Takes (new_bindings b) l r (new_turn turn)) (sym (instance-renamed b t)) (sym (instance-renamed b u)) (takes_to b (apply (value b) t) (apply (value b) u) turn h)

  pub runs_to : {b : List Binding} {ts us : Terms} {o : Outcome} → Runs b ts us o → Runs (new_bindings b) (all_new ts) (all_new us) (new_outcome o)
  runs_to no_equation = no_equation
  runs_to (last_equation {b = b} {t = t} {u = u} {o = o} h) = last_equation (taken_to b t u (ends o) h)
  runs_to (next_equation {b = b} {c = c} {t = t} {u = u} {ts = ts} {us = us} {xs = xs} {ys = ys} {o = o} h rest) =
      next_equation (taken_to b t u (goes_on c xs ys) h)
      (subst₂ (λ p q. Runs (new_bindings c) p q (new_outcome o)) (append-renamed xs ts) (append-renamed ys us) (runs_to rest))

-- where symbols stay
abbrev pub stays : ℕ → ℕ
stays f = f

abbrev pub names : (ℕ → ℕ) → Substitution
names rho x = var (rho x)

mutual
  pub renamed-names : (rho : ℕ → ℕ) (t : Term) → renamed rho stays t ≡ apply (names rho) t
  renamed-names rho (var x) = refl
  renamed-names rho (app f ts) = ap (app f) (all_renamed-names rho ts)

  pub all_renamed-names : (rho : ℕ → ℕ) (ts : Terms) → all_renamed rho stays ts ≡ apply_all (names rho) ts
  all_renamed-names rho nil = refl
  all_renamed-names rho (cons t ts) = ap₂ cons (renamed-names rho t) (all_renamed-names rho ts)

-- renamed terms have the size that they had, and fit as they did
pub size-names : (rho : ℕ → ℕ) (t : Term) → size (apply (names rho) t) ≡ size t
size-names rho t = ap size (sym (renamed-names rho t)) ∙ size-renamed rho stays t

pub fits_with_names : (rho : ℕ → ℕ) (t : Term) → Fits t → Fits (apply (names rho) t)
fits_with_names rho t f = subst Fits (renamed-names rho t) (fits_to rho stays t f)

pub fits_without_names : (rho : ℕ → ℕ) (t : Term) → Fits (apply (names rho) t) → Fits t
fits_without_names rho t f = fits_from rho stays t (subst Fits (sym (renamed-names rho t)) f)

pub runs_with_names : (rho : ℕ → ℕ) → ((x y : ℕ) → rho x ≡ rho y → x ≡ y) → {ts us : Terms} {o : Outcome} → Runs [] ts us o
    → Runs [] (apply_all (names rho) ts) (apply_all (names rho) us) (renamed_outcome rho stays o)
runs_with_names rho one_to_one {ts = ts} {us = us} {o = o} h =
    subst₂ (λ p q. Runs [] p q (renamed_outcome rho stays o)) (all_renamed-names rho ts) (all_renamed-names rho us) (runs_to rho stays one_to_one (λ f g e. e) h)
