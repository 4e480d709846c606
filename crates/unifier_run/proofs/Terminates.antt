-- Why each run between lists of one length ends: an equation that binds leaves fewer variables, and each other that
-- goes on leaves smaller sides (Baader and Nipkow, Term Rewriting and All That, section 4.5).
use Rattle.std.proofs.Common.{ℕ, zero, suc, ◌≡◌, ◌≢◌, ◌+◌, ◌<◌, ◌≤◌, ◌⊎◌, inl, inr, Bool, true, false, nat_eq, if◌then◌else◌, List, [], ◌∷◌, length, refl, sym, ap, ◌∙◌, subst, arith, eqb-true, eq-eqb}
use Rattle.std.proofs.lemmas.Bool.{or_right, or_left}
use native.Mathlib.Decide.{ℕ_discrete}
use Rattle.general_lemmas.proofs.Decisions.{dec_and}
use Rattle.rewriting.specs.Prelude.{Term, var, app, Terms, nil, cons, count, size, size_all, apply, apply_all, occurs, occurs_in, IsAmong, replacing, append}
use Rattle.rewriting.proofs.Instances.{or_cases, inj_app}
use Rattle.rewriting.proofs.Equality.{same, fits_decided}
use Rattle.unifier_run.specs.Run.{Binding, value, extended, DoFit, DoAllFit, Binds, Outcome, unifier, clash, too_large, ends, goes_on, Takes, side_too_large, equal_sides}
use Rattle.unifier_run.specs.Run.{occurs_inside, binding, binding_too_large, roots_differ, arguments, Runs, no_equation, last_equation, next_equation}
use Rattle.unifier_run.proofs.Values.{apply_all-extended}
use Rattle.unifier_run.proofs.Lists.{apply_all-append, count-append}
use Rattle.unifier_run.proofs.General.{IsSettled, settled_fixed, takes_settled}

do_all_fit : (b : List Binding) → Dec (DoAllFit b)
do_all_fit [] = yes tt
do_all_fit (e ∷ b) = dec_and (fits_decided e.term) (do_all_fit b)

-- what becomes of an equation: the run ends, a variable is bound, or sides of smaller size take its place
data Next (b : List Binding) (l r : Term) : Type 0 where
  stops : (o : Outcome) → Takes b l r (ends o) → Next b l r
  drops : Takes b l r (goes_on b nil nil) → Next b l r
  binds : (x : ℕ) (v : Term) → Binds l r x v → occurs x v ≡ false → Takes b l r (goes_on (extended b x v) nil nil) → Next b l r
  opens : (f : ℕ) (xs ys : Terms) → l ≡ app f xs → r ≡ app f ys → count xs ≡ count ys → Takes b l r (goes_on b xs ys) → Next b l r

-- a variable of the sides
bound : (b : List Binding) (l r : Term) (x : ℕ) (v : Term) → DoFit l r → l ≢ r → Binds l r x v → Next b l r
bound b l r x v fit differ is = go (occurs x v) refl (do_all_fit (extended b x v))
  where
    go : (o : Bool) → occurs x v ≡ o → Dec (DoAllFit (extended b x v)) → Next b l r
    go true e d = stops clash (occurs_inside fit differ x v is e)
    go false e (yes f) = binds x v is e (binding fit differ x v is e (extended b x v) refl f)
    go false e (no h) = stops too_large (binding_too_large fit differ x v is e h)

apart : (b : List Binding) (l r : Term) → DoFit l r → l ≢ r → Next b l r
apart b (var x) r fit differ = bound b (var x) r x r fit differ (refl, refl)
apart b (app f ts) (var y) fit differ = bound b (app f ts) (var y) y (app f ts) fit differ (refl, refl)
apart b (app f ts) (app g us) fit differ = go (ℕ_discrete f g) (ℕ_discrete (count ts) (count us))
  where
    go : Dec (f ≡ g) → Dec (count ts ≡ count us) → Next b (app f ts) (app g us)
    go (yes e) (yes c) = opens f ts us refl (ap (λ z. app z us) (sym e)) c (arguments fit differ ts us (e, c, refl, refl))
    go (yes e) (no h) = stops clash (roots_differ fit (inr h))
    go (no h) d = stops clash (roots_differ fit (inl h))

next : (b : List Binding) (l r : Term) → Next b l r
next b l r = go (dec_and (fits_decided l) (fits_decided r)) (same l r)
  where
    go : Dec (DoFit l r) → Dec (l ≡ r) → Next b l r
    go (no h) d = stops too_large (side_too_large h)
    go (yes fit) (yes e) = drops (equal_sides fit e)
    go (yes fit) (no h) = apart b l r fit h

-- the variables that are left to bind
abbrev without : ℕ → List ℕ → List ℕ
without x [] = []
without x (y ∷ ys) = if nat_eq y x then without x ys else (y ∷ without x ys)

without_less : (x : ℕ) (ys : List ℕ) → length (without x ys) ≤ length ys
without_less x [] = omega arith
without_less x (y ∷ ys) = go (nat_eq y x) (without_less x ys)
  where
    go : (b : Bool) → length (without x ys) ≤ length ys → length (if b then without x ys else (y ∷ without x ys)) ≤ suc (length ys)
    go true h = omega (arith, h)
    go false h = omega (arith, h)

without_fewer : (x : ℕ) (ys : List ℕ) → IsAmong x ys → length (without x ys) < length ys
without_fewer x [] h = absurd h
without_fewer x (y ∷ ys) (inl e) = rw (eq-eqb y x (sym e)) (let h = without_less x ys in omega (arith, h))
without_fewer x (y ∷ ys) (inr m) = go (nat_eq y x) (without_fewer x ys m)
  where
    go : (b : Bool) → length (without x ys) < length ys → length (if b then without x ys else (y ∷ without x ys)) < suc (length ys)
    go true h = omega (arith, h)
    go false h = omega (arith, h)

still_has : (x z : ℕ) (ys : List ℕ) → nat_eq z x ≡ false → IsAmong z ys → IsAmong z (without x ys)
still_has x z [] n h = h
still_has x z (y ∷ ys) n (inl e) = subst (λ k. IsAmong z (if nat_eq k x then without x ys else (k ∷ without x ys))) e (rw n (inl refl))
still_has x z (y ∷ ys) n (inr m) = go (nat_eq y x) (still_has x z ys n m)
  where
    go : (b : Bool) → IsAmong z (without x ys) → IsAmong z (if b then without x ys else (y ∷ without x ys))
    go true h = h
    go false h = inr h

-- the list has every variable of the terms
abbrev pub HasAll : List ℕ → Terms → Type 0
HasAll vs ts = (x : ℕ) → occurs_in x ts ≡ true → IsAmong x vs

-- a variable of an instance by one binding
mutual
  from_replacing : (x : ℕ) (v : Term) (z : ℕ) (t : Term) → occurs z (apply (replacing x v) t) ≡ true → (occurs z v ≡ true) ⊎ ((occurs z t ≡ true) × (nat_eq z x ≡ false))
  from_replacing x v z (var y) o = go (nat_eq y x) refl o
    where
      go : (b : Bool) → nat_eq y x ≡ b → occurs z (if b then v else var y) ≡ true → (occurs z v ≡ true) ⊎ ((nat_eq z y ≡ true) × (nat_eq z x ≡ false))
      go true e o = inl o
      go false e o = inr (o, subst (λ k. nat_eq k x ≡ false) (sym (eqb-true z y o)) e)
  from_replacing x v z (app f ts) o = from_replacing_all x v z ts o

  from_replacing_all : (x : ℕ) (v : Term) (z : ℕ) (ts : Terms) → occurs_in z (apply_all (replacing x v) ts) ≡ true → (occurs z v ≡ true) ⊎ ((occurs_in z ts ≡ true) × (nat_eq z x ≡ false))
  from_replacing_all x v z nil o = absurd (cc)
  from_replacing_all x v z (cons t ts) o =
      or_cases (occurs z (apply (replacing x v) t)) (occurs_in z (apply_all (replacing x v) ts)) o
      (λ q. in_head (from_replacing x v z t q))
      (λ q. in_tail (from_replacing_all x v z ts q))
    where
      in_head : (occurs z v ≡ true) ⊎ ((occurs z t ≡ true) × (nat_eq z x ≡ false)) → (occurs z v ≡ true) ⊎ ((occurs_in z (cons t ts) ≡ true) × (nat_eq z x ≡ false))
      in_head (inl h) = inl h
      in_head (inr (h, n)) = inr (or_left _ _ h, n)

      in_tail : (occurs z v ≡ true) ⊎ ((occurs_in z ts ≡ true) × (nat_eq z x ≡ false)) → (occurs z v ≡ true) ⊎ ((occurs_in z (cons t ts) ≡ true) × (nat_eq z x ≡ false))
      in_tail (inl h) = inl h
      in_tail (inr (h, n)) = inr (or_right _ _ h, n)

-- what a variable is bound to, and the variable, are of the sides
binds_within : (l r : Term) (x : ℕ) (v : Term) (z : ℕ) → Binds l r x v → occurs z v ≡ true → (occurs z l ≡ true) ⊎ (occurs z r ≡ true)
binds_within (var y) r x v z (e, h) o = inr (subst (λ k. occurs z k ≡ true) h o)
binds_within (app f ts) (var y) x v z (e, h) o = inl (subst (λ k. occurs z k ≡ true) h o)
binds_within (app f ts) (app g us) x v z h o = absurd h

binds_of : (l r : Term) (x : ℕ) (v : Term) → Binds l r x v → (occurs x l ≡ true) ⊎ (occurs x r ≡ true)
binds_of (var y) r x v (e, h) = inl (eq-eqb x y e)
binds_of (app f ts) (var y) x v (e, h) = inr (eq-eqb x y e)
binds_of (app f ts) (app g us) x v h = absurd h

of_sides : (vs : List ℕ) (l r : Term) (ls rs : Terms) (z : ℕ) → HasAll vs (cons l ls) → HasAll vs (cons r rs) → (occurs z l ≡ true) ⊎ (occurs z r ≡ true) → IsAmong z vs
of_sides vs l r ls rs z hl hr (inl o) = hl z (or_left _ _ o)
of_sides vs l r ls rs z hl hr (inr o) = hr z (or_left _ _ o)

-- the variables that are left after a binding
after_binding : (vs : List ℕ) (b : List Binding) (x : ℕ) (v : Term) (ts : Terms) → occurs x v ≡ false → ((z : ℕ) → occurs z v ≡ true → IsAmong z vs) → HasAll vs (apply_all (value b) ts)
    → HasAll (without x vs) (apply_all (value (extended b x v)) ts)
after_binding vs b x v ts free inside all z o = go (from_replacing_all x v z (apply_all (value b) ts) (subst (λ k. occurs_in z k ≡ true) (apply_all-extended b x v ts) o))
  where
    differ : (k : Bool) → nat_eq z x ≡ k → occurs z v ≡ true → nat_eq z x ≡ false
    differ false e h = e
    differ true e h = absurd (let same : z ≡ x = eqb-true z x e in let bad : occurs x v ≡ true = subst (λ k. occurs k v ≡ true) same h in cc)

    go : (occurs z v ≡ true) ⊎ ((occurs_in z (apply_all (value b) ts) ≡ true) × (nat_eq z x ≡ false)) → IsAmong z (without x vs)
    go (inl h) = still_has x z vs (differ (nat_eq z x) refl h) (inside z h)
    go (inr (h, n)) = still_has x z vs n (all z h)

-- arguments in the place of the sides
occurs_in_append : (z : ℕ) (xs ts : Terms) → occurs_in z (append xs ts) ≡ true → (occurs_in z xs ≡ true) ⊎ (occurs_in z ts ≡ true)
occurs_in_append z nil ts o = inr o
occurs_in_append z (cons x xs) ts o = or_cases (occurs z x) (occurs_in z (append xs ts)) o (λ q. inl (or_left _ _ q)) (λ q. go (occurs_in_append z xs ts q))
  where
    go : (occurs_in z xs ≡ true) ⊎ (occurs_in z ts ≡ true) → (occurs_in z (cons x xs) ≡ true) ⊎ (occurs_in z ts ≡ true)
    go (inl h) = inl (or_right _ _ h)
    go (inr h) = inr h

size_all-append : (xs ts : Terms) → size_all (append xs ts) ≡ size_all xs + size_all ts
size_all-append nil ts = omega arith
size_all-append (cons x xs) ts = let h = size_all-append xs ts in omega (arith, h)

opened : (b : List Binding) (t : Term) (f : ℕ) (xs ts : Terms) → IsSettled b → apply (value b) t ≡ app f xs → apply_all (value b) (append xs ts) ≡ append xs (apply_all (value b) ts)
opened b t f xs ts s e =
    let fixed : app f (apply_all (value b) xs) ≡ app f xs = ap (apply (value b)) (sym e) ∙ (settled_fixed b s t ∙ e) in
    apply_all-append (value b) xs ts ∙ ap (λ k. append k (apply_all (value b) ts)) (inj_app f f _ _ fixed)

opened_has : (vs : List ℕ) (b : List Binding) (t : Term) (f : ℕ) (xs ts : Terms) → IsSettled b → apply (value b) t ≡ app f xs → HasAll vs (apply_all (value b) (cons t ts))
    → HasAll vs (apply_all (value b) (append xs ts))
opened_has vs b t f xs ts s e all z o = go (occurs_in_append z xs (apply_all (value b) ts) (subst (λ k. occurs_in z k ≡ true) (opened b t f xs ts s e) o))
  where
    go : (occurs_in z xs ≡ true) ⊎ (occurs_in z (apply_all (value b) ts) ≡ true) → IsAmong z vs
    go (inl h) = all z (or_left _ _ (subst (λ k. occurs z k ≡ true) (sym e) h))
    go (inr h) = all z (or_right _ _ h)

opened_size : (b : List Binding) (t : Term) (f : ℕ) (xs ts : Terms) → IsSettled b → apply (value b) t ≡ app f xs
    → size_all (apply_all (value b) (append xs ts)) < size_all (apply_all (value b) (cons t ts))
opened_size b t f xs ts s e =
    let whole = ap size_all (opened b t f xs ts s e) ∙ size_all-append xs (apply_all (value b) ts) in
    let one : size (apply (value b) t) ≡ suc (size_all xs) = ap size e in
    omega (arith, whole, one)

size_positive : (t : Term) → 0 < size t
size_positive (var x) = omega arith
size_positive (app f ts) = omega arith

-- where fewer than n variables are left to bind, the run has an outcome
abbrev pub Ends : ℕ → Type 0
Ends n =
    (vs : List ℕ) → length vs < n → (b : List Binding) → IsSettled b → (ts us : Terms) → count ts ≡ count us → HasAll vs (apply_all (value b) ts)
    → HasAll vs (apply_all (value b) us) → (o : Outcome) × Runs b ts us o

-- the same with these bindings, for sides of fewer than m nodes
abbrev EndsSmall : List ℕ → List Binding → ℕ → Type 0
EndsSmall vs b m =
    (ts us : Terms) → count ts ≡ count us → HasAll vs (apply_all (value b) ts) → HasAll vs (apply_all (value b) us) → size_all (apply_all (value b) ts) + size_all (apply_all (value b) us) < m
    → (o : Outcome) × Runs b ts us o

one_more : (n m : ℕ) (vs : List ℕ) (b : List Binding) → Ends n → length vs < suc n → IsSettled b → EndsSmall vs b m → (t u : Term) (ts us : Terms) → count ts ≡ count us
    → HasAll vs (apply_all (value b) (cons t ts)) → HasAll vs (apply_all (value b) (cons u us)) → size_all (apply_all (value b) (cons t ts)) + size_all (apply_all (value b) (cons u us)) < suc m
    → Next b (apply (value b) t) (apply (value b) u) → (o : Outcome) × Runs b (cons t ts) (cons u us) o
one_more n m vs b fewer less s small t u ts us c hl hr fits (stops o k) = (o, last_equation k)
one_more n m vs b fewer less s small t u ts us c hl hr fits (drops k) =
    let p = size_positive (apply (value b) t) in
    let rest = small ts us c (λ z o. hl z (or_right _ _ o)) (λ z o. hr z (or_right _ _ o)) (omega (arith, fits, p)) in
    (rest.0, next_equation k rest.1)
one_more n m vs b fewer less s small t u ts us c hl hr fits (binds x v is free k) =
    let inside : (z : ℕ) → occurs z v ≡ true → IsAmong z vs = λ z o. of_sides vs (apply (value b) t) (apply (value b) u) (apply_all (value b) ts) (apply_all (value b) us) z hl hr
    (binds_within _ _ x v z is o) in
    let there = of_sides vs (apply (value b) t) (apply (value b) u) (apply_all (value b) ts) (apply_all (value b) us) x hl hr (binds_of _ _ x v is) in
    let few = without_fewer x vs there in
    let rest =
    fewer (without x vs) (omega (arith, few, less)) (extended b x v) (takes_settled b (extended b x v) _ _ nil nil k (settled_fixed b s t) (settled_fixed b s u) s) ts us c
    (after_binding vs b x v ts free inside (λ z o. hl z (or_right _ _ o))) (after_binding vs b x v us free inside (λ z o. hr z (or_right _ _ o)))
    in
    (rest.0, next_equation k rest.1)
one_more n m vs b fewer less s small t u ts us c hl hr fits (opens f xs ys el er same_count k) =
    let more : count (append xs ts) ≡ count (append ys us) = (let p = count-append xs ts in let q = count-append ys us in omega (arith, p, q, c, same_count)) in
    let left = opened_size b t f xs ts s el in
    let right = opened_size b u f ys us s er in
    let rest = small (append xs ts) (append ys us) more (opened_has vs b t f xs ts s el hl) (opened_has vs b u f ys us s er hr) (omega (arith, left, right, fits)) in
    (rest.0, next_equation k rest.1)

by_size : (n : ℕ) → Ends n → (vs : List ℕ) → length vs < suc n → (b : List Binding) → IsSettled b → (m : ℕ) → EndsSmall vs b m
by_size n fewer vs less b s zero ts us c hl hr fits = absurd (omega (arith, fits))
by_size n fewer vs less b s (suc m) nil nil c hl hr fits = (unifier b, no_equation)
by_size n fewer vs less b s (suc m) nil (cons u us) c hl hr fits = absurd (omega (arith, c))
by_size n fewer vs less b s (suc m) (cons t ts) nil c hl hr fits = absurd (omega (arith, c))
by_size n fewer vs less b s (suc m) (cons t ts) (cons u us) c hl hr fits =
    one_more n m vs b fewer less s (by_size n fewer vs less b s m) t u ts us (let e : count ts ≡ count us = omega (arith, c) in e) hl hr fits (next b (apply (value b) t) (apply (value b) u))

pub by_variables : (n : ℕ) → Ends n
by_variables zero vs less b s ts us c hl hr = absurd (omega (arith, less))
by_variables (suc n) vs less b s ts us c hl hr = by_size n (by_variables n) vs less b s (suc (size_all (apply_all (value b) ts) + size_all (apply_all (value b) us))) ts us c hl hr (omega arith)
