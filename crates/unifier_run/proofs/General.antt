-- The unifier of a run is most general, and where a run clashes there is no unifier.
use Rattle.std.proofs.Common.{ℕ, ◌≡◌, ◌≢◌, suc, ◌≤◌, inl, inr, Bool, true, false, nat_eq, if◌then◌else◌, refl, sym, ap, ap₂, ◌∙◌, subst, arith, List, [], eqb-true, eq-eqb}
use Rattle.std.proofs.lemmas.Bool.{or_parts}
use Rattle.rewriting.specs.Prelude.{Term, var, app, Terms, nil, cons, count, size, size_all, Substitution, apply, apply_all, occurs, occurs_in, IsMostGeneralOfAll, replacing, append}
use Rattle.rewriting.proofs.Instances.{apply-apply, apply-agree, or_cases, inj_app, inj_symbol}
use Rattle.rewriting.proofs.Over.{count-apply}
use Rattle.unifier_run.specs.Run.{Binding, value, extended, Binds, DoRootsDiffer, HaveArguments, unifier, clash, ends, goes_on, Takes, equal_sides, occurs_inside, binding}
use Rattle.unifier_run.specs.Run.{roots_differ, arguments, Runs, no_equation, last_equation, next_equation}
use Rattle.unifier_run.proofs.Values.{value-extended, apply-extended}
use Rattle.unifier_run.proofs.Lists.{apply_all-append, part}
use Rattle.unifier_run.proofs.Agree.{head_of, tail_of}

-- s is m followed by s
abbrev pub Absorbs : Substitution → Substitution → Type 0
Absorbs s m = (x : ℕ) → s x ≡ apply s (m x)

pub absorbed : (s m : Substitution) → Absorbs s m → (t : Term) → apply s (apply m t) ≡ apply s t
absorbed s m a t = apply-apply m s t ∙ sym (apply-agree s (λ x. apply s (m x)) t (λ x o. a x))

pub replacing-same : (x : ℕ) (v : Term) → replacing x v x ≡ v
replacing-same x v = rw (eq-eqb x x refl) refl

-- one variable put in for v leaves the instance where s has the two alike
if_replacing : (s : Substitution) (x : ℕ) (v : Term) → s x ≡ apply s v → (y : ℕ) (b : Bool) → nat_eq y x ≡ b → apply s (if b then v else var y) ≡ s y
if_replacing s x v e y true h = sym e ∙ ap s (sym (eqb-true y x h))
if_replacing s x v e y false h = refl

pub absorbs_replacing : (s : Substitution) (x : ℕ) (v : Term) → s x ≡ apply s v → (t : Term) → apply s (apply (replacing x v) t) ≡ apply s t
absorbs_replacing s x v e t = apply-apply (replacing x v) s t ∙ apply-agree (λ y. apply s (replacing x v y)) s t (λ y o. if_replacing s x v e y (nat_eq y x) refl)

-- what an equation that binds says
binds_value : (s : Substitution) (l r : Term) (x : ℕ) (v : Term) → Binds l r x v → apply s l ≡ apply s r → s x ≡ apply s v
binds_value s (var y) r x v (e, h) u = ap s e ∙ (u ∙ ap (apply s) (sym h))
binds_value s (app f ts) (var y) x v (e, h) u = ap s e ∙ (sym u ∙ ap (apply s) (sym h))
binds_value s (app f ts) (app g us) x v h u = absurd h

binds_back : (s : Substitution) (l r : Term) (x : ℕ) (v : Term) → Binds l r x v → s x ≡ apply s v → apply s l ≡ apply s r
binds_back s (var y) r x v (e, h) u = ap s (sym e) ∙ (u ∙ ap (apply s) h)
binds_back s (app f ts) (var y) x v (e, h) u = sym (ap s (sym e) ∙ (u ∙ ap (apply s) h))
binds_back s (app f ts) (app g us) x v h u = absurd h

arguments_unify : (s : Substitution) (l r : Term) (xs ys : Terms) → HaveArguments l r xs ys → apply s l ≡ apply s r → apply_all s xs ≡ apply_all s ys
arguments_unify s (var y) r xs ys h e = absurd h
arguments_unify s (app f ts) (var y) xs ys h e = absurd h
arguments_unify s (app f ts) (app g us) xs ys (fg, c, hx, hy) e = ap (apply_all s) hx ∙ (inj_app f g _ _ e ∙ ap (apply_all s) (sym hy))

arguments_back : (s : Substitution) (l r : Term) (xs ys : Terms) → HaveArguments l r xs ys → apply_all s xs ≡ apply_all s ys → apply s l ≡ apply s r
arguments_back s (var y) r xs ys h e = absurd h
arguments_back s (app f ts) (var y) xs ys h e = absurd h
arguments_back s (app f ts) (app g us) xs ys (fg, c, hx, hy) e = ap₂ app fg (ap (apply_all s) (sym hx) ∙ (e ∙ ap (apply_all s) hy))

arguments_count : (l r : Term) (xs ys : Terms) → HaveArguments l r xs ys → count xs ≡ count ys
arguments_count (var y) r xs ys h = absurd h
arguments_count (app f ts) (var y) xs ys h = absurd h
arguments_count (app f ts) (app g us) xs ys (fg, c, hx, hy) = ap count hx ∙ (c ∙ ap count (sym hy))

roots_apart : (s : Substitution) (l r : Term) → DoRootsDiffer l r → apply s l ≡ apply s r → ⊥
roots_apart s (var y) r h e = absurd h
roots_apart s (app f ts) (var y) h e = absurd h
roots_apart s (app f ts) (app g us) (inl n) e = n (inj_symbol f g _ _ e)
roots_apart s (app f ts) (app g us) (inr n) e = n (sym (count-apply s ts) ∙ (ap count (inj_app f g _ _ e) ∙ count-apply s us))

-- a variable inside another term: the instance of the term is larger
mutual
  occurs_size : (s : Substitution) (x : ℕ) (t : Term) → occurs x t ≡ true → size (s x) ≤ size (apply s t)
  occurs_size s x (var y) o = subst (λ z. size (s x) ≤ size (s z)) (eqb-true x y o) (omega arith)
  occurs_size s x (app f ts) o = let h = occurs_in_size s x ts o in omega (arith, h)

  occurs_in_size : (s : Substitution) (x : ℕ) (ts : Terms) → occurs_in x ts ≡ true → size (s x) ≤ size_all (apply_all s ts)
  occurs_in_size s x nil o = absurd (cc)
  occurs_in_size s x (cons t ts) o =
      or_cases (occurs x t) (occurs_in x ts) o (λ q. let h = occurs_size s x t q in omega (arith, h)) (λ q. let h = occurs_in_size s x ts q in omega (arith, h))

occurs_below : (s : Substitution) (x : ℕ) (f : ℕ) (ts : Terms) → occurs_in x ts ≡ true → s x ≡ apply s (app f ts) → ⊥
occurs_below s x f ts o e =
    let h = occurs_in_size s x ts o in
    let k : size (s x) ≡ suc (size_all (apply_all s ts)) = ap size e in
    omega (arith, h, k)

occurs_apart : (s : Substitution) (l r : Term) (x : ℕ) (v : Term) → Binds l r x v → l ≢ r → occurs x v ≡ true → s x ≡ apply s v → ⊥
occurs_apart s (var y) r x (var z) (e, h) n o u = n (ap var (sym e ∙ eqb-true x z o) ∙ h)
occurs_apart s (var y) r x (app f ts) (e, h) n o u = occurs_below s x f ts o u
occurs_apart s (app g us) (var y) x (var z) (e, h) n o u = absurd (cc)
occurs_apart s (app g us) (var y) x (app f ts) (e, h) n o u = occurs_below s x f ts o u
occurs_apart s (app g us) (app k vs) x v h n o u = absurd h

-- a turn that ends in a clash
takes_clash : (b : List Binding) (l r : Term) (s : Substitution) → Takes b l r (ends clash) → apply s l ≡ apply s r → ⊥
takes_clash b l r s (occurs_inside f n x v h o) e = occurs_apart s l r x v h n o (binds_value s l r x v h e)
takes_clash b l r s (roots_differ f d) e = roots_apart s l r d e

-- a turn after which the run goes on: what unifies its sides
pub record GoesOn (s : Substitution) (c : List Binding) (xs ys : Terms) : Type 0 where
  pub absorbs : Absorbs s (value c)
  pub unifies : apply_all s xs ≡ apply_all s ys
  pub lengths : count xs ≡ count ys

takes_on : (b c : List Binding) (l r : Term) (xs ys : Terms) (s : Substitution) → Takes b l r (goes_on c xs ys) → Absorbs s (value b) → apply s l ≡ apply s r → GoesOn s c xs ys
takes_on b c l r xs ys s (equal_sides f e) a u = record { absorbs = a; unifies = refl; lengths = refl }
takes_on b c l r xs ys s (arguments f n us vs h) a u = record { absorbs = a; unifies = arguments_unify s l r xs ys h u; lengths = arguments_count l r xs ys h }
takes_on b c l r xs ys s (binding f n x v h o d e k) a u =
    record {
      absorbs = subst (λ z. Absorbs s (value z)) (sym e) (λ y. a y ∙ sym (ap (apply s) (value-extended b x v y) ∙ absorbs_replacing s x v (binds_value s l r x v h u) (value b y)));
      unifies = refl;
      lengths = refl;
    }

-- and back
takes_back : (b c : List Binding) (l r : Term) (xs ys : Terms) (s : Substitution) → Takes b l r (goes_on c xs ys) → apply (value b) l ≡ l → apply (value b) r ≡ r
    → Absorbs s (value c) → apply_all s xs ≡ apply_all s ys → (apply s l ≡ apply s r) × Absorbs s (value b)
takes_back b c l r xs ys s (equal_sides f e) hl hr a u = (ap (apply s) e, a)
takes_back b c l r xs ys s (arguments f n us vs h) hl hr a u = (arguments_back s l r xs ys h u, a)
takes_back b c l r xs ys s (binding f n x v h o d e k) hl hr a u =
    let same = fixed_variable b l r x v h hl hr in
    let at = subst (λ z. Absorbs s (value z)) e a in
    let here : s x ≡ apply s v = at x ∙ ap (apply s) (value-extended b x v x ∙ (ap (apply (replacing x v)) same ∙ replacing-same x v)) in
    (binds_back s l r x v h here, λ y. at y ∙ (ap (apply s) (value-extended b x v y) ∙ absorbs_replacing s x v here (value b y)))
  where
    fixed_variable : (b : List Binding) (l r : Term) (x : ℕ) (v : Term) → Binds l r x v → apply (value b) l ≡ l → apply (value b) r ≡ r → value b x ≡ var x
    fixed_variable b (var y) r x v (e, h) hl hr = ap (value b) e ∙ (hl ∙ ap var (sym e))
    fixed_variable b (app f ts) (var y) x v (e, h) hl hr = ap (value b) e ∙ (hr ∙ ap var (sym e))
    fixed_variable b (app f ts) (app g us) x v h hl hr = absurd h

takes_lengths : (b c : List Binding) (l r : Term) (xs ys : Terms) → Takes b l r (goes_on c xs ys) → count xs ≡ count ys
takes_lengths b c l r xs ys (equal_sides f e) = refl
takes_lengths b c l r xs ys (binding f n x v h o d e k) = refl
takes_lengths b c l r xs ys (arguments f n us vs h) = arguments_count l r xs ys h

-- no bound variable occurs in a bound term
abbrev pub IsSettled : List Binding → Type 0
IsSettled b = Absorbs (value b) (value b)

pub settled_fixed : (b : List Binding) → IsSettled b → (t : Term) → apply (value b) (apply (value b) t) ≡ apply (value b) t
settled_fixed b h t = absorbed (value b) (value b) h t

pub settled_fixed_all : (b : List Binding) → IsSettled b → (ts : Terms) → apply_all (value b) (apply_all (value b) ts) ≡ apply_all (value b) ts
settled_fixed_all b h nil = refl
settled_fixed_all b h (cons t ts) = ap₂ cons (settled_fixed b h t) (settled_fixed_all b h ts)

-- a term without the variable stays
mutual
  pub untouched : (x : ℕ) (v t : Term) → occurs x t ≡ false → apply (replacing x v) t ≡ t
  untouched x v (var y) o = other (nat_eq y x) refl
    where
      other : (k : Bool) → nat_eq y x ≡ k → if k then v else var y ≡ var y
      other true e = (let bad : nat_eq x y ≡ true = eq-eqb x y (sym (eqb-true y x e)) in cc)
      other false e = refl
  untouched x v (app f ts) o = ap (app f) (untouched_all x v ts o)

  pub untouched_all : (x : ℕ) (v : Term) (ts : Terms) → occurs_in x ts ≡ false → apply_all (replacing x v) ts ≡ ts
  untouched_all x v nil o = refl
  untouched_all x v (cons t ts) o = (let p = or_parts (occurs x t) (occurs_in x ts) o in ap₂ cons (untouched x v t p.0) (untouched_all x v ts p.1))

value_binds : (l r : Term) (x : ℕ) (v : Term) → Binds l r x v → (s : Substitution) → apply s l ≡ l → apply s r ≡ r → (s x ≡ var x) × (apply s v ≡ v)
value_binds (var y) r x v (e, h) s hl hr = (ap s e ∙ (hl ∙ ap var (sym e)), ap (apply s) h ∙ (hr ∙ sym h))
value_binds (app f ts) (var y) x v (e, h) s hl hr = (ap s e ∙ (hr ∙ ap var (sym e)), ap (apply s) h ∙ (hl ∙ sym h))
value_binds (app f ts) (app g us) x v h s hl hr = absurd h

settled_extended : (b : List Binding) (x : ℕ) (v : Term) → IsSettled b → value b x ≡ var x → apply (value b) v ≡ v → occurs x v ≡ false → IsSettled (extended b x v)
settled_extended b x v h free fixed o y = sym (ap (apply (value (extended b x v))) (value-extended b x v y)
    ∙ (absorbs_replacing (value (extended b x v)) x v here (value b y) ∙ (apply-extended b x v (value b y) ∙ (ap (apply (replacing x v)) (sym (h y)) ∙ sym (value-extended b x v y)))))
  where
    left : value (extended b x v) x ≡ v
    left = value-extended b x v x ∙ (ap (apply (replacing x v)) free ∙ replacing-same x v)

    right : apply (value (extended b x v)) v ≡ v
    right = apply-extended b x v v ∙ (ap (apply (replacing x v)) fixed ∙ untouched x v v o)

    here : value (extended b x v) x ≡ apply (value (extended b x v)) v
    here = left ∙ sym right

pub takes_settled : (b c : List Binding) (l r : Term) (xs ys : Terms) → Takes b l r (goes_on c xs ys) → apply (value b) l ≡ l → apply (value b) r ≡ r → IsSettled b → IsSettled c
takes_settled b c l r xs ys (equal_sides f e) hl hr s = s
takes_settled b c l r xs ys (arguments f n us vs h) hl hr s = s
takes_settled b c l r xs ys (binding f n x v h o d e k) hl hr s =
    let p = value_binds l r x v h (value b) hl hr in
    subst IsSettled (sym e) (settled_extended b x v s p.0 p.1 o)

pub ends_clash_or_large : (b : List Binding) (l r : Term) (m : List Binding) → Takes b l r (ends (unifier m)) → ⊥
ends_clash_or_large b l r m h = elim h [ ]

pub runs_settled : {b : List Binding} {ts us : Terms} {m : List Binding} → Runs b ts us (unifier m) → IsSettled b → IsSettled m
runs_settled no_equation s = s
runs_settled (last_equation k) s = absurd (ends_clash_or_large _ _ _ _ k)
runs_settled (next_equation {b = b} {c = c} {t = t} {u = u} {xs = xs} {ys = ys} k r) s =
    runs_settled r (takes_settled b c _ _ xs ys k (settled_fixed b s t) (settled_fixed b s u) s)

-- the unifier of a run unifies, and absorbs the bindings that the run began with
pub record Solves (b : List Binding) (ts us : Terms) (m : List Binding) : Type 0 where
  pub unifies : apply_all (value m) ts ≡ apply_all (value m) us
  pub absorbs : Absorbs (value m) (value b)

solves_next : (b c : List Binding) (t u : Term) (ts us xs ys : Terms) (m : List Binding) → IsSettled b → Takes b (apply (value b) t) (apply (value b) u) (goes_on c xs ys)
    → Solves c (append xs ts) (append ys us) m → Solves b (cons t ts) (cons u us) m
solves_next b c t u ts us xs ys m s k h =
    let lengths : count (apply_all (value m) xs) ≡ count (apply_all (value m) ys) = count-apply _ xs ∙ (takes_lengths b c _ _ xs ys k ∙ sym (count-apply _ ys)) in
    let both = part (apply_all (value m) xs) (apply_all (value m) ys) (apply_all (value m) ts) (apply_all (value m) us) lengths
    (sym (apply_all-append (value m) xs ts) ∙ (h.unifies ∙ apply_all-append (value m) ys us)) in
    let back = takes_back b c _ _ xs ys (value m) k (settled_fixed b s t) (settled_fixed b s u) h.absorbs both.first in
    record {
      unifies = ap₂ cons (sym (absorbed (value m) (value b) back.1 t) ∙ (back.0 ∙ absorbed (value m) (value b) back.1 u)) both.second;
      absorbs = back.1;
    }

pub runs_solves : {b : List Binding} {ts us : Terms} {m : List Binding} → Runs b ts us (unifier m) → IsSettled b → Solves b ts us m
runs_solves no_equation s = record { unifies = refl; absorbs = s }
runs_solves (last_equation k) s = absurd (ends_clash_or_large _ _ _ _ k)
runs_solves (next_equation {b = b} {c = c} {t = t} {u = u} {ts = ts} {us = us} {xs = xs} {ys = ys} k r) s =
    solves_next b c t u ts us xs ys _ s k (runs_solves r (takes_settled b c _ _ xs ys k (settled_fixed b s t) (settled_fixed b s u) s))

sides_unify : (b : List Binding) (s : Substitution) (t u : Term) → Absorbs s (value b) → apply s t ≡ apply s u → apply s (apply (value b) t) ≡ apply s (apply (value b) u)
sides_unify b s t u a e = absorbed s (value b) a t ∙ (e ∙ sym (absorbed s (value b) a u))

next_unify : (s : Substitution) (xs ys ts us : Terms) → apply_all s xs ≡ apply_all s ys → apply_all s ts ≡ apply_all s us → apply_all s (append xs ts) ≡ apply_all s (append ys us)
next_unify s xs ys ts us e h = apply_all-append s xs ts ∙ (ap₂ append e h ∙ sym (apply_all-append s ys us))

-- each unifier of the lists that absorbs the first bindings absorbs the last
pub runs_factors : {b : List Binding} {ts us : Terms} {m : List Binding} → Runs b ts us (unifier m) → (s : Substitution) → Absorbs s (value b) → apply_all s ts ≡ apply_all s us → Absorbs s (value m)
runs_factors no_equation s a e = a
runs_factors (last_equation k) s a e = absurd (ends_clash_or_large _ _ _ _ k)
runs_factors (next_equation {b = b} {c = c} {t = t} {u = u} {ts = ts} {us = us} {xs = xs} {ys = ys} k r) s a e =
    let on = takes_on b c _ _ xs ys s k a (sides_unify b s t u a (head_of _ _ _ _ e)) in
    runs_factors r s on.absorbs (next_unify s xs ys ts us on.unifies (tail_of _ _ _ _ e))

-- where the run clashes, nothing that absorbs the first bindings unifies
pub runs_clash : {b : List Binding} {ts us : Terms} → Runs b ts us clash → (s : Substitution) → Absorbs s (value b) → apply_all s ts ≡ apply_all s us → ⊥
runs_clash (last_equation {b = b} {t = t} {u = u} k) s a e = takes_clash b _ _ s k (sides_unify b s t u a (head_of _ _ _ _ e))
runs_clash (next_equation {b = b} {c = c} {t = t} {u = u} {ts = ts} {us = us} {xs = xs} {ys = ys} k r) s a e =
    let on = takes_on b c _ _ xs ys s k a (sides_unify b s t u a (head_of _ _ _ _ e)) in
    runs_clash r s on.absorbs (next_unify s xs ys ts us on.unifies (tail_of _ _ _ _ e))

pub settled_empty : IsSettled []
settled_empty x = refl

pub absorbs_empty : (s : Substitution) → Absorbs s (value [])
absorbs_empty s x = refl

-- the unifier of a whole run is most general, in the strong form
pub most_general : (ts us : Terms) (m : List Binding) → Runs [] ts us (unifier m) → IsMostGeneralOfAll (value m) ts us
most_general ts us m r = record { unifies = (runs_solves r settled_empty).unifies; factors = λ s e. runs_factors r s (absorbs_empty s) e }

-- where a whole run clashes there is no unifier
pub no_unifier : (ts us : Terms) → Runs [] ts us clash → (s : Substitution) → apply_all s ts ≡ apply_all s us → ⊥
no_unifier ts us r s e = runs_clash r s (absorbs_empty s) e
