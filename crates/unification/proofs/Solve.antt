-- How the answers on parts make those on wholes.
use Rattle.std.proofs.Common.{ℕ, ◌≡◌, ◌≢◌, ◌<◌, ◌⊎◌, inl, inr, refl, sym, ap, ◌∙◌, subst, List, length, arith, Result, Ok, Err}
use Rattle.rewriting.specs.Prelude.{Term, Terms, var, app, nil, cons, count, apply, apply_all, append}
use Rattle.rewriting.proofs.Over.{count-apply}
use Rattle.unifier_run.specs.Run.{Binding, value, Binds, DoFit, Outcome, clash, too_large, goes_on, Takes, side_too_large, equal_sides, occurs_inside, binding, binding_too_large}
use Rattle.unifier_run.specs.Run.{roots_differ, Runs, last_equation, next_equation}
use Rattle.unifier_run.proofs.Agree.{Runs-agree}
use Rattle.unifier_run.proofs.General.{settled_fixed, takes_settled}
use Rattle.unifier_run.proofs.Equal.{open_equation}
use Rattle.term_core.specs.declared.terms.NoMemory.{NoMemory}
use Rattle.unification.specs.declared.solving.Progress.{Progress}
use Rattle.unification.specs.declared.solving.Progress.TheVariants.{Solved, Clash, TooLarge}
use Rattle.unification.proofs.Turns.{length_extended}
use Rattle.unification.specs.Solving.{IsGood, AreSolved, SolveAnswers, BindAnswers}

abbrev pub One : List Binding → List Binding → Term → Term → Result Progress NoMemory → Type 0
One b c t u r = SolveAnswers b c (cons t nil) (cons u nil) r

-- equal sides
pub solved_equal : (b : List Binding) (t u : Term) → IsGood b → DoFit (apply (value b) t) (apply (value b) u) → apply (value b) t ≡ apply (value b) u → One b b t u (Ok Solved)
solved_equal b t u g f e = record { runs = λ vs ws o r. next_equation (equal_sides f e) r; grown = inl refl; good = g }

-- a side that does not fit
pub ends_large : (b c : List Binding) (t u : Term) → (DoFit (apply (value b) t) (apply (value b) u) → ⊥) → One b c t u (Ok TooLarge)
ends_large b c t u n = λ vs ws. last_equation (side_too_large n)

-- other roots, or other numbers of arguments
pub ends_roots : (b c : List Binding) (f g : ℕ) (xs ys : Terms) → DoFit (apply (value b) (app f xs)) (apply (value b) (app g ys)) → (f ≢ g) ⊎ (count xs ≢ count ys)
    → One b c (app f xs) (app g ys) (Ok Clash)
ends_roots b c f g xs ys fit (inl n) = λ vs ws. last_equation (roots_differ fit (inl n))
ends_roots b c f g xs ys fit (inr n) = λ vs ws. last_equation (roots_differ fit (inr (λ e. n (sym (count-apply (value b) xs) ∙ (e ∙ count-apply (value b) ys)))))

-- the arguments
pub opened : (b c : List Binding) (f : ℕ) (xs ys : Terms) (r : Result Progress NoMemory) → IsGood b → DoFit (apply (value b) (app f xs)) (apply (value b) (app f ys))
    → count xs ≡ count ys → SolveAnswers b c xs ys r → One b c (app f xs) (app f ys) r
opened b c f xs ys (Ok Solved) g fit e h = record { runs = λ vs ws o r. open_equation b f xs ys vs ws o g.settled fit e (h.runs vs ws o r); grown = h.grown; good = h.good }
opened b c f xs ys (Ok Clash) g fit e h = λ vs ws. open_equation b f xs ys vs ws clash g.settled fit e (h vs ws)
opened b c f xs ys (Ok TooLarge) g fit e h = λ vs ws. open_equation b f xs ys vs ws too_large g.settled fit e (h vs ws)
opened b c f xs ys (Err n) g fit e h = tt

-- sides that are the same under the bindings
abbrev Alike : List Binding → Term → Term → Type 0
Alike b t u = apply (value b) t ≡ apply (value b) u

alike_front : (b : List Binding) (t u : Term) (vs : Terms) → Alike b t u → apply_all (value b) (cons t vs) ≡ apply_all (value b) (cons u vs)
alike_front b t u vs e = ap (λ z. cons z (apply_all (value b) vs)) e

pub seen_as : (b c : List Binding) (l r t u : Term) (x : Result Progress NoMemory) → Alike b l t → Alike b r u → One b c l r x → One b c t u x
seen_as b c l r t u (Ok Solved) e h k = record {
  runs = λ vs ws o q. Runs-agree (k.runs vs ws o q) (cons t vs) (cons u ws) (alike_front b l t vs e) (alike_front b r u ws h);
  grown = k.grown;
  good = k.good;
}
seen_as b c l r t u (Ok Clash) e h k = λ vs ws. Runs-agree (k vs ws) (cons t vs) (cons u ws) (alike_front b l t vs e) (alike_front b r u ws h)
seen_as b c l r t u (Ok TooLarge) e h k = λ vs ws. Runs-agree (k vs ws) (cons t vs) (cons u ws) (alike_front b l t vs e) (alike_front b r u ws h)
seen_as b c l r t u (Err n) e h k = tt

-- an equation that binds
pub bound : (b c : List Binding) (t u : Term) (x : ℕ) (v : Term) (r : Result Progress NoMemory) → IsGood b → DoFit (apply (value b) t) (apply (value b) u) → apply (value b) t ≢ apply (value b) u
    → Binds (apply (value b) t) (apply (value b) u) x v → BindAnswers b c x v r → One b c t u r
bound b c t u x v (Ok Solved) g fit n h (o, e, f) =
    let k : Takes b (apply (value b) t) (apply (value b) u) (goes_on c nil nil) = binding fit n x v h o c e f in
    record {
      runs = λ vs ws p r. next_equation k r;
      grown = inr (subst (λ z. length b < length z) (sym e) (let h = length_extended b x v in omega (arith, h)));
      good = record { settled = takes_settled b c _ _ nil nil k (settled_fixed b g.settled t) (settled_fixed b g.settled u) g.settled; fit = f };
    }
bound b c t u x v (Ok Clash) g fit n h o = λ vs ws. last_equation (occurs_inside fit n x v h o)
bound b c t u x v (Ok TooLarge) g fit n h (o, f) = λ vs ws. last_equation (binding_too_large fit n x v h o f)
bound b c t u x v (Err k) g fit n h o = tt

binds_left : (l r : Term) (x : ℕ) → l ≡ var x → Binds l r x r
binds_left l r x e = subst (λ z. Binds z r x r) (sym e) (refl, refl)

binds_right : (f : ℕ) (ts : Terms) (r : Term) (x : ℕ) → r ≡ var x → Binds (app f ts) r x (app f ts)
binds_right f ts r x e = subst (λ z. Binds (app f ts) z x (app f ts)) (sym e) (refl, refl)

pub bound_left : (b c : List Binding) (x : ℕ) (u : Term) (r : Result Progress NoMemory) → IsGood b → value b x ≡ var x → DoFit (value b x) (apply (value b) u) → apply (value b) u ≢ var x
    → BindAnswers b c x (apply (value b) u) r → One b c (var x) u r
bound_left b c x u r g free fit n h = bound b c (var x) u x (apply (value b) u) r g fit (λ e. n (sym e ∙ free)) (binds_left (value b x) (apply (value b) u) x free) h

pub bound_right : (b c : List Binding) (f : ℕ) (ts : Terms) (x : ℕ) (r : Result Progress NoMemory) → IsGood b → value b x ≡ var x → DoFit (apply (value b) (app f ts)) (value b x)
    → BindAnswers b c x (apply (value b) (app f ts)) r → One b c (app f ts) (var x) r
bound_right b c f ts x r g free fit h =
    bound b c (app f ts) (var x) x (apply (value b) (app f ts)) r g fit (λ e. let k : app f (apply_all (value b) ts) ≡ var x = e ∙ free in cc)
    (binds_right f (apply_all (value b) ts) (value b x) x free) h

-- the equations rs = qs remain of ts = us
pub record Remain (b c : List Binding) (ts us rs qs : Terms) : Type 0 where
  pub runs : (vs ws : Terms) (o : Outcome) → Runs c (append rs vs) (append qs ws) o → Runs b (append ts vs) (append us ws) o
  pub grown : (c ≡ b) ⊎ (length b < length c)
  pub good : IsGood c

pub remain_end : (b c d : List Binding) (ts us rs qs : Terms) (r q : Term) (p : Progress) → Remain b c ts us (cons r rs) (cons q qs) → (p ≡ Solved → ⊥)
    → SolveAnswers c d (cons r nil) (cons q nil) (Ok p) → SolveAnswers b d ts us (Ok p)
remain_end b c d ts us rs qs r q Solved h n k = absurd (n refl)
remain_end b c d ts us rs qs r q Clash h n k = λ vs ws. h.runs vs ws clash (k (append rs vs) (append qs ws))
remain_end b c d ts us rs qs r q TooLarge h n k = λ vs ws. h.runs vs ws too_large (k (append rs vs) (append qs ws))

pub remain_next : (b c d : List Binding) (ts us rs qs : Terms) (r q : Term) (p : Progress) → p ≡ Solved → Remain b c ts us (cons r rs) (cons q qs)
    → SolveAnswers c d (cons r nil) (cons q nil) (Ok p) → Remain b d ts us rs qs
remain_next b c d ts us rs qs r q p e h k = next (subst (λ z. SolveAnswers c d (cons r nil) (cons q nil) (Ok z)) e k)
  where
    longer : (c ≡ b) ⊎ (length b < length c) → (d ≡ c) ⊎ (length c < length d) → (d ≡ b) ⊎ (length b < length d)
    longer (inl f) (inl g) = inl (g ∙ f)
    longer (inl f) (inr g) = inr (subst (λ z. length z < length d) f g)
    longer (inr f) (inl g) = inr (subst (λ z. length b < length z) (sym g) f)
    longer (inr f) (inr g) = inr (omega (arith, f, g))

    next : AreSolved c d (cons r nil) (cons q nil) → Remain b d ts us rs qs
    next k = record { runs = λ vs ws o run. h.runs vs ws o (k.runs (append rs vs) (append qs ws) o run); grown = longer h.grown k.grown; good = k.good }
