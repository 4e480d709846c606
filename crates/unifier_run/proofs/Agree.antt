-- A run sees of its equations only what they are under the bindings.
use Rattle.std.proofs.Common.{ℕ, ◌≡◌, ◌⊎◌, inl, inr, refl, sym, ap, ◌∙◌, subst, subst₂, List}
use Rattle.rewriting.specs.Prelude.{Term, Terms, nil, cons, apply, apply_all, replacing, append}
use Rattle.unifier_run.specs.Run.{Binding, value, extended, Outcome, ends, goes_on, Takes, equal_sides, binding, arguments, Runs, no_equation, last_equation, next_equation}
use Rattle.unifier_run.proofs.Values.{apply_all-extended}
use Rattle.unifier_run.proofs.Lists.{apply_all-append}

-- the bindings stay, or one is added
abbrev pub IsLater : List Binding → List Binding → Type 0
IsLater b c = (c ≡ b) ⊎ ((x : ℕ) × (v : Term) × (c ≡ extended b x v))

pub later : (b c : List Binding) (l r : Term) (xs ys : Terms) → Takes b l r (goes_on c xs ys) → IsLater b c
later b c l r xs ys (equal_sides f e) = inl refl
later b c l r xs ys (binding f n x v h o d e a) = inr (x, v, e)
later b c l r xs ys (arguments f n us vs h) = inl refl

pub agree_later : (b c : List Binding) (ts us : Terms) → IsLater b c → apply_all (value b) ts ≡ apply_all (value b) us → apply_all (value c) ts ≡ apply_all (value c) us
agree_later b c ts us (inl e) h = subst (λ z. apply_all (value z) ts ≡ apply_all (value z) us) (sym e) h
agree_later b c ts us (inr (x, v, e)) h =
    subst (λ z. apply_all (value z) ts ≡ apply_all (value z) us) (sym e)
    (apply_all-extended b x v ts ∙ (ap (apply_all (replacing x v)) h ∙ sym (apply_all-extended b x v us)))

pub head_of : (t u : Term) (ts us : Terms) → cons t ts ≡ cons u us → t ≡ u
head_of t u ts us e = cc

pub tail_of : (t u : Term) (ts us : Terms) → cons t ts ≡ cons u us → ts ≡ us
tail_of t u ts us e = cc

behind : (c : List Binding) (xs ts us : Terms) → apply_all (value c) ts ≡ apply_all (value c) us → apply_all (value c) (append xs ts) ≡ apply_all (value c) (append xs us)
behind c xs ts us e = apply_all-append (value c) xs ts ∙ (ap (append (apply_all (value c) xs)) e ∙ sym (apply_all-append (value c) xs us))

pub Runs-agree : {b : List Binding} {ts us : Terms} {o : Outcome} → Runs b ts us o → (vs ws : Terms) → apply_all (value b) ts ≡ apply_all (value b) vs
    → apply_all (value b) us ≡ apply_all (value b) ws → Runs b vs ws o
Runs-agree no_equation nil nil e h = no_equation
Runs-agree no_equation nil (cons w ws) e h = absurd (cc)
Runs-agree no_equation (cons v vs) ws e h = absurd (cc)
Runs-agree (last_equation k) nil ws e h = absurd (cc)
Runs-agree (last_equation k) (cons v vs) nil e h = absurd (cc)
Runs-agree (last_equation {b = b} {t = t} {u = u} {ts = ts} {us = us} {o = o} k) (cons v vs) (cons w ws) e h =
    last_equation (subst₂ (λ l r. Takes b l r (ends o)) (head_of _ _ _ _ e) (head_of _ _ _ _ h) k)
Runs-agree (next_equation k r) nil ws e h = absurd (cc)
Runs-agree (next_equation k r) (cons v vs) nil e h = absurd (cc)
Runs-agree (next_equation {b = b} {c = c} {t = t} {u = u} {ts = ts} {us = us} {xs = xs} {ys = ys} {o = o} k r) (cons v vs) (cons w ws) e h =
    let on = later b c (apply (value b) t) (apply (value b) u) xs ys k in
    next_equation
    (subst₂ (λ l r. Takes b l r (goes_on c xs ys)) (head_of _ _ _ _ e) (head_of _ _ _ _ h) k)
    (Runs-agree r (append xs vs) (append ys ws) (behind c xs ts vs (agree_later b c ts vs on (tail_of _ _ _ _ e))) (behind c ys us ws (agree_later b c us ws on (tail_of _ _ _ _ h))))
