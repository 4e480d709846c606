-- Bound variables as the program has them.
use Rattle.std.proofs.Common.{ℕ, zero, suc, ◌≡◌, false, ◌+◌, ◌-◌, ◌<◌, ◌≤◌, List, [], ◌∷◌, ◌++◌, map, length, take, drop, get_or, sym, ap, ap₂, ◌∙◌, subst, subst₂, arith, add-one}
use Rattle.std.proofs.lemmas.List.{drop_all, drop_more, length-map, map-append}
use Rattle.std.specs.FinMap.{insert, empty}
use Rattle.rewriting.specs.Terms as math
use Rattle.rewriting.specs.Prelude.{var, Fits, Substitution, apply, occurs}
use Rattle.unifier_run.specs.Run.{Binding, value, extended, DoAllFit}
use Rattle.unifier_run.specs.Laws.{as_map}
use Rattle.unifier_run.proofs.General.{IsSettled, settled_empty}
use Rattle.term_core.specs.View.{view}
use Rattle.unification.specs.declared.bound.Bound.{Bound}
use Rattle.unification.specs.Solving.{IsHead, bound_in_turn, MayBind, MayBindInTurn, shared, bindings, AreInTurn, IsNewTo}
use Rattle.unification.proofs.Turns.{added, all_closed, closed, stands_for, in_turn_absorbs, added_settled, head_of_bound, head_of_other, length_extended, length_in_turn}
use Rattle.unification.proofs.Turns.{in_turn-append, may_bind-append}

pub length_bindings : (es : List Bound) → length (bindings es) ≡ length es
length_bindings es = let h = length_in_turn [] (map shared es) in let k = length-map es shared in omega (arith, h, k)

-- a bound variable stands for the instance of its term
stands_from : (b : List Binding) (es : List Bound) (i : ℕ) (e : Bound) → IsSettled b → MayBindInTurn b (map shared es) → i < length es → e ≡ get_or es i e
    → value (bound_in_turn b (map shared es)) e.variable ≡ apply (value (bound_in_turn b (map shared es))) (view e.term.now)
stands_from b [] i e settled may lt is = absurd (omega arith)
stands_from b (d ∷ es) zero e settled (m, may) lt is =
    let s : Substitution = value (bound_in_turn (added b (shared d)) (map shared es)) in
    subst (λ z. s z.variable ≡ apply s (view z.term.now)) (sym is) (stands_for b (shared d) m s (in_turn_absorbs (added b (shared d)) (map shared es) (added_settled b (shared d) m settled) may))
stands_from b (d ∷ es) (suc i) e settled (m, may) lt is = stands_from (added b (shared d)) es i e (added_settled b (shared d) m settled) may (omega arith) is

pub stands : (es : List Bound) (i : ℕ) (e : Bound) → AreInTurn es → i < length es → e ≡ get_or es i e → value (bindings es) e.variable ≡ apply (value (bindings es)) (view e.term.now)
stands es i e may lt is = stands_from [] es i e settled_empty may lt is

pub follows : (es : List Bound) (i : ℕ) (e : Bound) (h t : math.Term) → AreInTurn es → i < length es → e ≡ get_or es i e → h ≡ var e.variable
    → apply (value (bindings es)) h ≡ apply (value (bindings es)) t
    → apply (value (bindings es)) (view e.term.now) ≡ apply (value (bindings es)) t
follows es i e h t may lt is variable same = sym (stands es i e may lt is) ∙ (sym (ap (apply (value (bindings es))) variable) ∙ same)

-- the variables before a place, and the one there
split_from : (b : List Binding) (es : List Bound) (i : ℕ) (e : Bound) → MayBindInTurn b (map shared es) → i < length es → e ≡ get_or es i e
    → MayBind (bound_in_turn b (map shared (take i es))) (shared e) × (bound_in_turn b (map shared (take (suc i) es)) ≡ added (bound_in_turn b (map shared (take i es))) (shared e))
split_from b [] i e may lt is = absurd (omega arith)
split_from b (d ∷ es) zero e (m, may) lt is = (subst (λ z. MayBind b (shared z)) (sym is) m, ap (λ z. added b (shared z)) (sym is))
split_from b (d ∷ es) (suc i) e (m, may) lt is = split_from (added b (shared d)) es i e may (omega arith) is

pub next_head_bound : (es : List Bound) (i : ℕ) (e : Bound) → AreInTurn es → i < length es → e ≡ get_or es i e → IsHead (bindings (take (i + 1) es)) (view e.term.now)
next_head_bound es i e may lt is = rw add-one (let k = split_from [] es i e may lt is in subst (λ z. IsHead z (view e.term.now)) (sym k.1) (head_of_bound _ (shared e) k.0))

pub next_head_other : (es : List Bound) (i : ℕ) (e : Bound) (t : math.Term) → AreInTurn es → i < length es → e ≡ get_or es i e → IsHead (bindings (take i es)) t
    → (t ≡ var e.variable → ⊥) → IsHead (bindings (take (i + 1) es)) t
next_head_other es i e t may lt is h n = rw add-one (let k = split_from [] es i e may lt is in subst (λ z. IsHead z t) (sym k.1) (head_of_other _ (shared e) t h n))

-- what the variable at a place is bound to
pub term_at : (es : List Bound) (i : ℕ) (e : Bound) (d : Binding) → AreInTurn es → i < length es → e ≡ get_or es i e → get_or (bindings es) i d ≡ closed (value (bindings es)) (shared e)
term_at es i e d may lt is = ap (λ z. get_or z i d) (all_closed (map shared es) may) ∙ at (value (bindings es)) es i e lt is
  where
    at : (s : Substitution) (es : List Bound) (i : ℕ) (e : Bound) → i < length es → e ≡ get_or es i e → get_or (map (closed s) (map shared es)) i d ≡ closed s (shared e)
    at s [] i e lt is = absurd (omega arith)
    at s (d ∷ es) zero e lt is = ap (λ z. closed s (shared z)) (sym is)
    at s (d ∷ es) (suc i) e lt is = at s es i e (omega arith) is

-- one more variable
pub bindings-push : (es : List Bound) (e : Bound) → bindings (es ++ e ∷ []) ≡ added (bindings es) (shared e)
bindings-push es e = ap (bound_in_turn []) (map-append shared es (e ∷ [])) ∙ in_turn-append [] (map shared es) (shared e)

pub in_turn-push : (es : List Bound) (e : Bound) → AreInTurn es → MayBind (bindings es) (shared e) → AreInTurn (es ++ e ∷ [])
in_turn-push es e may m = subst (MayBindInTurn []) (sym (map-append shared es (e ∷ []))) (may_bind-append [] (map shared es) (shared e) may m)

-- the first of some bound terms fit
fit_more : (b : List Binding) (i : ℕ) (e : Binding) → i < length b → DoAllFit (take i b) → Fits (get_or b i e).term → DoAllFit (take (suc i) b)
fit_more [] i e lt h f = absurd (omega arith)
fit_more (d ∷ b) zero e lt h f = (f, tt)
fit_more (d ∷ b) (suc i) e lt h f = (h.0, fit_more b i e (omega arith) h.1 f)

fit_there : (b : List Binding) (i n : ℕ) (e : Binding) → i < n → i < length b → DoAllFit (take n b) → Fits (get_or b i e).term
fit_there b i zero e below lt h = absurd (omega arith)
fit_there [] i (suc n) e below lt h = absurd (omega arith)
fit_there (d ∷ b) zero (suc n) e below lt h = h.0
fit_there (d ∷ b) (suc i) (suc n) e below lt h = fit_there b i n e (omega arith) (omega arith) h.1

pub next_fits : (es : List Bound) (i : ℕ) (e : Bound) → AreInTurn es → i < length es → e ≡ get_or es i e → DoAllFit (take i (bindings es))
    → Fits (apply (value (bindings es)) (view e.term.now)) → DoAllFit (take (i + 1) (bindings es))
next_fits es i e may lt is h f =
    rw add-one (fit_more (bindings es) i (shared e) (subst (λ n. i < n) (sym (length_bindings es)) lt) h (subst (λ z. Fits z.term) (sym (term_at es i e (shared e) may lt is)) f))

pub one_fits : (es : List Bound) (i n : ℕ) (e : Bound) → AreInTurn es → i < length es → e ≡ get_or es i e → i < n → DoAllFit (take n (bindings es))
    → Fits (apply (value (bindings es)) (view e.term.now))
one_fits es i n e may lt is below h = subst (λ z. Fits z.term) (term_at es i e (shared e) may lt is) (fit_there (bindings es) i n (shared e) below (subst (λ n. i < n) (sym (length_bindings es)) lt) h)

-- the substitution of the bindings from a place on
pub no_map : (es : List Bound) → as_map (drop (length es - 0) (bindings es)) ≡ empty
no_map es = ap as_map (drop_all (length es - 0) (bindings es) (let h = length_bindings es in omega (arith, h)))

pub next_map : (es : List Bound) (i k : ℕ) (e : Bound) (t : math.Term) → AreInTurn es → i < length es → k + 1 ≡ length es - i → e ≡ get_or es k e → t ≡ apply (value (bindings es)) (view e.term.now)
    → insert (as_map (drop (length es - i) (bindings es))) e.variable t ≡ as_map (drop (length es - (i + 1)) (bindings es))
next_map es i k e t may lt before is same =
    let b = bindings es in
    let there : k < length es = omega (arith, before) in
    let within : k < length b = (let h = length_bindings es in omega (arith, h, there)) in
    let from : length es - (i + 1) ≡ k = omega (arith, before) in
    ap₂ (λ z n. as_map ((record { variable = e.variable; term = z }) ∷ drop n b)) same (sym before)
    ∙ (ap (λ z. as_map (z ∷ drop (k + 1) b)) (sym (term_at es k e (shared e) may there is)) ∙ (ap as_map (sym (drop_more b k (shared e) within)) ∙ ap (λ n. as_map (drop n b)) (sym from)))

pub first_fit : (b : List Binding) (n : ℕ) → DoAllFit b → DoAllFit (take n b)
first_fit [] zero h = tt
first_fit [] (suc n) h = tt
first_fit (e ∷ b) zero h = tt
first_fit (e ∷ b) (suc n) h = (h.0, first_fit b n h.1)

-- all bound terms fit where the earlier ones and the new one do
pub all_fit : (b c : List Binding) (n x : ℕ) (v : math.Term) → c ≡ extended b x v → n ≡ length b → DoAllFit (take n c) → Fits v → DoAllFit c
all_fit b c n x v e k h f = subst DoAllFit (sym e) (whole b (subst₂ (λ m z. DoAllFit (take m z)) k e h))
  where
    whole : (b : List Binding) → DoAllFit (take (length b) (extended b x v)) → DoAllFit (extended b x v)
    whole [] h = (f, tt)
    whole (e ∷ b) h = (h.0, whole b h.1)

pub grows : (es fs : List Bound) (x : ℕ) (v : math.Term) → bindings fs ≡ extended (bindings es) x v → length es ≤ length fs
grows es fs x v e =
    let h : length (bindings fs) ≡ suc (length (bindings es)) = ap length e ∙ length_extended (bindings es) x v in
    let k = length_bindings es in
    let g = length_bindings fs in
    omega (arith, h, k, g)

-- a variable that is new to those before a place, and to the one there
pub next_new : (x : ℕ) (es : List Bound) (i : ℕ) (e : Bound) → i < length es → e ≡ get_or es i e → IsNewTo x (map shared (take i es)) → occurs x (view e.term.now) ≡ false
    → IsNewTo x (map shared (take (i + 1) es))
next_new x es i e lt is new apart = rw add-one (go es i lt is new)
  where
    go : (es : List Bound) (i : ℕ) → i < length es → e ≡ get_or es i e → IsNewTo x (map shared (take i es)) → IsNewTo x (map shared (take (suc i) es))
    go [] i lt is new = absurd (omega arith)
    go (d ∷ es) zero lt is new = (subst (λ z. occurs x (view z.term.now) ≡ false) is apart, tt)
    go (d ∷ es) (suc i) lt is new = (new.0, go es i (omega arith) is new.1)
