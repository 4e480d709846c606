-- Least matches: that of a variable, and where their values are from: what was there and the pattern's variables.
use Rattle.std.proofs.Common.{◌≡◌, ℕ, ◌⊎◌, inl, inr, Bool, true, false, ◌||◌, cond, Option, Some, None, is_some, nat_cmp, refl, sym, ap, ◌∙◌, eq-eqb}
use Rattle.std.proofs.lemmas.Bool.{or_left, or_right}
use Rattle.std.specs.Ordering.{eq_by_cmp}
use Rattle.std.specs.Cmp.{nat_cmp_total}
use Rattle.std.specs.FinMap.{get, insert, get-insert, retain_keys, get-retain_keys, nat_cmp-IsAntisymmetric}
use Rattle.rewriting.specs.Terms.{Term, Terms, var, app, nil, cons}
use Rattle.rewriting.specs.Substitutions.{Bindings}
use Rattle.rewriting.specs.Variables.{occurs, occurs_in}
use Rattle.rewriting.specs.Matching.{Extends, Solves, SolvesAll, IsLeastMatch}
use Rattle.rewriting.proofs.Finite.{key_is, same_key}
use Rattle.rewriting.proofs.Instances.{or_cases}

mutual
  pub Solves-extends : (b c : Bindings) (p s : Term) → Extends b c → Solves b p s → Solves c p s
  Solves-extends b c (var x) s e h = e x s h
  Solves-extends b c (app f ps) (var y) e h = absurd h
  Solves-extends b c (app f ps) (app g ss) e h = (h.0, SolvesAll-extends b c ps ss e h.1)

  pub SolvesAll-extends : (b c : Bindings) (ps ss : Terms) → Extends b c → SolvesAll b ps ss → SolvesAll c ps ss
  SolvesAll-extends b c nil nil e h = tt
  SolvesAll-extends b c nil (cons s ss) e h = absurd h
  SolvesAll-extends b c (cons p ps) nil e h = absurd h
  SolvesAll-extends b c (cons p ps) (cons s ss) e h = (Solves-extends b c p s e h.0, SolvesAll-extends b c ps ss e h.1)

pub bound_least : (b : Bindings) (x : ℕ) (s : Term) → get b x ≡ None → IsLeastMatch b (insert b x s) (var x) s
bound_least b x s free = record {
  extends = λ y t h. get-insert nat_cmp_total b x s y ∙ other y t h _ refl;
  solves = get-insert nat_cmp_total b x s x ∙ ap (λ c. cond c (Some s) (get b x)) (same_key x x refl);
  least = λ d f k y t h. from d f k y t _ refl (sym (get-insert nat_cmp_total b x s y) ∙ h);
}
  where
    other : (y : ℕ) (t : Term) → get b y ≡ Some t → (c : Bool) → eq_by_cmp nat_cmp y x ≡ c → cond c (Some s) (get b y) ≡ Some t
    other y t h true e = (let same : y ≡ x = key_is y x true e refl in let gone : get b y ≡ None = ap (get b) same ∙ free in cc)
    other y t h false e = h

    from : (d : Bindings) → Extends b d → get d x ≡ Some s → (y : ℕ) (t : Term) (c : Bool) → eq_by_cmp nat_cmp y x ≡ c → cond c (Some s) (get b y) ≡ Some t → get d y ≡ Some t
    from d f k y t true e h = (let same : y ≡ x = key_is y x true e refl in ap (get d) same ∙ k ∙ h)
    from d f k y t false e h = f y t h

-- whether the least match needs a variable: it is there beforehand, or occurs in the pattern
abbrev is_needed : Bindings → Term → ℕ → Bool
is_needed b p x = is_some (get b x) || occurs x p

abbrev needed : Bindings → Bindings → Term → Bindings
needed b c p = retain_keys c (is_needed b p)

get-needed : (b c : Bindings) (p : Term) (x : ℕ) → get (needed b c p) x ≡ cond (is_needed b p x) (get c x) None
get-needed b c p x = get-retain_keys c (is_needed b p) x (λ y e. ap (is_needed b p) (sym (nat_cmp-IsAntisymmetric x y e)))

kept : (b c : Bindings) (p : Term) (x : ℕ) (t : Term) → is_needed b p x ≡ true → get c x ≡ Some t → get (needed b c p) x ≡ Some t
kept b c p x t n e = get-needed b c p x ∙ ap (λ q. cond q (get c x) None) n ∙ e

mutual
  kept_solves : (c d : Bindings) (p s : Term) → ((x : ℕ) (t : Term) → occurs x p ≡ true → get c x ≡ Some t → get d x ≡ Some t) → Solves c p s → Solves d p s
  kept_solves c d (var x) s h e = h x s (eq-eqb x x refl) e
  kept_solves c d (app f ps) (var y) h e = absurd e
  kept_solves c d (app f ps) (app g ss) h (e, es) = (e, kept_solves_all c d ps ss h es)

  kept_solves_all : (c d : Bindings) (ps ss : Terms) → ((x : ℕ) (t : Term) → occurs_in x ps ≡ true → get c x ≡ Some t → get d x ≡ Some t) → SolvesAll c ps ss → SolvesAll d ps ss
  kept_solves_all c d nil nil h e = tt
  kept_solves_all c d nil (cons s ss) h e = absurd e
  kept_solves_all c d (cons p ps) nil h e = absurd e
  kept_solves_all c d (cons p ps) (cons s ss) h (e, es) =
      (kept_solves c d p s (λ x t o. h x t (or_left _ _ o)) e, kept_solves_all c d ps ss (λ x t o. h x t (or_right _ _ o)) es)

was_there : (b : Bindings) (x : ℕ) (t : Term) → get b x ≡ Some t → is_some (get b x) ≡ true
was_there b x t e = ap is_some e

chosen : (q : Bool) (o : Option Term) (t : Term) → cond q o None ≡ Some t → q ≡ true
chosen true o t e = refl
chosen false o t e = cc

-- a value of the least match was there beforehand, or its variable occurs in the pattern
pub least_needs : (b c : Bindings) (p s : Term) → IsLeastMatch b c p s → (x : ℕ) (t : Term) → get c x ≡ Some t → (get b x ≡ Some t) ⊎ (occurs x p ≡ true)
least_needs b c p s m x t e =
    let d = needed b c p in
    let extends : Extends b d = λ y u h. kept b c p y u (or_left _ _ (was_there b y u h)) (m.extends y u h) in
    let solves : Solves d p s = kept_solves c d p s (λ y u o h. kept b c p y u (or_right _ _ o) h) m.solves in
    let in_d = m.least d extends solves x t e in
    let yes = chosen (is_needed b p x) (get c x) t (sym (get-needed b c p x) ∙ in_d) in
    or_cases (is_some (get b x)) (occurs x p) yes (λ l. inl (before (get b x) refl l)) (λ r. inr r)
  where
    before : (o : Option Term) → get b x ≡ o → is_some (get b x) ≡ true → get b x ≡ Some t
    before None q l = (let none : is_some (get b x) ≡ false = ap is_some q in cc)
    before (Some u) q l = (let there : get c x ≡ Some u = m.extends x u q in q ∙ sym there ∙ e)
