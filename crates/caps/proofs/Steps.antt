-- What caps have as instances, steps keep.
use Rattle.std.proofs.Common.{ℕ, zero, suc, ◌≡◌, inl, inr, true, refl, sym, ap, ◌∙◌, subst, eq-eqb}
use Rattle.std.proofs.lemmas.Bool.{or_left, or_right}
use Rattle.rewriting.specs.Prelude.{Term, var, app, Terms, nil, cons, Substitution, apply, apply_all, compose, occurs, occurs_in, even, odd, Rule, System, Relation, Star, done, more}
use Rattle.rewriting.specs.Prelude.{Rewrites}
use Rattle.rewriting.proofs.Instances.{apply-apply, inj_app}
use Rattle.rewriting.proofs.Unifiers.{both, apply-even, apply-odd}
use Rattle.rewriting.proofs.Opened.{Open, OpenAny, opened}
use Rattle.rewriting.proofs.Levels.{IsRuleOf, Contracts, level, level_of_step}
use Rattle.unifier_run.specs.Irreducible.{DoRulesClash}
use Rattle.unifier_run.proofs.General.{no_unifier}
use Rattle.caps.specs.Caps.{Cap, hole, kept, node, Caps, no_caps, caps, past, constants, frozen_from, frozen, IsTop, IsCapOf, AreCapsOf}
use Rattle.caps.proofs.Instances.{IsInstance, AreInstances, filling, Keeps, KeepAll, keeps_any, apply-filled}

-- an instance as a term without variables: what a filling followed by constants makes of the frozen cap
pub record Freezing (base : ℕ) (c : Cap) (w : Term) : Type 0 where
  pub by : Substitution
  pub freezes : apply by (frozen_from base c) ≡ apply (constants base) w

pub freezing : (base : ℕ) (c : Cap) (w : Term) → IsInstance c w → Freezing base c w
freezing base c w h =
    let f = filling 0 c w h in
    let k = constants base in
    record { by = compose f.by k; freezes = apply-filled k k f.by (compose f.by k) (λ x. Unit {0}) (λ x p. refl) (λ x. refl) 0 c w (keeps_any c) f.fills }

-- no instance of a left side is an instance of the cap
abbrev pub HasNoRedex : System → Cap → Type 0
HasNoRedex sys c = (q : Rule) (s : Substitution) → IsRuleOf sys q → IsInstance c (apply s q.left) → ⊥

no_redex : (sys : System) (c : Cap) → DoRulesClash sys (frozen sys c) → HasNoRedex sys c
no_redex sys c clashes q s is h =
    let k = constants (past sys c) in
    let f = freezing (past sys c) c (apply s q.left) h in
    no_unifier (cons (apply even q.left) nil) (cons (apply odd (frozen sys c)) nil) (clashes is.0 q is.1) (both (compose s k) f.by)
    (ap (λ z. cons z nil) (apply-even (compose s k) f.by q.left ∙ (sym (apply-apply s k q.left) ∙ (sym f.freezes ∙ sym (apply-odd (compose s k) f.by (frozen sys c))))))

-- at every node, and every variable that stays
abbrev mutual
  pub IsSafe : System → Cap → Type 0
  IsSafe sys hole = Unit {0}
  IsSafe sys (kept x) = HasNoRedex sys (kept x)
  IsSafe sys (node f cs) = HasNoRedex sys (node f cs) × AreSafe sys cs

  pub AreSafe : System → Caps → Type 0
  AreSafe sys no_caps = Unit {0}
  AreSafe sys (caps c cs) = IsSafe sys c × AreSafe sys cs

top_safe : (sys : System) (f : ℕ) (cs : Caps) (c : Cap) → AreSafe sys cs → IsTop sys (node f cs) c → IsSafe sys c
top_safe sys f cs c safe (inl (clashes, e)) = subst (IsSafe sys) (sym e) (no_redex sys (node f cs) clashes, safe)
top_safe sys f cs c safe (inr (first, e)) = subst (IsSafe sys) (sym e) tt

mutual
  pub cap_safe : (sys : System) (leaf : ℕ → Cap) → ((x : ℕ) → IsSafe sys (leaf x)) → (t : Term) (c : Cap) → IsCapOf sys leaf t c → IsSafe sys c
  cap_safe sys leaf at (var x) c h = subst (IsSafe sys) (sym h) (at x)
  cap_safe sys leaf at (app f ts) c (cs, hs, h) = top_safe sys f cs c (caps_safe sys leaf at ts cs hs) h

  pub caps_safe : (sys : System) (leaf : ℕ → Cap) → ((x : ℕ) → IsSafe sys (leaf x)) → (ts : Terms) (cs : Caps) → AreCapsOf sys leaf ts cs → AreSafe sys cs
  caps_safe sys leaf at nil cs h = subst (AreSafe sys) (sym h) tt
  caps_safe sys leaf at (cons t ts) cs (d, ds, e, h, hs) = subst (AreSafe sys) (sym e) (cap_safe sys leaf at t d h, caps_safe sys leaf at ts ds hs)

-- a term's instance is one of its cap
top_instance : (sys : System) (a c : Cap) (w : Term) → IsInstance a w → IsTop sys a c → IsInstance c w
top_instance sys a c w h (inl (clashes, e)) = subst (λ z. IsInstance z w) (sym e) h
top_instance sys a c w h (inr (first, e)) = subst (λ z. IsInstance z w) (sym e) tt

mutual
  pub cap_instance : (sys : System) (leaf : ℕ → Cap) (s : Substitution) → ((x : ℕ) → IsInstance (leaf x) (s x)) → (t : Term) (c : Cap) → IsCapOf sys leaf t c → IsInstance c (apply s t)
  cap_instance sys leaf s at (var x) c h = subst (λ z. IsInstance z (s x)) (sym h) (at x)
  cap_instance sys leaf s at (app f ts) c (cs, hs, h) = top_instance sys (node f cs) c (apply s (app f ts)) (apply_all s ts, refl, caps_instances sys leaf s at ts cs hs) h

  pub caps_instances : (sys : System) (leaf : ℕ → Cap) (s : Substitution) → ((x : ℕ) → IsInstance (leaf x) (s x)) → (ts : Terms) (cs : Caps) → AreCapsOf sys leaf ts cs
      → AreInstances cs (apply_all s ts)
  caps_instances sys leaf s at nil cs h = subst (λ z. AreInstances z nil) (sym h) refl
  caps_instances sys leaf s at (cons t ts) cs (d, ds, e, h, hs) =
      subst (λ z. AreInstances z (cons (apply s t) (apply_all s ts))) (sym e) (apply s t, apply_all s ts, refl, cap_instance sys leaf s at t d h, caps_instances sys leaf s at ts ds hs)

-- variables that stay in the cap have what the leaves of the term have
top_keeps : (sys : System) (P : ℕ → Type 0) (a c : Cap) → Keeps P a → IsTop sys a c → Keeps P c
top_keeps sys P a c h (inl (clashes, e)) = subst (Keeps P) (sym e) h
top_keeps sys P a c h (inr (first, e)) = subst (Keeps P) (sym e) tt

mutual
  pub cap_keeps : (sys : System) (leaf : ℕ → Cap) (P : ℕ → Type 0) (t : Term) (c : Cap) → ((x : ℕ) → occurs x t ≡ true → Keeps P (leaf x)) → IsCapOf sys leaf t c → Keeps P c
  cap_keeps sys leaf P (var x) c at h = subst (Keeps P) (sym h) (at x (eq-eqb x x refl))
  cap_keeps sys leaf P (app f ts) c at (cs, hs, h) = top_keeps sys P (node f cs) c (caps_keep sys leaf P ts cs at hs) h

  pub caps_keep : (sys : System) (leaf : ℕ → Cap) (P : ℕ → Type 0) (ts : Terms) (cs : Caps) → ((x : ℕ) → occurs_in x ts ≡ true → Keeps P (leaf x)) → AreCapsOf sys leaf ts cs → KeepAll P cs
  caps_keep sys leaf P nil cs at h = subst (KeepAll P) (sym h) tt
  caps_keep sys leaf P (cons t ts) cs at (d, ds, e, h, hs) =
      subst (KeepAll P) (sym e) (cap_keeps sys leaf P t d (λ x o. at x (or_left _ _ o)) h, caps_keep sys leaf P ts ds (λ x o. at x (or_right _ _ o)) hs)

-- steps
inj_cons : (t u : Term) (ts us : Terms) → cons t ts ≡ cons u us → (t ≡ u) × (ts ≡ us)
inj_cons t u ts us e = (cc, cc)

no_contraction : (sys : System) (S : Relation Term) (c : Cap) (w v : Term) → HasNoRedex sys c → IsInstance c w → Contracts sys S w v → ⊥
no_contraction sys S c w v none h k = none k.rule k.by k.is_rule (subst (IsInstance c) k.left h)

variable_stays : (sys : System) (S : Relation Term) (x : ℕ) (w v : Term) → HasNoRedex sys (kept x) → w ≡ var x → Open (Contracts sys S) w v → ⊥
variable_stays sys S x (var y) v safe e h = no_contraction sys S (kept x) (var y) v safe e h
variable_stays sys S x (app g us) v safe e h = cc

mutual
  keeps_instance : (sys : System) (S : Relation Term) (c : Cap) → IsSafe sys c → (w v : Term) → IsInstance c w → Open (Contracts sys S) w v → IsInstance c v
  keeps_instance sys S hole safe w v h k = tt
  keeps_instance sys S (kept x) safe w v h k = absurd (variable_stays sys S x w v safe h k)
  keeps_instance sys S (node f cs) safe (var x) v (ws, e, h) k = absurd (cc)
  keeps_instance sys S (node f cs) safe (app g us) v h (inl k) = absurd (no_contraction sys S (node f cs) (app g us) v safe.0 h k)
  keeps_instance sys S (node f cs) safe (app g us) v (ws, e, h) (inr (vs, q, k)) =
      let name : g ≡ f = cc in
      (vs, q ∙ ap (λ z. app z vs) name, keep_instances sys S cs safe.1 us vs (subst (AreInstances cs) (sym (inj_app g f us ws e)) h) k)

  keep_instances : (sys : System) (S : Relation Term) (cs : Caps) → AreSafe sys cs → (us vs : Terms) → AreInstances cs us → OpenAny (Contracts sys S) us vs → AreInstances cs vs
  keep_instances sys S no_caps safe us vs e k = absurd (subst (λ z. OpenAny (Contracts sys S) z vs) e k)
  keep_instances sys S (caps c cs) safe nil vs (u, ws, e, h, hs) k = absurd k
  keep_instances sys S (caps c cs) (safe, safes) (cons t ts) vs (u, ws, e, h, hs) (inl (v, q, k)) =
      let parts = inj_cons t u ts ws e in
      (v, ts, q, keeps_instance sys S c safe t v (subst (IsInstance c) (sym parts.0) h) k, subst (AreInstances cs) (sym parts.1) hs)
  keep_instances sys S (caps c cs) (safe, safes) (cons t ts) vs (u, ws, e, h, hs) (inr (us, q, k)) =
      let parts = inj_cons t u ts ws e in
      (t, us, q, subst (IsInstance c) (sym parts.0) h, keep_instances sys S cs safes ts us (subst (AreInstances cs) (sym parts.1) hs) k)

step_keeps : (sys : System) (c : Cap) → IsSafe sys c → (n : ℕ) (w v : Term) → IsInstance c w → level sys n w v → IsInstance c v
step_keeps sys c safe zero w v h k = absurd k
step_keeps sys c safe (suc n) w v h k = keeps_instance sys (Star (level sys n)) c safe w v h (opened _ k)

pub reaches_keeps : (sys : System) (c : Cap) → IsSafe sys c → {w v : Term} → IsInstance c w → Star (Rewrites sys) w v → IsInstance c v
reaches_keeps sys c safe h done = h
reaches_keeps sys c safe h (more {a = a} {b = b} k p) = reaches_keeps sys c safe (step_keeps sys c safe k.0 a b h (level_of_step sys k.0 a b k.1)) p
