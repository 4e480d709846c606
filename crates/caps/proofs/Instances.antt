-- Instances of caps, and what numbers in the holes make of them.
use Rattle.std.proofs.Common.{ℕ, ◌≡◌, ◌+◌, ◌<◌, ◌≤◌, refl, sym, ap, ap₂, ◌∙◌, arith}
use Rattle.rewriting.specs.Prelude.{Term, var, app, Terms, nil, cons, Substitution, apply, apply_all}
use Rattle.rewriting.proofs.Conditions.{Order, is_smaller, is_equal, is_greater, order}
use Rattle.caps.specs.Caps.{Cap, hole, kept, node, Caps, no_caps, caps, holes, holes_in, filled, all_filled}

-- every term is an instance of a hole, and a variable that stays has no instance but itself
abbrev mutual
  pub IsInstance : Cap → Term → Type 0
  IsInstance hole w = Unit {0}
  IsInstance (kept x) w = w ≡ var x
  IsInstance (node f cs) w = (ws : Terms) × (w ≡ app f ws) × AreInstances cs ws

  pub AreInstances : Caps → Terms → Type 0
  AreInstances no_caps ws = ws ≡ nil
  AreInstances (caps c cs) ws = (u : Term) × (us : Terms) × (ws ≡ cons u us) × IsInstance c u × AreInstances cs us

-- the same, where r has the terms in the holes at n, n + 1, .. in preorder
abbrev mutual
  pub IsFilling : Substitution → ℕ → Cap → Term → Type 0
  IsFilling r n hole w = r n ≡ w
  IsFilling r n (kept x) w = w ≡ var x
  IsFilling r n (node f cs) w = (ws : Terms) × (w ≡ app f ws) × AreFillings r n cs ws

  pub AreFillings : Substitution → ℕ → Caps → Terms → Type 0
  AreFillings r n no_caps ws = ws ≡ nil
  AreFillings r n (caps c cs) ws = (u : Term) × (us : Terms) × (ws ≡ cons u us) × IsFilling r n c u × AreFillings r (n + holes c) cs us

mutual
  IsFilling-agree : (r q : Substitution) (n : ℕ) (c : Cap) (w : Term) → ((x : ℕ) → n ≤ x → x < n + holes c → r x ≡ q x) → IsFilling r n c w → IsFilling q n c w
  IsFilling-agree r q n hole w same h = sym (same n (omega arith) (omega arith)) ∙ h
  IsFilling-agree r q n (kept x) w same h = h
  IsFilling-agree r q n (node f cs) w same (ws, e, h) = (ws, e, AreFillings-agree r q n cs ws same h)

  AreFillings-agree : (r q : Substitution) (n : ℕ) (cs : Caps) (ws : Terms) → ((x : ℕ) → n ≤ x → x < n + holes_in cs → r x ≡ q x) → AreFillings r n cs ws → AreFillings q n cs ws
  AreFillings-agree r q n no_caps ws same h = h
  AreFillings-agree r q n (caps c cs) ws same (u, us, e, h, hs) = (
    u,
    us,
    e,
    IsFilling-agree r q n c u (λ x a b. same x a (omega (arith, b))) h,
    AreFillings-agree r q (n + holes c) cs us (λ x a b. same x (omega (arith, a)) (omega (arith, b))) hs,
  )

-- r below m, and q from m on
abbrev choose : {x m : ℕ} → Order x m → Term → Term → Term
choose (is_smaller l) t u = t
choose (is_equal e) t u = u
choose (is_greater l) t u = u

abbrev joined : ℕ → Substitution → Substitution → Substitution
joined m r q x = choose (order x m) (r x) (q x)

joined-below : (m : ℕ) (r q : Substitution) (x : ℕ) → x < m → joined m r q x ≡ r x
joined-below m r q x l = go (order x m)
  where
    go : (o : Order x m) → choose o (r x) (q x) ≡ r x
    go (is_smaller k) = refl
    go (is_equal e) = absurd (omega (arith, l, e))
    go (is_greater k) = absurd (omega (arith, l, k))

joined-above : (m : ℕ) (r q : Substitution) (x : ℕ) → m ≤ x → joined m r q x ≡ q x
joined-above m r q x l = go (order x m)
  where
    go : (o : Order x m) → choose o (r x) (q x) ≡ q x
    go (is_smaller k) = absurd (omega (arith, l, k))
    go (is_equal e) = refl
    go (is_greater k) = refl

-- the substitution that has the terms in the holes, and leaves every variable below n
pub record Filling (n : ℕ) (c : Cap) (w : Term) : Type 0 where
  pub by : Substitution
  pub leaves : (x : ℕ) → x < n → by x ≡ var x
  pub fills : IsFilling by n c w

pub record Fillings (n : ℕ) (cs : Caps) (ws : Terms) : Type 0 where
  pub by : Substitution
  pub leaves : (x : ℕ) → x < n → by x ≡ var x
  pub fills : AreFillings by n cs ws

in_hole : (n : ℕ) (w : Term) → Filling n hole w
in_hole n w =
    record {
      by = joined n var (λ x. w);
      leaves = λ x l. joined-below n var (λ x. w) x l;
      fills = joined-above n var (λ x. w) n (omega arith);
    }

in_both : (n : ℕ) (c : Cap) (cs : Caps) (u : Term) (us ws : Terms) → ws ≡ cons u us → Filling n c u → Fillings (n + holes c) cs us → Fillings n (caps c cs) ws
in_both n c cs u us ws e f g =
    let r = joined (n + holes c) f.by g.by in
    record {
      by = r;
      leaves = λ x l. joined-below (n + holes c) f.by g.by x (omega (arith, l)) ∙ f.leaves x l;
      fills = (
        u,
        us,
        e,
        IsFilling-agree f.by r n c u (λ x a b. sym (joined-below (n + holes c) f.by g.by x b)) f.fills,
        AreFillings-agree g.by r (n + holes c) cs us (λ x a b. sym (joined-above (n + holes c) f.by g.by x a)) g.fills,
      );
    }

mutual
  pub filling : (n : ℕ) (c : Cap) (w : Term) → IsInstance c w → Filling n c w
  filling n hole w h = in_hole n w
  filling n (kept x) w h = record { by = var; leaves = λ y l. refl; fills = h }
  filling n (node f cs) w (ws, e, h) = let g = fillings n cs ws h in record { by = g.by; leaves = g.leaves; fills = (ws, e, g.fills) }

  pub fillings : (n : ℕ) (cs : Caps) (ws : Terms) → AreInstances cs ws → Fillings n cs ws
  fillings n no_caps ws h = record { by = var; leaves = λ y l. refl; fills = h }
  fillings n (caps c cs) ws (u, us, e, h, hs) = in_both n c cs u us ws e (filling n c u h) (fillings (n + holes c) cs us hs)

-- every variable that stays has the property
abbrev mutual
  pub Keeps : (ℕ → Type 0) → Cap → Type 0
  Keeps P hole = Unit {0}
  Keeps P (kept x) = P x
  Keeps P (node f cs) = KeepAll P cs

  pub KeepAll : (ℕ → Type 0) → Caps → Type 0
  KeepAll P no_caps = Unit {0}
  KeepAll P (caps c cs) = Keeps P c × KeepAll P cs

mutual
  pub keeps_any : (c : Cap) → Keeps (λ x. Unit {0}) c
  keeps_any hole = tt
  keeps_any (kept x) = tt
  keeps_any (node f cs) = keep_any cs

  keep_any : (cs : Caps) → KeepAll (λ x. Unit {0}) cs
  keep_any no_caps = tt
  keep_any (caps c cs) = (keeps_any c, keep_any cs)

-- what q, which is r followed by k, makes of the filled cap, k makes of the instance
module _ (s k r q : Substitution) (P : ℕ → Type 0) (at_kept : (x : ℕ) → P x → apply q (s x) ≡ k x) (at_holes : (x : ℕ) → q x ≡ apply k (r x)) where
  mutual
    pub apply-filled : (n : ℕ) (c : Cap) (w : Term) → Keeps P c → IsFilling r n c w → apply q (filled s n c) ≡ apply k w
    apply-filled n hole w p h = at_holes n ∙ ap (apply k) h
    apply-filled n (kept x) w p h = at_kept x p ∙ ap (apply k) (sym h)
    apply-filled n (node f cs) w p (ws, e, h) = ap (app f) (apply_all-filled n cs ws p h) ∙ ap (apply k) (sym e)

    pub apply_all-filled : (n : ℕ) (cs : Caps) (ws : Terms) → KeepAll P cs → AreFillings r n cs ws → apply_all q (all_filled s n cs) ≡ apply_all k ws
    apply_all-filled n no_caps ws p h = ap (apply_all k) (sym h)
    apply_all-filled n (caps c cs) ws (p, ps) (u, us, e, h, hs) = ap₂ cons (apply-filled n c u p h) (apply_all-filled (n + holes c) cs us ps hs) ∙ ap (apply_all k) (sym e)
