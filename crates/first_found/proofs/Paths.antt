-- How a walk through a tree goes on, and what its end shows of the root.
use Rattle.std.proofs.Common.{ℕ, zero, suc, ◌≡◌, ◌+◌, inl, inr, List, [], ◌∷◌, ◌++◌, refl, sym, ap, ◌∙◌, subst, arith, append_assoc}
use Rattle.first_found.specs.Trees.{HaveTogether, IsOneBehind, IsBarrenBelow, IsFirstBelow, StopsBelow}
use Rattle.first_found.specs.Paths.{IsAtChild, HasWalked}

module _ {P : Type 0} (Has : P → ℕ → Type 0) where
  together_last : (before : List P) (p : P) (n m : ℕ) → HaveTogether Has before n → Has p m → HaveTogether Has (before ++ p ∷ []) (n + m)
  together_last [] p n m h x = (m, 0, x, refl, omega (arith, h))
  together_last (q ∷ before) p n m (i, j, y, rest, e) x = (i, j + m, y, together_last before p j m rest x, omega (arith, e))

  one_behind : (Is : P → ℕ → Type 0) (before : List P) (p : P) (behind : List P) (n m : ℕ) → HaveTogether Has before n → Is p m → IsOneBehind Has Is (before ++ p ∷ behind) (n + m)
  one_behind Is [] p behind n m h x = let same : m ≡ n + m = omega (arith, h) in inl (subst (Is p) same x)
  one_behind Is (q ∷ before) p behind n m (i, j, y, rest, e) x = inr (i, j + m, y, one_behind Is before p behind j m rest x, omega (arith, e))

module _ {P B : Type 0} (next : P → List P) (Dead : P → Type 0) (Gives : P → B → Type 0) (top : ℕ) (root : P) where
  abbrev Barren : ℕ → P → ℕ → Type 0
  Barren = IsBarrenBelow next Dead Gives

  abbrev Walked : ℕ → ℕ → P → ℕ → Type 0
  Walked = HasWalked next Dead Gives top root

  abbrev AtChild : ℕ → ℕ → P → ℕ → Type 0
  AtChild k d = IsAtChild next Dead (Barren d) (Walked k (suc d))

  -- a property of the root that goes from a node to its children
  pub holds_along : (Is : P → Type 0) → Is root → ((p q : P) (before behind : List P) → Is p → next p ≡ before ++ q ∷ behind → Is q) → (k d : ℕ) (p : P) (n : ℕ) → Walked k d p n → Is p
  holds_along Is first further zero d p n (same, is, e) = subst Is (sym is) first
  holds_along Is first further (suc k) d p n w = further w.parent p w.before w.behind (holds_along Is first further k (suc d) w.parent w.paid_above w.came_to) w.split

  -- to the first child
  pub down : (k d : ℕ) (p q : P) (behind : List P) (n : ℕ) → Walked k (suc d) p n → (Dead p → ⊥) → next p ≡ q ∷ behind → Walked (suc k) d q n
  down k d p q behind n w alive e =
      record {
        parent = p;
        alive = alive;
        before = [];
        behind = behind;
        split = e;
        paid_above = n;
        paid_before = 0;
        came_to = w;
        barren = refl;
        paid = omega arith;
      }

  -- from a barren node to the next
  pub across : (k d : ℕ) (p q : P) (n u : ℕ) → (w : AtChild k d p n) → Barren d p u → (behind : List P) → w.behind ≡ q ∷ behind → Walked (suc k) d q (n + u)
  across k d p q n u w bare behind e =
      record {
        parent = w.parent;
        alive = w.alive;
        before = w.before ++ p ∷ [];
        behind = behind;
        split = w.split ∙ (ap (λ (qs : List P). w.before ++ p ∷ qs) e ∙ sym (append_assoc w.before (p ∷ []) (q ∷ behind)));
        paid_above = w.paid_above;
        paid_before = w.paid_before + u;
        came_to = w.came_to;
        barren = together_last (Barren d) w.before p w.paid_before u w.barren bare;
        paid = let e = w.paid in omega (arith, e);
      }

  -- behind the last child, which is barren: so is the node above
  pub up : (k d : ℕ) (p : P) (n u : ℕ) → (w : AtChild k d p n) → Barren d p u → w.behind ≡ [] → (m : ℕ) × Barren (suc d) w.parent m × (w.paid_above + m ≡ n + u)
  up k d p n u w bare e =
      let all = together_last (Barren d) w.before p w.paid_before u w.barren bare in
      let split : w.before ++ p ∷ [] ≡ next w.parent = sym (w.split ∙ ap (λ (qs : List P). w.before ++ p ∷ qs) e) in
      let paid = w.paid in
      (w.paid_before + u, inr (w.alive, subst (λ qs. HaveTogether (Barren d) qs (w.paid_before + u)) split all), omega (arith, paid))

  -- what a node shows of the node above, it shows of the root
  shows : (Is : ℕ → P → ℕ → Type 0) → ((d : ℕ) (p : P) (n : ℕ) → (Dead p → ⊥) → IsOneBehind (Barren d) (Is d) (next p) n → Is (suc d) p n) → (k d : ℕ) (p : P) (n u : ℕ) → Walked k d p n
      → Is d p u → Is top root (n + u)
  shows Is above zero d p n u (same, is, e) x =
      let sum : u ≡ n + u = omega (arith, e) in
      subst (Is top root) sum (subst (λ (q : P). Is top q u) is (subst (λ (h : ℕ). Is h p u) same x))
  shows Is above (suc k) d p n u w x =
      let at = one_behind (Barren d) (Is d) w.before p w.behind w.paid_before u w.barren x in
      let here = above d w.parent (w.paid_before + u) w.alive (subst (λ qs. IsOneBehind (Barren d) (Is d) qs (w.paid_before + u)) (sym w.split) at) in
      let paid = w.paid in
      let sum : w.paid_above + (w.paid_before + u) ≡ n + u = omega (arith, paid) in
      subst (Is top root) sum (shows Is above k (suc d) w.parent w.paid_above (w.paid_before + u) w.came_to here)

  pub first_at_root : (b : B) (k d : ℕ) (p : P) (n u : ℕ) → Walked k d p n → IsFirstBelow next Dead Gives b d p u → IsFirstBelow next Dead Gives b top root (n + u)
  first_at_root b = shows (IsFirstBelow next Dead Gives b) (λ d p n alive f. (alive, f))

  pub stops_at_root : (k d : ℕ) (p : P) (n u : ℕ) → Walked k d p n → StopsBelow next Dead Gives d p u → StopsBelow next Dead Gives top root (n + u)
  stops_at_root = shows (StopsBelow next Dead Gives) (λ d p n alive s. inr (alive, s))

  -- back at the root
  pub barren_at_root : (d : ℕ) (p : P) (n u : ℕ) → Walked 0 d p n → Barren d p u → Barren top root (n + u)
  barren_at_root d p n u (same, is, e) x =
      let sum : u ≡ n + u = omega (arith, e) in
      subst (Barren top root) sum (subst (λ (q : P). Barren top q u) is (subst (λ (h : ℕ). Barren h p u) same x))
