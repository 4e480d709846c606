-- The first leaf of a tree that gives something: it is the first of the list of leaves, and the units are at most its place.
use Rattle.std.proofs.Common.{ℕ, zero, suc, ◌≡◌, ◌+◌, ◌<◌, ◌≤◌, inl, inr, List, [], ◌∷◌, map, flat_map, length, refl, sym, ◌∙◌, arith}
use Rattle.first_found.specs.Items.{NoneGives, cost_of, IsFirst, one}
use Rattle.first_found.proofs.Items.{cost_append, none_append, first_here, first_left, first_right}
use Rattle.first_found.specs.Trees.{leaves, HaveTogether, IsOneBehind, IsBarrenBelow, IsFirstBelow, StopsBelow}

-- each has the property
abbrev pub EachNode : {P : Type 0} → (P → Type 0) → List P → Type 0
EachNode Is [] = Unit {0}
EachNode Is (p ∷ ps) = Is p × EachNode Is ps

-- where each gives a node that has the property
pub each_mapped : {X P : Type 0} (Of : X → Type 0) (Is : P → Type 0) (node : X → P) → ((x : X) → Of x → Is (node x)) → (xs : List X) → EachNode Of xs → EachNode Is (map node xs)
each_mapped Of Is node has [] h = tt
each_mapped Of Is node has (x ∷ xs) (h, hs) = (has x h, each_mapped Of Is node has xs hs)

-- below each inner node there is something
abbrev pub IsFull : {P : Type 0} → (P → List P) → ℕ → P → Type 0
IsFull next zero p = Unit {0}
IsFull next (suc d) p = (1 ≤ length (next p)) × EachNode (IsFull next d) (next p)

module _ {P B : Type 0} (next : P → List P) (Dead : P → Type 0) (Gives : P → B → Type 0) where
  abbrev Barren : ℕ → P → ℕ → Type 0
  Barren = IsBarrenBelow next Dead Gives

  abbrev First : B → ℕ → P → ℕ → Type 0
  First = IsFirstBelow next Dead Gives

  abbrev Stops : ℕ → P → ℕ → Type 0
  Stops = StopsBelow next Dead Gives

  -- what is barren has no first
  none_among : (d : ℕ) (b : B) → ((p : P) (n m : ℕ) → Barren d p n → First b d p m → ⊥) → (ps : List P) (n m : ℕ) → HaveTogether (Barren d) ps n
      → IsOneBehind (Barren d) (First b d) ps m → ⊥
  none_among d b below [] n m h f = f
  none_among d b below (p ∷ ps) n m (i, j, x, rest, e) (inl f) = below p i m x f
  none_among d b below (p ∷ ps) n m (i, j, x, rest, e) (inr (k, l, y, f, g)) = none_among d b below ps j l rest f

  pub barren_or_first : (d : ℕ) (b : B) (p : P) (n m : ℕ) → Barren d p n → First b d p m → ⊥
  barren_or_first zero b p n m (bare, e) (g, f) = bare b g
  barren_or_first (suc d) b p n m (inl (dead, e)) (alive, f) = alive dead
  barren_or_first (suc d) b p n m (inr (living, h)) (alive, f) = none_among d b (λ q i j x y. barren_or_first d b q i j x y) (next p) n m h f

  -- the units are one number
  together_once : (Has : P → ℕ → Type 0) → ((p : P) (n m : ℕ) → Has p n → Has p m → n ≡ m) → (ps : List P) (n m : ℕ) → HaveTogether Has ps n → HaveTogether Has ps m → n ≡ m
  together_once Has once [] n m h k = h ∙ sym k
  together_once Has once (p ∷ ps) n m (i, j, x, rest, e) (k, l, y, other, f) =
      let head = once p i k x y in let tail = together_once Has once ps j l rest other in omega (arith, head, tail, e, f)

  pub barren_once : (d : ℕ) (p : P) (n m : ℕ) → Barren d p n → Barren d p m → n ≡ m
  barren_once zero p n m (bare, e) (other, f) = e ∙ sym f
  barren_once (suc d) p n m (inl (dead, e)) (inl (gone, f)) = e ∙ sym f
  barren_once (suc d) p n m (inl (dead, e)) (inr (alive, k)) = absurd (alive dead)
  barren_once (suc d) p n m (inr (alive, h)) (inl (dead, f)) = absurd (alive dead)
  barren_once (suc d) p n m (inr (alive, h)) (inr (living, k)) = together_once (Barren d) (λ q i j x y. barren_once d q i j x y) (next p) n m h k

  -- so are those up to the first, and one leaf gives it
  abbrev IsSame : B → B → ℕ → ℕ → Type 0
  IsSame b c n m = (n ≡ m) × ((q : P) × Gives q b × Gives q c)

  among_once : (d : ℕ) (b c : B) → ((p : P) (n m : ℕ) → First b d p n → First c d p m → IsSame b c n m) → (ps : List P) (n m : ℕ) → IsOneBehind (Barren d) (First b d) ps n
      → IsOneBehind (Barren d) (First c d) ps m → IsSame b c n m
  among_once d b c below [] n m f g = absurd f
  among_once d b c below (p ∷ ps) n m (inl f) (inl g) = below p n m f g
  among_once d b c below (p ∷ ps) n m (inl f) (inr (i, j, x, g, e)) = absurd (barren_or_first d b p i n x f)
  among_once d b c below (p ∷ ps) n m (inr (i, j, x, f, e)) (inl g) = absurd (barren_or_first d c p i m x g)
  among_once d b c below (p ∷ ps) n m (inr (i, j, x, f, e)) (inr (k, l, y, g, h)) =
      let rec = among_once d b c below ps j l f g in
      let head = barren_once d p i k x y in
      let tail = rec.0 in (omega (arith, head, tail, e, h), rec.1)

  pub below_once : (d : ℕ) (b c : B) (p : P) (n m : ℕ) → First b d p n → First c d p m → IsSame b c n m
  below_once zero b c p n m (g, e) (h, f) = (e ∙ sym f, (p, g, h))
  below_once (suc d) b c p n m (alive, f) (living, g) = among_once d b c (λ q i j x y. below_once d b c q i j x y) (next p) n m f g

  -- a walk that stopped has paid less than the first takes, and less than it takes to show that there is none
  stopped_in_barren : (d : ℕ) → ((p : P) (n m : ℕ) → Stops d p n → Barren d p m → n < m) → (ps : List P) (n m : ℕ) → IsOneBehind (Barren d) (Stops d) ps n
      → HaveTogether (Barren d) ps m → n < m
  stopped_in_barren d below [] n m s h = absurd s
  stopped_in_barren d below (p ∷ ps) n m (inl s) (i, j, x, rest, e) = let less = below p n i s x in omega (arith, less, e)
  stopped_in_barren d below (p ∷ ps) n m (inr (k, l, y, s, f)) (i, j, x, rest, e) =
      let less = stopped_in_barren d below ps l j s rest in let same = barren_once d p k i y x in omega (arith, less, same, e, f)

  pub stops_in_barren : (d : ℕ) (p : P) (n m : ℕ) → Stops d p n → Barren d p m → n < m
  stops_in_barren zero p n m s (bare, e) = omega (arith, s, e)
  stops_in_barren (suc d) p n m (inl (dead, s)) (inl (gone, e)) = omega (arith, s, e)
  stops_in_barren (suc d) p n m (inl (dead, s)) (inr (alive, h)) = absurd (alive dead)
  stops_in_barren (suc d) p n m (inr (alive, s)) (inl (dead, e)) = absurd (alive dead)
  stops_in_barren (suc d) p n m (inr (alive, s)) (inr (living, h)) = stopped_in_barren d (λ q i j x y. stops_in_barren d q i j x y) (next p) n m s h

  stopped_before_first : (d : ℕ) (b : B) → ((p : P) (n m : ℕ) → Stops d p n → First b d p m → n < m) → (ps : List P) (n m : ℕ) → IsOneBehind (Barren d) (Stops d) ps n
      → IsOneBehind (Barren d) (First b d) ps m → n < m
  stopped_before_first d b below [] n m s f = absurd s
  stopped_before_first d b below (p ∷ ps) n m (inl s) (inl f) = below p n m s f
  stopped_before_first d b below (p ∷ ps) n m (inl s) (inr (i, j, x, f, e)) = let less = stops_in_barren d p n i s x in omega (arith, less, e)
  stopped_before_first d b below (p ∷ ps) n m (inr (k, l, y, s, g)) (inl f) = absurd (barren_or_first d b p k m y f)
  stopped_before_first d b below (p ∷ ps) n m (inr (k, l, y, s, g)) (inr (i, j, x, f, e)) =
      let less = stopped_before_first d b below ps l j s f in let same = barren_once d p k i y x in omega (arith, less, same, e, g)

  pub stops_before_first : (d : ℕ) (b : B) (p : P) (n m : ℕ) → Stops d p n → First b d p m → n < m
  stops_before_first zero b p n m s (g, e) = omega (arith, s, e)
  stops_before_first (suc d) b p n m (inl (dead, s)) (alive, f) = absurd (alive dead)
  stops_before_first (suc d) b p n m (inr (living, s)) (alive, f) = stopped_before_first d b (λ q i j x y. stops_before_first d b q i j x y) (next p) n m s f

  -- it cannot be that there is neither a first nor a number of units that show that there is none
  there_among : (d : ℕ) → ((p : P) → ((n : ℕ) → Barren d p n → ⊥) → ((b : B) (n : ℕ) → First b d p n → ⊥) → ⊥) → (ps : List P) → ((n : ℕ) → HaveTogether (Barren d) ps n → ⊥)
      → ((b : B) (n : ℕ) → IsOneBehind (Barren d) (First b d) ps n → ⊥) → ⊥
  there_among d below [] h k = h 0 refl
  there_among d below (p ∷ ps) h k =
      below p (λ i x. there_among d below ps (λ j rest. h (i + j) (i, j, x, rest, refl)) (λ b j f. k b (i + j) (inr (i, j, x, f, refl)))) (λ b n f. k b n (inl f))

  pub there_below : (d : ℕ) (p : P) → ((n : ℕ) → Barren d p n → ⊥) → ((b : B) (n : ℕ) → First b d p n → ⊥) → ⊥
  there_below zero p h k = h 1 ((λ b g. k b 1 (g, refl)), refl)
  there_below (suc d) p h k =
      let alive : Dead p → ⊥ = λ dead. h 1 (inl (dead, refl)) in
      there_among d (λ q x y. there_below d q x y) (next p) (λ n x. h n (inr (alive, x))) (λ b n f. k b n (alive, f))

  -- a full tree has leaves
  some_among : (d : ℕ) → ((p : P) → IsFull next d p → 1 ≤ cost_of one (leaves next d p)) → (ps : List P) → 1 ≤ length ps → EachNode (IsFull next d) ps
      → 1 ≤ cost_of one (flat_map (leaves next d) ps)
  some_among d below [] some full = absurd (omega (arith, some))
  some_among d below (p ∷ ps) some (full, rest) =
      let head = below p full in let sum = cost_append one (leaves next d p) (flat_map (leaves next d) ps) in omega (arith, head, sum)

  leaves_some : (d : ℕ) (p : P) → IsFull next d p → 1 ≤ cost_of one (leaves next d p)
  leaves_some zero p full = omega arith
  leaves_some (suc d) p (some, full) = some_among d (λ q x. leaves_some d q x) (next p) some full

  -- the units that show that there is none are at most the leaves
  within_among : (d : ℕ) → ((p : P) (n : ℕ) → IsFull next d p → Barren d p n → n ≤ cost_of one (leaves next d p)) → (ps : List P) (n : ℕ) → EachNode (IsFull next d) ps
      → HaveTogether (Barren d) ps n → n ≤ cost_of one (flat_map (leaves next d) ps)
  within_among d below [] n full h = omega (arith, h)
  within_among d below (p ∷ ps) n (full, rest) (i, j, x, more, e) =
      let head = below p i full x in
      let tail = within_among d below ps j rest more in
      let sum = cost_append one (leaves next d p) (flat_map (leaves next d) ps) in omega (arith, head, tail, sum, e)

  pub barren_within : (d : ℕ) (p : P) (n : ℕ) → IsFull next d p → Barren d p n → n ≤ cost_of one (leaves next d p)
  barren_within zero p n full (bare, e) = omega (arith, e)
  barren_within (suc d) p n full (inl (dead, e)) = let some = leaves_some (suc d) p full in omega (arith, some, e)
  barren_within (suc d) p n (some, full) (inr (alive, h)) = within_among d (λ q i x y. barren_within d q i x y) (next p) n full h

  -- the first is that of the list of leaves, and the units are at most its place
  abbrev IsPlace : B → List P → ℕ → Type 0
  IsPlace b ps n = (k : ℕ) × IsFirst one Gives ps b k × (n ≤ k)

  module _ (empty : (d : ℕ) (p : P) → Dead p → NoneGives Gives (leaves next (suc d) p)) where
    -- what is barren gives nothing
    nothing_among : (d : ℕ) → ((p : P) (n : ℕ) → Barren d p n → NoneGives Gives (leaves next d p)) → (ps : List P) (n : ℕ) → HaveTogether (Barren d) ps n
        → NoneGives Gives (flat_map (leaves next d) ps)
    nothing_among d below [] n h = tt
    nothing_among d below (p ∷ ps) n (i, j, x, rest, e) = none_append Gives (leaves next d p) (flat_map (leaves next d) ps) (below p i x) (nothing_among d below ps j rest)

    pub nothing_below : (d : ℕ) (p : P) (n : ℕ) → Barren d p n → NoneGives Gives (leaves next d p)
    nothing_below zero p n (bare, e) = (bare, tt)
    nothing_below (suc d) p n (inl (dead, e)) = empty d p dead
    nothing_below (suc d) p n (inr (alive, h)) = nothing_among d (λ q i x. nothing_below d q i x) (next p) n h

    place_among : (d : ℕ) (b : B) → ((p : P) (n : ℕ) → IsFull next d p → First b d p n → IsPlace b (leaves next d p) n) → (ps : List P) (n : ℕ) → EachNode (IsFull next d) ps
        → IsOneBehind (Barren d) (First b d) ps n → IsPlace b (flat_map (leaves next d) ps) n
    place_among d b below [] n full f = absurd f
    place_among d b below (p ∷ ps) n (full, rest) (inl f) =
        let at = below p n full f in (at.0, first_left Gives one (leaves next d p) (flat_map (leaves next d) ps) b at.0 at.1, at.2)
    place_among d b below (p ∷ ps) n (full, rest) (inr (i, j, x, f, e)) =
        let at = place_among d b below ps j rest f in
        let head = barren_within d p i full x in
        let tail = at.2 in (
          cost_of one (leaves next d p) + at.0,
          first_right Gives one (leaves next d p) (flat_map (leaves next d) ps) b at.0 (nothing_below d p i x) at.1,
          omega (arith, head, tail, e),
        )

    pub place_below : (d : ℕ) (b : B) (p : P) (n : ℕ) → IsFull next d p → First b d p n → IsPlace b (leaves next d p) n
    place_below zero b p n full (g, e) = (1, first_here Gives one [] p [] b tt g, omega (arith, e))
    place_below (suc d) b p n (some, full) (alive, f) = place_among d b (λ q i x y. place_below d b q i x y) (next p) n full f
