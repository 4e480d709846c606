-- What contracts see, against the items.
use Rattle.std.proofs.Common.{◌≡◌, ℕ, List, [], ◌∷◌, ◌++◌, refl, sym, ap, subst, ◌∙◌, arith, slice_get, true, false}
use Prim.Native.Nat.{zero, suc, ◌+◌, ◌<◌, ◌≤◌}
use lib.ListN.{length}
use Rattle.std.specs.Prelude.{take, Option, Some, None, IsSome}
use denote.RawPtr.{Ptr}
use Rattle.flatterm.specs.declared.Body.{Body}
use Rattle.flatterm.specs.declared.Cell.{Cell}
use Rattle.flatterm.specs.declared.Node.{Node}
use Rattle.flatterm.specs.Cells.{Next, IsNodeAt}
use Rattle.flatterm.specs.Laid.{Items, begins, ends, enclosed, IsWhole}
use Rattle.flatterm.proofs.Subterms.{enclosed_of}
use Rattle.flatterm.proofs.Preorder.{under}
use Rattle.flatterm.specs.Place.{shown, cells, place_in, Rests}

first_shown : (o : Option Cell) (cs : List Cell) (x : Cell) → o ≡ Some x → o ≡ slice_get (shown o cs) 0
first_shown None cs x e = cc
first_shown (Some y) cs x e = refl

sole : (o : Option Cell) → o ≡ slice_get (shown o []) 0
sole None = refl
sole (Some y) = refl

past : (o : Option Cell) (cs ds : List Cell) (r : Option Cell) → r ≡ slice_get cs (length ds) → r ≡ slice_get (shown o cs) (length (shown o ds))
past None cs ds r h = h
past (Some y) cs ds r h = h

pub cell_at_place : (p : Ptr) (cs : Items) (z : Next) (i : ℕ) (n : Node) → IsNodeAt p cs z i n → Rests cs i → n.body.cell ≡ slice_get (cells cs) (place_in cs i)
cell_at_place p [] z i n h r = absurd h
cell_at_place p (c ∷ []) z zero n h r = ap (λ (m : Node). m.body.cell) h ∙ sole c.1.cell
cell_at_place p (c ∷ d ∷ cs) z zero n h r = ap (λ (m : Node). m.body.cell) h ∙ first_shown c.1.cell (cells (d ∷ cs)) r.0 r.1
cell_at_place p (c ∷ []) z (suc i) n h r = absurd h
cell_at_place p (c ∷ d ∷ cs) z (suc i) n h r = past c.1.cell (cells (d ∷ cs)) (cells (take i (d ∷ cs))) n.body.cell (cell_at_place c.0 (d ∷ cs) z i n h r)

-- at an end that is not the last, one place on there are no more cells
pub place_past_end : (p : Ptr) (cs : Items) (z : Next) (i : ℕ) (n : Node) → IsNodeAt p cs z i n → n.body.cell ≡ None → place_in cs (suc i) ≡ place_in cs i
place_past_end p [] z i n h e = absurd h
place_past_end p (c ∷ cs) z zero n h e = ap (λ o. length (shown o [])) (ap (λ (m : Node). m.body.cell) (sym h) ∙ e)
place_past_end p (c ∷ cs) z (suc i) n h e = under c.1.cell (cells (take (suc i) cs)) (cells (take i cs)) (place_past_end c.0 cs z i n h e)

-- a cell, or the last
pub rests_at_cell : (p : Ptr) (cs : Items) (a : Ptr) (i : ℕ) (n : Node) → IsNodeAt p cs (a, true) i n → (x : Cell) → n.body.cell ≡ Some x → Rests cs i
rests_at_cell p [] a i n h x e = absurd h
rests_at_cell p (c ∷ []) a zero n h x e = tt
rests_at_cell p (c ∷ d ∷ cs) a zero n h x e = (x, ap (λ (m : Node). m.body.cell) (sym h) ∙ e)
rests_at_cell p (c ∷ []) a (suc i) n h x e = absurd h
rests_at_cell p (c ∷ d ∷ cs) a (suc i) n h x e = rests_at_cell c.0 (d ∷ cs) a i n h x e

pub rests_at_last : (p : Ptr) (cs : Items) (a : Ptr) (i : ℕ) (n : Node) → IsNodeAt p cs (a, true) i n → n.last ≡ true → Rests cs i
rests_at_last p [] a i n h e = absurd h
rests_at_last p (c ∷ []) a zero n h e = tt
rests_at_last p (c ∷ d ∷ cs) a zero n h e = let f : n.last ≡ false = ap (λ (m : Node). m.last) h in cc
rests_at_last p (c ∷ []) a (suc i) n h e = absurd h
rests_at_last p (c ∷ d ∷ cs) a (suc i) n h e = rests_at_last c.0 (d ∷ cs) a i n h e

-- not the last: there is one more
pub next_of_not_last : (p : Ptr) (cs : Items) (a : Ptr) (i : ℕ) (n : Node) → IsNodeAt p cs (a, true) i n → n.last ≡ false → i + 1 < length cs
next_of_not_last p [] a i n h e = absurd h
next_of_not_last p (c ∷ []) a zero n h e = let f : n.last ≡ true = ap (λ (m : Node). m.last) h in cc
next_of_not_last p (c ∷ d ∷ cs) a zero n h e = omega arith
next_of_not_last p (c ∷ []) a (suc i) n h e = absurd h
next_of_not_last p (c ∷ d ∷ cs) a (suc i) n h e = let r = next_of_not_last c.0 (d ∷ cs) a i n h e in omega arith

pub none_where_not_some : (o : Option Cell) → ((x : Cell) → o ≡ Some x → ⊥) → o ≡ None
none_where_not_some None h = refl
none_where_not_some (Some x) h = absurd (h x refl)

pub rests_at_start : (cs : Items) → IsWhole cs → Rests cs 0
rests_at_start cs w = let o = enclosed_of w.0 cs w.1 in subst (λ ds. Rests ds 0) (sym o.whole) (start o.p o.q o.e o.cell o.inner)
  where
    start : (p q e : Ptr) (x : Cell) (inner : Items) → Rests (enclosed p q e x inner) 0
    start p q e x [] = (x, refl)
    start p q e x (c ∷ cs) = (x, refl)

-- a first cell is not the last
cell_not_last : (p : Ptr) (xs : Items) (l : Ptr × Body) (z : Next) (i : ℕ) (n : Node) (x : Cell) → l.1.cell ≡ None → IsNodeAt p (xs ++ l ∷ []) z i n → n.body.cell ≡ Some x
    → i + 1 < length (xs ++ l ∷ [])
cell_not_last p [] l z zero n x e h s = let f : n.body.cell ≡ None = ap (λ (m : Node). m.body.cell) h ∙ e in cc
cell_not_last p [] l z (suc i) n x e h s = absurd h
cell_not_last p (c ∷ []) l z zero n x e h s = omega arith
cell_not_last p (c ∷ d ∷ xs) l z zero n x e h s = omega arith
cell_not_last p (c ∷ xs) l z (suc i) n x e h s = let r = cell_not_last c.0 xs l z i n x e h s in omega arith

pub next_of_cell : (p : Ptr) (cs : Items) (z : Next) (i : ℕ) (n : Node) (x : Cell) → IsWhole cs → IsNodeAt p cs z i n → n.body.cell ≡ Some x → i + 1 < length cs
next_of_cell p cs z i n x w h s =
    let o = enclosed_of w.0 cs w.1 in
    subst (λ ds. i + 1 < length ds) (sym o.whole) (cell_not_last p (begins o.p o.q o.cell ∷ o.inner) (ends o.q o.e) z i n x refl (subst (λ ds. IsNodeAt p ds z i n) o.whole h) s)

-- past a first cell there is one more
pub place_past_cell : (p : Ptr) (cs : Items) (z : Next) (i : ℕ) (n : Node) (x : Cell) → IsNodeAt p cs z i n → n.body.cell ≡ Some x → place_in cs (suc i) ≡ suc (place_in cs i)
place_past_cell p [] z i n x h e = absurd h
place_past_cell p (c ∷ cs) z zero n x h e = ap (λ o. length (shown o [])) (ap (λ (m : Node). m.body.cell) (sym h) ∙ e)
place_past_cell p (c ∷ cs) z (suc i) n x h e = under c.1.cell (cells (take (suc i) cs)) (cells (take i cs)) (place_past_cell c.0 cs z i n x h e)
  where
    under : (o : Option Cell) (ds es : List Cell) → length ds ≡ suc (length es) → length (shown o ds) ≡ suc (length (shown o es))
    under None ds es h = h
    under (Some y) ds es h = ap suc h

pub below_where_some : (cs : List Cell) (i : ℕ) (x : Cell) → slice_get cs i ≡ Some x → i < length cs
below_where_some [] i x e = cc
below_where_some (c ∷ cs) zero x e = omega arith
below_where_some (c ∷ cs) (suc i) x e = let r = below_where_some cs i x e in omega arith

pub not_below_where_none : (cs : List Cell) (i : ℕ) → slice_get cs i ≡ None → i < length cs → ⊥
not_below_where_none [] i e h = omega (arith, h)
not_below_where_none (c ∷ cs) zero e h = cc
not_below_where_none (c ∷ cs) (suc i) e h = not_below_where_none cs i e (omega (arith, h))

-- the first is the last: it is alone
pub last_is_final : (p : Ptr) (cs : Items) (a : Ptr) (i : ℕ) (n : Node) → IsNodeAt p cs (a, true) i n → n.last ≡ true → i + 1 ≡ length cs
last_is_final p [] a i n h e = absurd h
last_is_final p (c ∷ []) a zero n h e = refl
last_is_final p (c ∷ d ∷ cs) a zero n h e = let f : n.last ≡ false = ap (λ (m : Node). m.last) h in cc
last_is_final p (c ∷ []) a (suc i) n h e = absurd h
last_is_final p (c ∷ d ∷ cs) a (suc i) n h e = let r = last_is_final c.0 (d ∷ cs) a i n h e in omega arith

pub place_within : (cs : Items) (i : ℕ) → place_in cs i ≤ length (cells cs)
place_within [] zero = omega arith
place_within [] (suc i) = omega arith
place_within (c ∷ cs) zero = omega arith
place_within (c ∷ cs) (suc i) = under c.1.cell (cells (take i cs)) (cells cs) (place_within cs i)
  where
    under : (o : Option Cell) (ds es : List Cell) → length ds ≤ length es → length (shown o ds) ≤ length (shown o es)
    under None ds es h = h
    under (Some y) ds es h = omega (arith, h)

pub some_is_below : (cs : List Cell) (i : ℕ) (o : Option Cell) → o ≡ slice_get cs i → IsSome o → i < length cs
some_is_below cs i (Some x) e h = below_where_some cs i x (sym e)
some_is_below cs i None e h = cc

pub below_is_some : (cs : List Cell) (i : ℕ) (o : Option Cell) → o ≡ slice_get cs i → i < length cs → IsSome o
below_is_some cs i (Some x) e h = refl
below_is_some cs i None e h = absurd (not_below_where_none cs i (sym e) h)
