-- The cells of a term in memory are its preorder.
use Rattle.std.proofs.Common.{◌≡◌, ℕ, List, [], ◌∷◌, ◌++◌, refl, sym, ap, subst, ◌∙◌, arith}
use Prim.Native.Nat.{zero, suc, ◌+◌, ◌<◌}
use mathlib.Core.List.{append_assoc, append-nil}
use lib.ListN.{length, length-append}
use Rattle.std.specs.Prelude.{Option, Some, None, take}
use denote.RawPtr.{Ptr}
use Rattle.flatterm.specs.declared.Body.{Body}
use Rattle.flatterm.specs.declared.Cell.{Cell}
use Rattle.flatterm.specs.declared.Cell.TheVariants.{Fun}
use Rattle.flatterm.specs.declared.Node.{Node}
use Rattle.flatterm.specs.Cells.{IsAt, Next, IsNodeAt}
use Rattle.rewriting.specs.Terms.{Term, Terms, count}
use Rattle.flatterm.specs.Laid.{Items, begins, ends, enclosed, Laid, AllLaid, variable, function, nothing, another, Within}
use Rattle.flatterm.specs.Place.{shown, cells, place_in, preorder, preorders, Stands, Rests, is_zero}
use Rattle.std.proofs.Common.{true, false}
use Rattle.flatterm.proofs.Subterms.{opened, enclosed_of}
use Rattle.flatterm.proofs.Focus.{Begins}

pub cells_app : (xs ys : Items) → cells (xs ++ ys) ≡ cells xs ++ cells ys
cells_app [] ys = refl
cells_app (x ∷ xs) ys = push x.1.cell (cells (xs ++ ys)) (cells xs) (cells_app xs ys)
  where
    push : (o : Option Cell) (cs ds : List Cell) → cs ≡ ds ++ cells ys → shown o cs ≡ shown o ds ++ cells ys
    push None cs ds h = h
    push (Some c) cs ds h = ap (λ es. c ∷ es) h

mutual
  pub laid_cells : (t : Term) (m : Items) → Laid t m → cells m ≡ preorder t
  laid_cells _ m (variable p q e h) = ap cells h
  laid_cells _ m (function {f} {ts} p q e inner all h) = ap cells h ∙ ap (λ cs. Fun f (count ts) ∷ cs) (cells_app inner (ends q e ∷ []) ∙ append-nil (cells inner) ∙ all_cells ts inner all)

  pub all_cells : (ts : Terms) (cs : Items) → AllLaid ts cs → cells cs ≡ preorders ts
  all_cells _ _ nothing = refl
  all_cells _ es (another {t} {ts} cs ds l all h) = ap cells h ∙ cells_app cs ds ∙ (λ i. laid_cells t cs l i ++ all_cells ts ds all i)

-- a cell more, or an end
pub under : (o : Option Cell) (ds es : List Cell) → length ds ≡ length es → length (shown o ds) ≡ length (shown o es)
under None ds es h = h
under (Some y) ds es h = ap suc h

pub place_front : (xs ys : Items) → place_in (xs ++ ys) (length xs) ≡ length (cells xs)
place_front [] ys = refl
place_front (x ∷ xs) ys = under x.1.cell (cells (take (length xs) (xs ++ ys))) (cells xs) (place_front xs ys)

pub subterm_stands : (cs : Items) (i : ℕ) (w : Within cs i) → Stands (cells cs) (place_in cs i) w.tree
subterm_stands cs i w = record {
  front = cells w.front;
  back = cells w.back;
  whole = ap cells w.whole ∙ cells_app w.front (w.middle ++ w.back) ∙ ap (λ m. cells w.front ++ m) (cells_app w.middle w.back ∙ ap (λ m. m ++ cells w.back) (laid_cells w.tree w.middle w.laid));
  long = sym (place_front w.front (w.middle ++ w.back)) ∙ (λ k. place_in (sym w.whole k) (w.long k));
}

pub place_behind_subterm : (cs : Items) (i j : ℕ) (p : Ptr) → IsAt cs i p → (w : Within cs i) → i + length w.middle ≡ j + 1 → place_in cs j ≡ place_in cs i + length (preorder w.tree)
unfolding subterm_stands
place_behind_subterm cs i j p h w size =
    let u = opened cs i p h w in
    let c = begins u.from u.q u.cell in
    let xs = w.front ++ c ∷ u.inner in
    let whole : cs ≡ xs ++ ends u.q u.e ∷ w.back = u.whole ∙ sym (append_assoc w.front (c ∷ u.inner) (ends u.q u.e ∷ w.back)) in
    let long : length xs ≡ j = omega (arith, length-append w.front (c ∷ u.inner), w.long, size, ap length u.middle, length-append u.inner (ends u.q u.e ∷ [])) in
    let at : place_in cs j ≡ length (cells xs) = sym (λ k. place_in (sym whole k) (long k)) ∙ place_front xs (ends u.q u.e ∷ w.back) in
    let parts : length (cells xs) ≡ length (cells w.front) + length (cells (c ∷ u.inner)) = ap length (cells_app w.front (c ∷ u.inner)) ∙ length-append (cells w.front) (cells (c ∷ u.inner)) in
    let tree : cells (c ∷ u.inner) ≡ preorder w.tree = sym (append-nil (cells (c ∷ u.inner))) ∙ sym (cells_app (c ∷ u.inner) (ends u.q u.e ∷ [])) ∙ ap cells (sym u.middle)
    ∙ laid_cells w.tree w.middle w.laid in
    let front : length (cells w.front) ≡ place_in cs i = (subterm_stands cs i w).long in
    omega (arith, at, parts, ap length tree, front)

pub begins_where_cell : (p : Ptr) (cs : Items) (z : Next) (i : ℕ) (n : Node) (x : Cell) → IsNodeAt p cs z i n → n.body.cell ≡ Some x → Begins cs i
begins_where_cell p [] z i n x h e = absurd h
begins_where_cell p (c ∷ cs) z zero n x h e = (x, ap (λ (m : Node). m.body.cell) (sym h) ∙ e)
begins_where_cell p (c ∷ cs) z (suc i) n x h e = begins_where_cell c.0 cs z i n x h e

-- where a cell is seen, a subterm begins
pub begins_where_seen : (cs : Items) (i : ℕ) → Rests cs i → place_in cs i < length (cells cs) → Begins cs i
begins_where_seen [] i r h = absurd r
begins_where_seen (c ∷ []) zero r h = sole c.1.cell h
  where
    sole : (o : Option Cell) → 0 < length (shown o []) → (x : Cell) × (o ≡ Some x)
    sole None h = absurd (omega (arith, h))
    sole (Some x) h = (x, refl)
begins_where_seen (c ∷ d ∷ cs) zero r h = r
begins_where_seen (c ∷ []) (suc i) r h = absurd r
begins_where_seen (c ∷ d ∷ cs) (suc i) r h = begins_where_seen (d ∷ cs) i r (under c.1.cell (cells (take i (d ∷ cs))) (cells (d ∷ cs)) h)
  where
    under : (o : Option Cell) (ds es : List Cell) → length (shown o ds) < length (shown o es) → length ds < length es
    under None ds es h = h
    under (Some y) ds es h = omega (arith, h)

-- one can rest at a subterm's first cell
pub rests_at : (xs : Items) (p q : Ptr) (x : Cell) (y : Ptr × Body) (ys : Items) → Rests (xs ++ begins p q x ∷ y ∷ ys) (length xs)
rests_at [] p q x y ys = (x, refl)
rests_at (c ∷ []) p q x y ys = (x, refl)
rests_at (c ∷ d ∷ xs) p q x y ys = rests_at (d ∷ xs) p q x y ys

-- new cells in the place of a subterm
pub rests_at_new : (t : Term) (m : Items) → Laid t m → (xs ys : Items) → Rests (xs ++ (m ++ ys)) (length xs)
rests_at_new t m l xs ys = let o = enclosed_of t m l in
    subst (λ n. Rests (xs ++ (n ++ ys)) (length xs)) (sym o.whole) (next xs o.p o.q o.e o.cell o.inner ys)
  where
    next : (xs : Items) (p q e : Ptr) (x : Cell) (inner ys : Items) → Rests (xs ++ (enclosed p q e x inner ++ ys)) (length xs)
    next xs p q e x [] ys = rests_at xs p q x (ends q e) ys
    next xs p q e x (c ∷ inner) ys = rests_at xs p q x c ((inner ++ ends q e ∷ []) ++ ys)

pub above_zero : (i : ℕ) → is_zero i ≡ false → 0 < i
above_zero zero h = cc
above_zero (suc i) h = omega arith

pub zero_where_true : (i : ℕ) → is_zero i ≡ true → i ≡ 0
zero_where_true zero h = refl
zero_where_true (suc i) h = cc
