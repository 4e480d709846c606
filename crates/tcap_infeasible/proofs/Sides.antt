-- The sides of conditions as lists of terms of the program.
use Rattle.std.proofs.Common.{ℕ, zero, suc, ◌≡◌, ◌+◌, ◌*◌, ◌^◌, ◌<◌, ◌≤◌, List, [], ◌∷◌, ◌++◌, map, length, take, get_or, refl, sym, ap, ◌∙◌, subst, arith}
use Rattle.std.proofs.lemmas.List.{length-map, take_all, get_or-map}
use Rattle.general_lemmas.proofs.Places.{slice_get-map_read}
use Rattle.rewriting.specs.Prelude.{cons, size, size_all, Fits, with_variables, System, left_sides, right_sides, AreDistinct, IsFront}
use Rattle.certificates.specs.Sizes.{DoConditionsFit}
use Rattle.certificates.proofs.Sizes.{condition_fits}
use Rattle.renumbering.specs.Rows.{IsNumbered}
use Rattle.rewriting.proofs.Lengths.{variables_length}
use Rattle.renumbering.proofs.Numbered.{AreNumbered, numbered_more}
use Rattle.caps.specs.Caps.{any, AreCapsOf, AreCapsLarge, IsCapLarge}
use Rattle.term_core.specs.Prelude.{view, views, condition_view}
use Rattle.term_core.specs.declared.systems.Cond.{Cond}
use Rattle.term_core.specs.declared.terms.Term.{Term}
use Rattle.tcap_infeasible.specs.declared.capping.Leaf.TheVariants.{Hole}
use Rattle.tcap_infeasible.specs.Comparing.{HaveRow}
use Rattle.tcap_infeasible.proofs.Args.{AreCapped, capped_room, large_at}

abbrev pub lefts : List Cond → List Term
lefts cs = map (λ c. c.left) cs

abbrev pub rights : List Cond → List Term
rights cs = map (λ c. c.right) cs

pub views_lefts : (cs : List Cond) → views (lefts cs) ≡ left_sides (map condition_view cs)
views_lefts [] = refl
views_lefts (c ∷ cs) = ap (cons (view c.left)) (views_lefts cs)

pub views_rights : (cs : List Cond) → views (rights cs) ≡ right_sides (map condition_view cs)
views_rights [] = refl
views_rights (c ∷ cs) = ap (cons (view c.right)) (views_rights cs)

pub left_at : (cs : List Cond) (k : ℕ) (c : Cond) → k < length cs → c ≡ get_or cs k c → c.left ≡ get_or (lefts cs) k c.left
left_at cs k c h e = ap (λ (z : Cond). z.left) e ∙ sym (get_or-map (λ (z : Cond). z.left) cs k c c.left h)

pub right_at : (cs : List Cond) (k : ℕ) (c : Cond) → k < length cs → c ≡ get_or cs k c → c.right ≡ get_or (rights cs) k c.right
right_at cs k c h e = ap (λ (z : Cond). z.right) e ∙ sym (get_or-map (λ (z : Cond). z.right) cs k c c.right h)

pub left_fits : (cs : List Cond) (k : ℕ) (c : Cond) → k < length cs → c ≡ get_or cs k c → DoConditionsFit (map condition_view cs) → Fits (view c.left)
left_fits cs k c h e fit = (condition_fits (map condition_view cs) k (condition_view c) (slice_get-map_read condition_view cs k c h e) fit).0

pub right_fits : (cs : List Cond) (k : ℕ) (c : Cond) → k < length cs → c ≡ get_or cs k c → DoConditionsFit (map condition_view cs) → Fits (view c.right)
right_fits cs k c h e fit = (condition_fits (map condition_view cs) k (condition_view c) (slice_get-map_read condition_view cs k c h e) fit).1

taken_lefts : (cs : List Cond) (k : ℕ) → DoConditionsFit (map condition_view cs) → size_all (views (take k (lefts cs))) ≤ 10000 * k
taken_lefts [] zero fit = omega arith
taken_lefts [] (suc k) fit = omega arith
taken_lefts (c ∷ cs) zero fit = omega arith
taken_lefts (c ∷ cs) (suc k) fit = let one = fit.0.nodes in let rest = taken_lefts cs k fit.2 in omega (arith, one, rest)

-- there are numbers for the holes of one more left side
pub left_room : (sys : System) (cs : List Cond) (k : ℕ) (c : Cond) (us : List Term) (next : ℕ) → length cs ≤ 200 → k < length cs → c ≡ get_or cs k c
    → DoConditionsFit (map condition_view cs) → AreCapped sys Hole (lefts cs) k us (2 ^ 31) next
    → next + size (view c.left) < 2 ^ 32
left_room sys cs k c us next few h e fit capped =
    let taken = capped_room sys Hole (lefts cs) k us (2 ^ 31) next capped in
    let all = taken_lefts cs k fit in
    let one = (left_fits cs k c h e fit).nodes in
    omega (arith, taken, all, one, few, h)

pub place : (cs : List Cond) (k : ℕ) → k < length cs → k < length (lefts cs)
place cs k h = let e : length (lefts cs) ≡ length cs = simp length-map in omega (arith, e, h)

pub right_place : (cs : List Cond) (k : ℕ) → k < length cs → k < length (rights cs)
right_place cs k h = let e : length (rights cs) ≡ length cs = simp length-map in omega (arith, e, h)

pub left_large : (sys : System) (cs : List Cond) (k : ℕ) (c : Cond) → k < length cs → c ≡ get_or cs k c → IsCapLarge sys any (view c.left) → AreCapsLarge sys any (left_sides (map condition_view cs))
left_large sys cs k c h e large = subst (AreCapsLarge sys any) (views_lefts cs) (large_at sys any (lefts cs) k c.left (place cs k h) (left_at cs k c h e) large)

pub lefts_are : (sys : System) (cs : List Cond) (k : ℕ) (us : List Term) (next : ℕ) → length cs ≤ k → (capped : AreCapped sys Hole (lefts cs) k us (2 ^ 31) next)
    → AreCapsOf sys any (left_sides (map condition_view cs)) capped.shapes
lefts_are sys cs k us next h capped =
    let e : length (lefts cs) ≡ length cs = simp length-map in
    subst (λ z. AreCapsOf sys any z capped.shapes) (ap views (take_all k (lefts cs) (omega (arith, e, h))) ∙ views_lefts cs) capped.are

-- the right sides that have got their numbers
pub record Numbered (cs : List Cond) (k : ℕ) (row : List ℕ) (us : List Term) : Type 0 where
  pub distinct : AreDistinct row
  pub few : length row ≤ 10000 * k
  pub are : AreNumbered row (views (take k (rights cs))) (views us)

pub one_numbered : (cs : List Cond) (k : ℕ) (row more : List ℕ) (us vs : List Term) (c : Cond) (u : Term) → k < length cs → c ≡ get_or cs k c
    → DoConditionsFit (map condition_view cs) → Numbered cs k row us
    → more ≡ with_variables row (view c.right) → IsFront row more → AreDistinct more → IsNumbered more (view c.right) (view u) → vs ≡ us ++ u ∷ [] → Numbered cs (k + 1) more vs
one_numbered cs k row more us vs c u h e fit before grown front distinct one pushed =
    record {
      distinct = distinct;
      few = (let size_one = (right_fits cs k c h e fit).nodes in let old = before.few in let l : length more ≡ length (with_variables row (view c.right)) = ap length grown in
          let g = variables_length row (view c.right) in omega (arith, size_one, old, l, g));
      are = numbered_more row more (rights cs) us vs k c.right u (right_place cs k h) (right_at cs k c h e) front before.are one pushed;
    }

pub all_numbered : (cs : List Cond) (k : ℕ) (row : List ℕ) (us : List Term) → length cs ≤ 200 → k ≤ length cs → length cs ≤ k → Numbered cs k row us
    → HaveRow (right_sides (map condition_view cs)) (views us)
all_numbered cs k row us few within h n =
    let e : length (rights cs) ≡ length cs = simp length-map in
    let whole : views (take k (rights cs)) ≡ right_sides (map condition_view cs) = ap views (take_all k (rights cs) (omega (arith, e, h))) ∙ views_rights cs in
    record { row = row; distinct = n.distinct; few = (let l = n.few in omega (arith, l, few, within)); names = sym whole ∙ n.are.names; below = n.are.below }
