use Rattle.std.proofs.Common.{◌≡◌, ℕ, ◌+◌, ◌≤◌, ◌++◌, ◌∙◌, length, take, drop, length-take-le, length-drop, refl, sym, ap, le_refl, arith}
use Rattle.std.proofs.lemmas.Slice.{between_to_end}
use Rattle.certificates.proofs.Growth.{subterm_fits}
use Rattle.term_core.specs.View.{view}
use Rattle.rewriting.specs.Terms.{size}
use Rattle.reach.specs.Keys.{cells}
use Rattle.reach.specs.Splices.{IsPlace}
use Rattle.reach.specs.declared.splices.Place.{Place}
use Rattle.reach.proofs.Around.{key_few, behind_low, key_of_replaced}
use Rattle.reach.proofs.splices.around.Goals as goal

pub size-requires : goal.size-requires
size-requires c =
    let q = c.requires.place in
    subterm_fits (view c.args.place.from.now.term) c.args.place.pos.now (view c.args.place.part.now) q.stands.found q.fits

-- the part of a place ends within the key
within : (q : Place) → IsPlace q → (n : ℕ) → n ≡ size (view q.part.now) → (q.index + n ≤ length q.key.now) × (length q.key.now ≤ 10000)
within q is n nodes =
    let low = behind_low (view q.from.now.term) q.key.now is.key q.index q.pos.now (view q.part.now) is.stands in
    (omega (arith, low, nodes), key_few (view q.from.now.term) q.key.now is.key is.fits)

pub overflow_add-behind : goal.overflow_add-behind
overflow_add-behind c = let (low, few) = within c.args.place c.requires.place c.size.result c.size.ensures in omega (arith, low, few)

pub slice_bounds-front-end : goal.slice_bounds-front-end
slice_bounds-front-end c =
    let q = c.args.place in
    let (low, few) = within q c.requires.place _ refl in
    sym (length-take-le q.index q.key.now (omega (arith, low)))

pub offset_bounds-place-behind : goal.offset_bounds-place-behind
offset_bounds-place-behind c = let (low, few) = within c.args.place c.requires.place c.size.result c.size.ensures in omega (arith, low, few)

pub slice_bounds-back-count : goal.slice_bounds-back-count
slice_bounds-back-count c = let (low, few) = within c.args.place c.requires.place c.size.result c.size.ensures in omega (arith, low)

pub slice_bounds-back-start : goal.slice_bounds-back-start
slice_bounds-back-start c = slice_bounds-back-count c

pub returns-clause-few : goal.returns-clause-few
returns-clause-few c =
    let q = c.args.place in
    let (low, few) = within q c.requires.place c.size.result c.size.ensures in
    let behind = q.index + c.size.result in
    let front = length-take-le q.index q.key.now (omega (arith, low)) in
    let back = ap length (between_to_end q.key.now behind (length q.key.now) (le_refl (length q.key.now))) in
    let left = length-drop behind q.key.now in
    omega (arith, few, low, front, back, left)

pub returns-clause-cells : goal.returns-clause-cells
returns-clause-cells c u t e =
    let q = c.args.place in
    let is = c.requires.place in
    let front = take (q.index) q.key.now in
    let behind = q.index + c.size.result in
    let back = between_to_end q.key.now behind (length q.key.now) (le_refl (length q.key.now)) ∙ ap (λ n. drop (q.index + n) q.key.now) c.size.ensures in
    ap (λ z. front ++ (cells u ++ z)) back ∙ key_of_replaced (view q.from.now.term) q.key.now is.key q.index c.args.place.pos.now (view q.part.now) is.stands u t e
