-- Sizes of sides, places in a list, and variables one after the other.
use Rattle.std.proofs.Common.{◌≡◌, ℕ, zero, suc, ◌+◌, ◌<◌, ◌≤◌, refl, ap, ◌∙◌, List, [], ◌∷◌, map, length, get_or, drop, nat_eq, if◌then◌else◌, arith, add-one}
use Rattle.rewriting.specs.Terms as math
use Rattle.rewriting.specs.Prelude.{Term, var, app, cons, terms_of, Fits, apply, apply_all, with_new, with_variables, with_variables_of, variable_terms, keeper, index_in}
use Rattle.rewriting.proofs.Lengths.{variables_length}

size-variable_terms : (xs : List ℕ) → math.size_all (variable_terms xs) ≡ length xs
size-variable_terms [] = refl
size-variable_terms (x ∷ xs) = let h = size-variable_terms xs in omega (arith, h)

depth-variable_terms : (xs : List ℕ) → math.depth_all (variable_terms xs) ≤ 1
depth-variable_terms [] = omega arith
depth-variable_terms (x ∷ xs) = let h = depth-variable_terms xs in omega (arith, h)

depth_some : (t : Term) → 1 ≤ math.depth t
depth_some (var x) = omega arith
depth_some (app f ts) = omega arith

pub size_kept : (f : ℕ) (t : Term) (xs : List ℕ) → math.size (keeper f t xs) ≡ suc (math.size t + length xs)
size_kept f t xs = let h = size-variable_terms xs in omega (arith, h)

pub depth_kept : (f : ℕ) (t : Term) (xs : List ℕ) → math.depth (keeper f t xs) ≡ suc (math.depth t)
depth_kept f t xs = let h = depth-variable_terms xs in let k = depth_some t in omega (arith, h, k)

-- a kept term fits exactly where these three hold
pub kept_fits : (f : ℕ) (t : Term) (xs : List ℕ) → math.size t + length xs < 10000 → math.depth t < 400 → Fits (keeper f t xs)
kept_fits f t xs nodes levels = let s = size_kept f t xs in let d = depth_kept f t xs in record { nodes = omega (arith, s, nodes); levels = omega (arith, d, levels) }

pub fits_kept : (f : ℕ) (t : Term) (xs : List ℕ) → Fits (keeper f t xs) → (math.size t + length xs < 10000) × (math.depth t < 400)
fits_kept f t xs h =
    let s = size_kept f t xs in
    let d = depth_kept f t xs in
    let n = h.nodes in
    let l = h.levels in
    (omega (arith, s, n), omega (arith, d, l))

-- the place in what is left of a list
pub place_here : (xs : List ℕ) (i x : ℕ) → i < length xs → index_in (drop i xs) x ≡ (if nat_eq x (get_or xs i 0) then zero else suc (index_in (drop (i + 1) xs) x))
place_here xs i x h = rw add-one (go xs i h)
  where
    go : (ys : List ℕ) (k : ℕ) → k < length ys → index_in (drop k ys) x ≡ (if nat_eq x (get_or ys k 0) then zero else suc (index_in (drop (suc k) ys) x))
    go [] k h = absurd (omega arith)
    go (y ∷ ys) zero h = refl
    go (y ∷ ys) (suc k) h = go ys k (omega arith)

-- the variables of what is left of a list
pub variables_here : (xs order : List ℕ) (i : ℕ) → i < length xs
    → with_variables_of order (variable_terms (drop i xs)) ≡ with_variables_of (with_new order (get_or xs i 0)) (variable_terms (drop (i + 1) xs))
variables_here xs order i h = rw add-one (go xs i h)
  where
    go : (ys : List ℕ) (k : ℕ) → k < length ys → with_variables_of order (variable_terms (drop k ys)) ≡ with_variables_of (with_new order (get_or ys k 0)) (variable_terms (drop (suc k) ys))
    go [] k h = absurd (omega arith)
    go (y ∷ ys) zero h = refl
    go (y ∷ ys) (suc k) h = go ys k (omega arith)

pub both_fit : (f : ℕ) (t : Term) (xs : List ℕ) → ((math.size t + length xs < 10000) × (math.depth t < 400)) → Fits (keeper f t xs)
both_fit f t xs h = kept_fits f t xs h.0 h.1

-- the terms for places, as arguments
pub places_here : (s : ℕ → Term) (t : Term) (us : List Term) (xs : List ℕ) → us ≡ apply s t ∷ map s xs → terms_of us ≡ apply_all s (cons t (variable_terms xs))
places_here s t us xs e = ap terms_of e ∙ ap (cons (apply s t)) (go xs)
  where
    go : (ys : List ℕ) → terms_of (map s ys) ≡ apply_all s (variable_terms ys)
    go [] = refl
    go (y ∷ ys) = ap (cons (s y)) (go ys)

pub few_variables : (l r : Term) (order : List ℕ) → Fits l → Fits r → order ≡ with_variables (with_variables [] l) r → length order ≤ 20000
few_variables l r order left right e =
    let a = variables_length [] l in
    let b = variables_length (with_variables [] l) r in
    let m = left.nodes in
    let n = right.nodes in
    let same = ap length e in
    omega (arith, a, b, m, n, same)

pub few_more : (xs : List ℕ) (t : Term) (ys : List ℕ) → Fits t → ys ≡ with_variables xs t → length ys ≤ length xs + 10000
few_more xs t ys h e = let a = variables_length xs t in let n = h.nodes in let same = ap length e in omega (arith, a, n, same)
