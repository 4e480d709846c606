-- The first entries that terms and rules need, and the lists of rules by how many they need.
use Rattle.std.proofs.Common.{◌≡◌, ℕ, ◌+◌, ◌<◌, ◌≤◌, Bool, true, false, nat_eq, if◌then◌else◌, eqb-true, eq-eqb, refl, sym, ap, subst, List, [], ◌∷◌, ◌++◌}
use Rattle.std.proofs.Common.{length, set, get_or, slice_get, Some, Vec, Global, arith}
use Rattle.std.proofs.lemmas.Bool.{eqb-false}
use Rattle.std.proofs.lemmas.Option.{slice_get_within}
use Rattle.rewriting.specs.Prelude.{Term, var, app, Terms, nil, cons, Signature, IsOver, AreOver, Rule, System, AreRules, IsSystem, unraveled, heads}
use Rattle.rewriting.proofs.NumbersWhere as numbers
use Rattle.rewriting.specs.Unraveling as unraveling
use Rattle.interpretations.specs.Linear.{Interpretation}
use Rattle.interpretations.proofs.Bound.{length-heads}
use Rattle.unravel.specs.Listed.{listed}
use Rattle.unravel.proofs.NumberLists.{there, elsewhere}
use Rattle.measure_grid.specs.Dead.{HasEntries, HaveEntries}
use Rattle.grid_search.specs.Needed.{needed, needed_by, needed_at, DoNeedBelow, numbers_needing}

-- the number of a rule is put last in one list
pub number_put : (lists : List (Vec ℕ Global)) (g k n : ℕ) (b v : Vec ℕ Global) → g < length lists → v.items ≡ (get_or lists g b).items ++ n ∷ []
    → listed (set lists g v) k ≡ (if nat_eq k g then (listed lists k ++ n ∷ []) else listed lists k)
number_put lists g k n b v lt e = go (nat_eq k g) refl
  where
    go : (here : Bool) → nat_eq k g ≡ here → listed (set lists g v) k ≡ (if here then (listed lists k ++ n ∷ []) else listed lists k)
    go true is = subst (λ i. listed (set lists g v) i ≡ listed lists i ++ n ∷ []) (sym (eqb-true k g is)) (there lists g b v (n ∷ []) lt e)
    go false is = elsewhere lists g k v (eqb-false k g is)

module _ (es : Interpretation) where
  mutual
    pub has_needed : (t : Term) → needed t ≤ length es → HasEntries es t
    has_needed (var x) le = tt
    has_needed (app f ts) le = (omega (arith, le), have_needed ts (omega (arith, le)))

    have_needed : (ts : Terms) → needed_by ts ≤ length es → HaveEntries es ts
    have_needed nil le = tt
    have_needed (cons t ts) le = (has_needed t (omega (arith, le)), have_needed ts (omega (arith, le)))

  mutual
    pub needed_of : (t : Term) → HasEntries es t → needed t ≤ length es
    needed_of (var x) h = omega arith
    needed_of (app f ts) (l, h) = let rest = needed_of_all ts h in omega (arith, l, rest)

    needed_of_all : (ts : Terms) → HaveEntries es ts → needed_by ts ≤ length es
    needed_of_all nil h = omega arith
    needed_of_all (cons t ts) (h, hs) = let one = needed_of t h in let rest = needed_of_all ts hs in omega (arith, one, rest)

-- terms over some symbols need at most as many entries
mutual
  needed_over : (arities : Signature) (t : Term) → IsOver arities t → needed t ≤ length arities
  needed_over arities (var x) h = omega arith
  needed_over arities (app f ts) (at, h) = let within = slice_get_within arities f _ at in let rest = needed_over_all arities ts h in omega (arith, within, rest)

  needed_over_all : (arities : Signature) (ts : Terms) → AreOver arities ts → needed_by ts ≤ length arities
  needed_over_all arities nil h = omega arith
  needed_over_all arities (cons t ts) (h, hs) = let one = needed_over arities t h in let rest = needed_over_all arities ts hs in omega (arith, one, rest)

rules_need : (arities : Signature) (n : ℕ) (rs : List Rule) → AreRules arities rs → length arities < n → DoNeedBelow n rs
rules_need arities n [] h lt = tt
rules_need arities n (r ∷ rs) (h, hs) lt =
    let over = h.is_over.over in
    let left = needed_over arities r.left over.0 in
    let right = needed_over arities r.right over.1.0 in
    (omega (arith, left, right, lt), rules_need arities n rs hs lt)

-- so the rules of an unraveled system need no more than it has symbols
pub unraveled_need : (sys system : System) (symbols : List unraveling.Head) (rules : List Rule) → system ≡ unraveled sys → symbols ≡ heads sys → IsSystem system
    → rules ≡ system.rules → DoNeedBelow (length symbols + 1) rules
unraveled_need sys system symbols rules same heads_are sound are =
    let many = length-heads sys in
    let count = ap length heads_are in
    let arities = ap (λ z. length z.arities) same in
    subst (DoNeedBelow (length symbols + 1)) (sym are) (rules_need system.arities (length symbols + 1) system.rules sound.rules (omega (arith, many, count, arities)))

-- what holds of each number of the list of those that need so many entries holds of each such rule's number
module _ (P : ℕ → Type 0) where
  abbrev pub HoldsOfAll : List ℕ → Type 0
  HoldsOfAll ns = (m : ℕ) → m < length ns → P (get_or ns m 0)

  pub of_rules : (k n : ℕ) (rs : List Rule) → HoldsOfAll (numbers_needing k n rs) → (j : ℕ) (r : Rule) → slice_get rs j ≡ Some r → needed_at r ≡ k → P (n + j)
  of_rules k n rs h j r at e =
      let s = numbers.stands (λ r. nat_eq k (needed_at r)) n rs j r at (eq-eqb k (needed_at r) (sym e)) in
      subst P s.2 (h s.0 s.1)
