-- The deepest level of a walk: an argument is taken there, or the level is left.
use Rattle.std.proofs.Common.{◌≡◌, ℕ, zero, suc, ◌+◌, ◌-◌, ◌<◌, ◌≤◌, ◌==◌, Bool, true, false, List, [], ◌∷◌, ◌++◌, length, length-set, take, get_or, set, refl, sym, ap, ap₂, ◌∙◌}
use Rattle.std.proofs.Common.{subst, append_assoc, eqb-true, arith}
use Rattle.std.specs.Borrow.{Bor}
use Rattle.std.proofs.lemmas.Bool.{false≢true}
use Rattle.std.proofs.lemmas.List.{take_more, take_more_set, map-append, length-map}
use Rattle.std.proofs.Math.Seq.{take-length}
use Rattle.rewriting.specs.Terms.{size, size_all}
use Rattle.rewriting.proofs.Lengths.{size_positive}
use Rattle.term_core.specs.View.{view, views}
use Rattle.term_core.specs.declared.terms.Term.{Term}
use Rattle.rule_index.specs.Parts.{Part}
use Rattle.rule_index.specs.Levels.{parts_in, parts_among, later_parts, levels_of, AreLevels}
use Rattle.rule_index.proofs.Levels.{deepest, level_more, level_less, as_many}

pub some_levels : (n : ℕ) (b : Bool) → b ≡ (n == 0) → b ≡ false → 1 ≤ n
some_levels zero b e h = absurd (cc)
some_levels (suc n) b e h = omega arith

pub no_levels : (later : List (Bor (List Term))) (n : ℕ) (b : Bool) → n ≡ length later → b ≡ (n == 0) → b ≡ true → later ≡ []
no_levels [] n b l e h = refl
no_levels (x ∷ later) n b l e h = absurd (let zero : n ≡ 0 = eqb-true n 0 (sym e ∙ h) in omega (arith, l, zero))

pub nothing : (path : List ℕ) (later : List (Bor (List Term))) → later ≡ [] → later_parts [] path (levels_of later) ≡ []
nothing [] later e = refl
nothing (n ∷ ns) later e = ap (λ ls. later_parts [] (n ∷ ns) (levels_of ls)) e

-- a list with an item as its last, and with another one in its place
last_split : {A : Type 0} (xs : List A) (k : ℕ) (d : A) → k + 1 ≡ length xs → xs ≡ take k xs ++ get_or xs k d ∷ []
last_split xs k d e = sym (take-length xs) ∙ ap (λ n. take n xs) (sym e) ∙ take_more xs k d (omega (arith, e))

last_set : {A : Type 0} (xs : List A) (k : ℕ) (y : A) → k + 1 ≡ length xs → set xs k y ≡ take k xs ++ y ∷ []
last_set xs k y e = sym (take-length (set xs k y)) ∙ ap (λ n. take n (set xs k y)) (simp length-set (sym e)) ∙ take_more_set xs k y (omega (arith, e))

module _ (path : List ℕ) (later : List (Bor (List Term))) (held : AreLevels path (levels_of later)) (k : ℕ) (last : k + 1 ≡ length later) (args : Bor (List Term))
    (there : args ≡ get_or later k args) where
  abbrev n : ℕ
  n = get_or path k 0

  path_last : k + 1 ≡ length path
  path_last = last ∙ sym (as_many path (levels_of later) held ∙ length-map later (λ (b : Bor (List Term)). views b.now))

  pub low : k < length path
  low = let e = path_last in omega (arith, e)

  pub none_above : (m : ℕ) → m ≡ length path → m - 1 ≡ k
  none_above m e = let f = path_last in omega (arith, e, f)

  path_is : path ≡ take k path ++ n ∷ []
  path_is = last_split path k 0 path_last

  with_last : (xs : List (Bor (List Term))) (b : Bor (List Term)) → levels_of (xs ++ b ∷ []) ≡ levels_of xs ++ views b.now ∷ []
  with_last xs b = map-append (λ (b : Bor (List Term)). views b.now) xs (b ∷ [])

  later_is : levels_of later ≡ levels_of (take k later) ++ views args.now ∷ []
  later_is = ap levels_of (last_split later k args last ∙ ap (λ b. take k later ++ b ∷ []) (sym there)) ∙ with_last (take k later) args

  above : AreLevels (take k path) (levels_of (take k later)) × (n + size_all (views args.now) ≤ 10000)
  above = level_less (take k path) (levels_of (take k later)) n (views args.now) (subst (λ ps. AreLevels ps (levels_of (take k later) ++ views args.now ∷ [])) path_is
      (subst (AreLevels path) later_is held))

  abbrev those_above : List Part
  those_above = later_parts [] (take k path) (levels_of (take k later))

  before : later_parts [] path (levels_of later) ≡ parts_among (take k path) (suc n) (views args.now) ++ those_above
  before = ap₂ (later_parts []) path_is later_is ∙ deepest [] (take k path) (levels_of (take k later)) n (views args.now) above.0

  -- an argument is taken
  module _ (first : Term) (others : Bor (List Term)) (split : args.now ≡ first ∷ others.now) (number : ℕ) (number_is : number ≡ get_or path k number) where
    same_number : number ≡ n
    same_number = number_is ∙ get_or_any path k low
      where
        get_or_any : (xs : List ℕ) (i : ℕ) → i < length xs → get_or xs i number ≡ get_or xs i 0
        get_or_any [] i l = absurd (omega (arith, l))
        get_or_any (x ∷ xs) zero l = refl
        get_or_any (x ∷ xs) (suc i) l = get_or_any xs i (omega (arith, l))

    sizes : n + (size (view first) + size_all (views others.now)) ≤ 10000
    sizes = subst (λ ts. n + size_all (views ts) ≤ 10000) split above.1

    pub number_fits : number ≤ 10000
    number_fits = let e = same_number in let s = sizes in omega (arith, e, s)

    pub first_small : size (view first) ≤ 10000
    first_small = let s = sizes in omega (arith, s)

    path_new : set path k (number + 1) ≡ take k path ++ (n + 1) ∷ []
    path_new = last_set path k (number + 1) path_last ∙ ap (λ m. take k path ++ (m + 1) ∷ []) same_number

    later_new : levels_of (set later k others) ≡ levels_of (take k later) ++ views others.now ∷ []
    later_new = ap levels_of (last_set later k others last) ∙ with_last (take k later) others

    pub taken_levels : AreLevels (set path k (number + 1)) (levels_of (set later k others))
    taken_levels =
        let s = sizes in
        let one = size_positive (view first) in
        subst (AreLevels (set path k (number + 1))) (sym later_new)
        (subst (λ ps. AreLevels ps (levels_of (take k later) ++ views others.now ∷ [])) (sym path_new)
        (level_more (take k path) (levels_of (take k later)) (n + 1) (views others.now) above.0 (omega (arith, s, one))))

    pub taken_parts : later_parts [] path (levels_of later) ≡ parts_in (set path k (number + 1)) (view first) ++ later_parts [] (set path k (number + 1)) (levels_of (set later k others))
    taken_parts =
        let one : suc n ≡ n + 1 = omega arith in
        before ∙ ap (λ ts. parts_among (take k path) (suc n) (views ts) ++ those_above) split
        ∙ append_assoc (parts_in (take k path ++ suc n ∷ []) (view first)) (parts_among (take k path) (suc (suc n)) (views others.now)) those_above
        ∙ ap (λ m. parts_in (take k path ++ m ∷ []) (view first) ++ (parts_among (take k path) (suc m) (views others.now) ++ those_above)) one
        ∙ ap₂ (λ ps rest. parts_in ps (view first) ++ rest) (sym path_new)
        (sym (ap₂ (later_parts []) path_new later_new ∙ deepest [] (take k path) (levels_of (take k later)) (n + 1) (views others.now) above.0))

  -- or none is left
  module _ (none : 0 < length args.now → false ≡ true) where
    empty : (ts : List Term) → (0 < length ts → false ≡ true) → ts ≡ []
    empty [] h = refl
    empty (t ∷ ts) h = absurd (false≢true (h (omega arith)))

    pub left_levels : (ps : List ℕ) (ls : List (Bor (List Term))) → ps ≡ take k path → ls ≡ take k later → AreLevels ps (levels_of ls)
    left_levels ps ls e h = subst (λ z. AreLevels z (levels_of ls)) (sym e) (subst (λ z. AreLevels (take k path) (levels_of z)) (sym h) above.0)

    pub left_parts : (ps : List ℕ) (ls : List (Bor (List Term))) → ps ≡ take k path → ls ≡ take k later → later_parts [] path (levels_of later) ≡ later_parts [] ps (levels_of ls)
    left_parts ps ls e h = before ∙ ap (λ ts. parts_among (take k path) (suc n) (views ts) ++ those_above) (empty args.now none) ∙ sym (ap₂ (λ x y. later_parts [] x (levels_of y)) e h)
