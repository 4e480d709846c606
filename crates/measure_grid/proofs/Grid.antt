-- The leaves below a prefix are its extensions in the grid.
use Rattle.std.proofs.Common.{ℕ, zero, suc, ◌≡◌, ◌≤◌, List, [], ◌∷◌, ◌++◌, map, flat_map, zip, replicate, length, sym, ap, arith, append-nil}
use Rattle.std.proofs.lemmas.List.{length-append, length-map}
use Rattle.rewriting.specs.Prelude.{System, Head, file, auxiliary, heads, unraveled}
use Rattle.certificates.specs.Certificates.{LinearEntry}
use Rattle.interpretations.specs.Linear.{Interpretation}
use Rattle.first_found.specs.Trees.{leaves}
use Rattle.first_found.proofs.Trees.{EachNode, each_mapped, IsFull}
use Rattle.first_found.proofs.Grown.{leaf, leaves_grown}
use Rattle.measure_grid.specs.Grid.{choices, active_numbers, passive_numbers, ranges, entries_of, columns}
use Rattle.measure_grid.specs.Pruned.{Prefix, extensions}

abbrev pub node : Interpretation → List (List LinearEntry) → Prefix
node es behind = record { entries = es; behind = behind }

-- each symbol has an entry in it
abbrev pub whole : Interpretation → Prefix
whole es = node es []

-- of which nothing is said
each_is : (column : List LinearEntry) → EachNode (λ e. Unit {0}) column
each_is [] = tt
each_is (e ∷ column) = (tt, each_is column)

pub leaves_are : (behind : List (List LinearEntry)) (es : Interpretation) → leaves extensions (length behind) (node es behind) ≡ map (leaf extensions whole es) (choices behind)
leaves_are [] es = ap (λ (z : Interpretation). whole z ∷ []) (sym (append-nil es))
leaves_are (column ∷ behind) es =
    leaves_grown extensions whole (length behind) es (λ e. Unit {0}) (λ e. node (es ++ e ∷ []) behind) (λ e. e) (λ e. choices behind)
    (λ e any. leaves_are behind (es ++ e ∷ [])) column (each_is column)

-- each list has a member
abbrev AreSome : {X : Type 0} → List (List X) → Type 0
AreSome [] = Unit {0}
AreSome (xs ∷ rest) = (1 ≤ length xs) × AreSome rest

choices_some : {X : Type 0} (ls : List (List X)) → AreSome ls → 1 ≤ length (choices ls)
choices_some [] h = omega arith
choices_some ([] ∷ rest) (h, hs) = absurd (omega (arith, h))
choices_some ((x ∷ xs) ∷ rest) (h, hs) =
    let below = choices_some rest hs in
    let same = length-map (choices rest) (λ c. x ∷ c) in
    let sum = length-append (map (λ c. x ∷ c) (choices rest)) (flat_map (λ x. map (λ c. x ∷ c) (choices rest)) xs) in omega (arith, below, same, sum)

many_some : (n : ℕ) (xs : List ℕ) → 1 ≤ length xs → AreSome (replicate n xs)
many_some zero xs h = tt
many_some (suc n) xs h = (h, many_some n xs h)

ranges_some : (head : Head) (n : ℕ) → AreSome (ranges head n)
ranges_some (file f) zero = (omega arith, tt)
ranges_some (auxiliary i k) zero = (omega arith, tt)
ranges_some (file f) (suc n) = (omega arith, (omega arith, many_some n active_numbers (omega arith)))
ranges_some (auxiliary i k) (suc n) = (omega arith, (omega arith, many_some n passive_numbers (omega arith)))

entries_some : (ps : List (Head × ℕ)) → AreSome (map entries_of ps)
entries_some [] = tt
entries_some ((head, n) ∷ ps) =
    let some = choices_some (ranges head n) (ranges_some head n) in
    let same = length-map {B = LinearEntry} (choices (ranges head n)) (λ numbers. record { head = head; coefficients = numbers }) in (omega (arith, some, same), entries_some ps)

-- below each prefix there is an interpretation
full : (behind : List (List LinearEntry)) → AreSome behind → (es : Interpretation) → IsFull extensions (length behind) (node es behind)
full [] h es = tt
full (column ∷ behind) (h, hs) es =
    let child : LinearEntry → Prefix = λ e. node (es ++ e ∷ []) behind in
    let same = length-map column child in
    (omega (arith, h, same), each_mapped (λ e. Unit {0}) (IsFull extensions (length behind)) child (λ e any. full behind hs (es ++ e ∷ [])) column (each_is column))

pub columns_full : (sys : System) (es : Interpretation) → IsFull extensions (length (columns sys)) (node es (columns sys))
columns_full sys es = full (columns sys) (entries_some (zip (heads sys) (unraveled sys).arities)) es
