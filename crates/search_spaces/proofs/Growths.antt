-- The automata that are left to try, and numbers in a row.
use Rattle.std.proofs.Common.{ℕ, suc, ◌≡◌, ◌+◌, ◌-◌, ◌<◌, ◌≤◌, List, [], ◌∷◌, ◌++◌, map, sym, ap, ◌∙◌, arith}
use Rattle.std.specs.List.{range_with_len}
use Rattle.std.proofs.lemmas.List.{map-id}
use Rattle.std.proofs.lemmas.List.FromFn.{map-range_with_len_more}
use Rattle.search_spaces.specs.Refuting.{Refuting, try_growth, growths}

-- those for conditions behind the first k of n
abbrev pub growths_behind : ℕ → ℕ → List Refuting
growths_behind k n = map try_growth (range_with_len (k + 1) (n - k))

pub all_behind : (n : ℕ) → growths_behind 0 n ≡ growths n
all_behind n = ap (λ m. map try_growth (range_with_len 1 m)) (omega arith)

pub next_behind : (k n : ℕ) → k < n → growths_behind k n ≡ try_growth (k + 1) ∷ growths_behind (k + 1) n
next_behind k n less = let one_less : n - k ≡ suc (n - (k + 1)) = omega (arith, less) in ap (λ m. map try_growth (range_with_len (k + 1) m)) one_less

pub none_behind : (k n : ℕ) → n ≤ k → growths_behind k n ≡ []
none_behind k n most = let none : n - k ≡ 0 = omega (arith, most) in ap (λ m. map try_growth (range_with_len (k + 1) m)) none

-- one number more
pub range_more : (a n j : ℕ) → a + n ≡ j → range_with_len a (n + 1) ≡ range_with_len a n ++ j ∷ []
range_more a n j e =
    sym (map-id (range_with_len a (n + 1))) ∙ map-range_with_len_more (λ (k : ℕ). k) a n j e ∙ ap (λ (ks : List ℕ). ks ++ j ∷ []) (map-id (range_with_len a n))
