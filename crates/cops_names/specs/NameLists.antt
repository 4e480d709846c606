-- Lists of names.
use Rattle.std.specs.Prelude.{ℕ, Bool, if◌then◌else◌, List, [], ◌∷◌, ◌++◌, position, Option}
use Rattle.std.specs.List.{list_any}
use Rattle.std.specs.Str.{bytes_eq}

-- where a name stands in a list
abbrev pub name_index : List (List ℕ) → List ℕ → Option ℕ
name_index names name = position (bytes_eq name) names

abbrev pub is_among : List (List ℕ) → List ℕ → Bool
is_among names name = list_any (bytes_eq name) names

-- the list, and behind it the name where the list lacks it
abbrev pub with_name : List (List ℕ) → List ℕ → List (List ℕ)
with_name names name = if is_among names name then names else (names ++ name ∷ [])

-- the list, and behind it those of the other names that it lacks, each once
abbrev pub with_names : List (List ℕ) → List (List ℕ) → List (List ℕ)
with_names names [] = names
with_names names (x ∷ xs) = with_names (with_name names x) xs
