-- The table that stands for the names while rules are read: each arity is there in full.
use Rattle.std.specs.Prelude.{◌≡◌, ◌<◌, ◌^◌, ℕ, List, [], ◌∷◌}
use Rattle.cops_names.specs.NameTable.{NameTable}
use Rattle.cops_read.specs.declared.read_names.ReadNames.TheInside.{Inside}

-- the names of some symbols with these arities
abbrev pub in_full : List (List ℕ × ℕ) → List ℕ → List (List ℕ × ℕ)
in_full [] ns = []
in_full (s ∷ ss) [] = []
in_full (s ∷ ss) (n ∷ ns) = (s.0, n) ∷ in_full ss ns

abbrev pub read_view : Inside → NameTable
read_view r = record { symbols = in_full r.names.symbols r.arities.items; variables = r.names.variables }

-- Some symbols stand with as many arities, and with the same where these have room in 32 bits.
abbrev pub AreCut : List (List ℕ × ℕ) → List ℕ → Type 0
AreCut [] [] = Unit {0}
AreCut [] (n ∷ ns) = ⊥
AreCut (s ∷ ss) [] = ⊥
AreCut (s ∷ ss) (n ∷ ns) = (n < 2 ^ 32 → s.1 ≡ n) × AreCut ss ns
