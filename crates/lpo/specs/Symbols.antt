-- The numbers of symbols by their heads.
use Rattle.std.specs.Prelude.{ℕ, ◌≡◌, ◌<◌, ◌⊎◌, List, slice_get, Option, None, Some}
use Rattle.rewriting.specs.Unraveling.{Head, file, auxiliary}

-- the order of heads: those of the file by number, then those of conditions by rule and condition
abbrev pub IsHeadBefore : Head → Head → Type 0
IsHeadBefore (file f) (file g) = f < g
IsHeadBefore (file f) (auxiliary i k) = Unit {0}
IsHeadBefore (auxiliary i k) (file f) = ⊥
IsHeadBefore (auxiliary i k) (auxiliary j l) = (i < j) ⊎ ((i ≡ j) × (k < l))

-- the symbol with a head, or that there is none
abbrev pub SymbolAnswers : List Head → Head → Option ℕ → Type 0
SymbolAnswers heads h (Some f) = slice_get heads f ≡ Some h
SymbolAnswers heads h None = (f : ℕ) → slice_get heads f ≡ Some h → ⊥
