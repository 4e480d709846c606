-- What a proof costs, by its cases: the number of units for the whole, and up to the first valid certificate.
use Rattle.std.specs.Prelude.{ℕ, ◌≡◌, ◌+◌, List, [], ◌∷◌}
use Rattle.rewriting.specs.Rules.{System}
use Rattle.certificates.specs.Certificates.{Simplification, Certificate, simplified_certificate}
use Rattle.cops_names.specs.NameTable.{NameTable}
use Rattle.first_found.specs.Spaces.{Space, IsBarren}
use Rattle.search_spaces.specs.Texts.{HasText}
use Rattle.search_spaces.specs.Ortho.{ortho_space, IsOrthoCost}
use Rattle.search_spaces.specs.Peak.{peak_space, IsPeakCost}
use Rattle.quasi_space.specs.Measures.{MeasureTrials}
use Rattle.quasi_space.specs.Quasi.{quasi_space_by, IsQuasiCost}
use Rattle.quasi_space.specs.AllSpaces.{all_spaces_by}
use Rattle.simplified_spaces.specs.Standard.{Simplified, IsStandard}

module _ (by : System → MeasureTrials) (names : NameTable) where
  -- the three numbers of a system, together
  abbrev pub IsThree : System → ℕ → Type 0
  IsThree sys n = (a : ℕ) × (b : ℕ) × (c : ℕ) × IsOrthoCost sys a × IsPeakCost sys b × IsQuasiCost (by sys) sys c × (n ≡ a + b + c)

  -- those of the last system, if there are steps
  abbrev pub IsThreeBehind : List Simplification → System → ℕ → Type 0
  IsThreeBehind [] last n = n ≡ 0
  IsThreeBehind (s ∷ steps) last n = IsThree last n

  -- the whole
  pub record IsWhole (sys : System) (n : ℕ) : Type 0 where
    pub own : ℕ
    pub is_own : IsThree sys own
    pub standard : Simplified
    pub tried : ℕ
    pub is_standard : IsStandard sys standard tried
    pub behind : ℕ
    pub is_behind : IsThreeBehind standard.steps standard.last behind
    pub sum : n ≡ own + tried + behind

  -- what a space finds can be written behind the steps; n is its price there
  abbrev pub HoldsWith : List Simplification → Space Certificate → ℕ → Type 0
  HoldsWith steps S n = (c : Certificate) × S.Finds c n × HasText names (simplified_certificate steps c)

  abbrev pub HoldsNone : List Simplification → Space Certificate → Type 0
  HoldsNone steps S = (c : Certificate) (n : ℕ) → S.Finds c n → HasText names (simplified_certificate steps c) → ⊥

  -- the whole of each space before the first of the last system that holds a certificate with the steps, and the price of that one there
  pub data IsFirstBehind (steps : List Simplification) (last : System) : ℕ → Type 0 where
    in_first : (n : ℕ) → HoldsWith steps (ortho_space names last) n → IsFirstBehind steps last n
    in_second : (a n : ℕ) → HoldsNone steps (ortho_space names last) → IsOrthoCost last a → HoldsWith steps (peak_space names last) n → IsFirstBehind steps last (a + n)
    in_third : (a b n : ℕ) → HoldsNone steps (ortho_space names last) → HoldsNone steps (peak_space names last) → IsOrthoCost last a → IsPeakCost last b
        → HoldsWith steps (quasi_space_by (by last) names last) n → IsFirstBehind steps last (a + b + n)

  -- no space of the last system holds one
  pub record HoldNone (steps : List Simplification) (last : System) : Type 0 where
    pub ortho : HoldsNone steps (ortho_space names last)
    pub peak : HoldsNone steps (peak_space names last)
    pub quasi : HoldsNone steps (quasi_space_by (by last) names last)

  abbrev pub NoneBehind : List Simplification → System → Type 0
  NoneBehind [] last = Unit {0}
  NoneBehind (s ∷ steps) last = HoldNone (s ∷ steps) last

  abbrev pub SomeBehind : List Simplification → System → ℕ → Type 0
  SomeBehind [] last n = ⊥
  SomeBehind (s ∷ steps) last n = IsFirstBehind (s ∷ steps) last n

  -- up to the first valid certificate, or the whole
  pub data IsProofPrice (sys : System) : ℕ → Type 0 where
    in_own : (c : Certificate) (n : ℕ) → (all_spaces_by (by sys) names sys).Finds c n → IsProofPrice sys n
    in_behind : (own tried n : ℕ) (x : Simplified) → IsBarren (all_spaces_by (by sys) names sys) → IsThree sys own → IsStandard sys x tried
        → SomeBehind x.steps x.last n → IsProofPrice sys (own + tried + n)
    in_none : (n : ℕ) → IsBarren (all_spaces_by (by sys) names sys) → ((x : Simplified) (w : ℕ) → IsStandard sys x w → NoneBehind x.steps x.last)
        → IsWhole sys n → IsProofPrice sys n
