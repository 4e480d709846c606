-- A grid of linear interpretations.
use Rattle.std.specs.Prelude.{ℕ, zero, suc, ◌≡◌, List, [], ◌∷◌, map, flat_map, zip, replicate}
use Rattle.rewriting.specs.Prelude.{System, Head, file, auxiliary, heads, unraveled}
use Rattle.certificates.specs.Certificates.{LinearEntry, MeasureCertificate, linear_measure}
use Rattle.interpretations.specs.Linear.{Interpretation}
use Rattle.interpretations.specs.Judgement.{good}
use Rattle.interpretations.specs.Judged.{IsInterpretationJudged}

-- one member of each list, in lexicographic order
abbrev pub choices : {X : Type 0} → List (List X) → List (List X)
choices [] = [] ∷ []
choices (xs ∷ rest) = flat_map (λ x. map (λ c. x ∷ c) (choices rest)) xs

-- the numbers that are tried for an active argument, and for the constant of a symbol with arguments
abbrev pub active_numbers : List ℕ
active_numbers = 1 ∷ 2 ∷ 3 ∷ []

-- for the other arguments
abbrev pub passive_numbers : List ℕ
passive_numbers = 0 ∷ 1 ∷ []

-- for the constant of a symbol without arguments
abbrev pub constant_numbers : List ℕ
constant_numbers = 0 ∷ 1 ∷ 2 ∷ 3 ∷ []

-- those for the constant and the coefficients of a symbol with so many arguments; of an auxiliary symbol the first argument alone is active
abbrev pub ranges : Head → ℕ → List (List ℕ)
ranges head zero = constant_numbers ∷ []
ranges (file f) (suc n) = active_numbers ∷ active_numbers ∷ replicate n active_numbers
ranges (auxiliary i k) (suc n) = active_numbers ∷ active_numbers ∷ replicate n passive_numbers

-- the entries that are tried for a symbol with so many arguments
abbrev pub entries_of : Head × ℕ → List LinearEntry
entries_of (head, n) = map (λ numbers. record { head = head; coefficients = numbers }) (choices (ranges head n))

-- those for each symbol of the unraveled system
abbrev pub columns : System → List (List LinearEntry)
columns sys = map entries_of (zip (heads sys) (unraveled sys).arities)

-- an entry for each symbol, in lexicographic order of all numbers of all entries
abbrev pub grid : System → List Interpretation
grid sys = choices (columns sys)

-- the interpretation is judged good, and this is the measure
abbrev pub GivesMeasure : System → Interpretation → MeasureCertificate → Type 0
GivesMeasure sys es m = (m ≡ linear_measure es) × IsInterpretationJudged sys es good
