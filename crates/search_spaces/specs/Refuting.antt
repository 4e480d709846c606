-- The evidence that is tried to show that conditions are never met: by caps, then by automata.
use Rattle.std.specs.Prelude.{ℕ, ◌≡◌, List, ◌∷◌, map, Some}
use Rattle.std.specs.List.{range_with_len}
use Rattle.rewriting.specs.Rules.{Condition, System}
use Rattle.certificates.specs.Prelude.{Automaton, InfeasibilityEvidence, by_caps, by_automaton, hypothesis_at}
use Rattle.search_spaces.specs.Grown.{GrowsTo}

-- caps, or the automaton that grows from the left side of the condition with a number
pub data Refuting : Type 0 where
  try_caps : Refuting
  try_growth : ℕ → Refuting

-- the evidence that is tried; where there is no such condition, or growth passes a limit, there is none
abbrev pub Tries : System → List Condition → Refuting → InfeasibilityEvidence → Type 0
Tries sys cs try_caps e = e ≡ by_caps
Tries sys cs (try_growth k) e = (c : Condition) × (a : Automaton) × (hypothesis_at cs k ≡ Some c) × GrowsTo sys c.left a × (e ≡ by_automaton k a)

-- the automata for conditions 1 to n
abbrev pub growths : ℕ → List Refuting
growths n = map try_growth (range_with_len 1 n)

-- all that is tried for n conditions, in order
abbrev pub refutings : ℕ → List Refuting
refutings n = try_caps ∷ growths n
