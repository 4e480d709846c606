-- What is tried, in order, to simplify a system: for each rule that has conditions, to drop it by caps, then by the automaton
-- that grows from the left side of each condition, and then to inline each condition.
use Rattle.std.specs.Prelude.{ℕ, suc, ◌≡◌, ◌+◌, ◌*◌, List, [], ◌∷◌, ◌++◌, map, length, Some}
use Rattle.std.specs.List.{range_with_len}
use Rattle.rewriting.specs.Rules.{Condition, Rule, System, rule_at}
use Rattle.certificates.specs.Prelude.{InfeasibilityEvidence, Simplification, dropped, inlined}
use Rattle.simplifications.specs.Simplifying.{Simplifies}
use Rattle.first_found.specs.Items.{cost_of}
use Rattle.search_spaces.specs.Refuting.{Refuting, Tries, refutings}

pub data Try : Type 0 where
  try_drop : ℕ → Refuting → Try
  try_inline : ℕ → ℕ → Try

-- the step that is tried; where no automaton grows within the limits there is none
abbrev pub Offers : System → Try → Simplification → Type 0
Offers sys (try_drop i item) s = (r : Rule) × (e : InfeasibilityEvidence) × (rule_at sys i ≡ Some r) × Tries sys r.conditions item e × (s ≡ dropped i e)
Offers sys (try_inline i k) s = s ≡ inlined i k

-- the try gives a good step, and what it leads to
abbrev pub GivesStep : System → Try → Simplification × System → Type 0
GivesStep sys t p = Offers sys t p.0 × Simplifies sys p.0 p.1

-- what is tried for rule i, which has these conditions
abbrev pub tries_of : ℕ → List Condition → List Try
tries_of i [] = []
tries_of i (c ∷ cs) = map (try_drop i) (refutings (length (c ∷ cs))) ++ map (try_inline i) (range_with_len 1 (length (c ∷ cs)))

-- for rules, the first of which has the number i
abbrev pub tries_from : ℕ → List Rule → List Try
tries_from i [] = []
tries_from i (r ∷ rs) = tries_of i r.conditions ++ tries_from (suc i) rs

abbrev pub tries : System → List Try
tries sys = tries_from 1 sys.rules

-- a rule with c conditions, c at least 1, has 2c + 1 tries
abbrev pub count_of : List Condition → ℕ
count_of [] = 0
count_of (c ∷ cs) = 2 * length (c ∷ cs) + 1

abbrev pub try_count : Rule → ℕ
try_count r = count_of r.conditions

-- the tries of a system
abbrev pub all_tries : System → ℕ
all_tries sys = cost_of try_count sys.rules
