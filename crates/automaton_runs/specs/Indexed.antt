-- Transitions by a number.
use Rattle.std.specs.Prelude.{ℕ, ◌≡◌, List, map, filter}
use Rattle.std.specs.Borrow.{Bor}
use Rattle.certificates.specs.Evidence as math
use Rattle.cert_model.specs.EvidenceView.{transition_view}
use Rattle.cert_model.specs.declared.evidence.Transition.{Transition}
use Rattle.automaton_runs.specs.Counted.{Indexed}
use Rattle.automaton_runs.specs.Counting as counting
use Rattle.automaton_runs.specs.Counting.{symbol_key, first_key, target_key, chosen}
use Rattle.automaton_runs.specs.Groups.{listed}
use Rattle.automaton_runs.specs.declared.groups.Groups.{Groups}
use Rattle.automaton_runs.specs.declared.index.Key.{Key}
use Rattle.automaton_runs.specs.declared.index.Key.TheVariants.{Symbol, FirstArgument, Target}

abbrev pub key_view : Key → counting.Key
key_view Symbol = symbol_key
key_view FirstArgument = first_key
key_view Target = target_key

-- the transitions that references point to
abbrev pub pointed : List (Bor Transition) → List math.Transition
pointed ts = map (λ t. transition_view t.now) ts

-- at each number stand the transitions that count and have it, in order
abbrev pub IsGroupedBy : counting.Key → Indexed → Groups (Bor Transition) → Type 0
IsGroupedBy key a groups = (q : ℕ) → pointed (listed groups q) ≡ filter (chosen a.symbols key a.automaton.states q) a.automaton.transitions
