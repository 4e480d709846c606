use Rattle.std.proofs.Common.{◌≡◌, ℕ, take, map}
use Rattle.std.specs.List.{filter}
use Rattle.cert_model.specs.EvidenceView.{transition_view}
use Rattle.automaton_runs.specs.Counted.{symbols_of}
use Rattle.automaton_runs.specs.Counting.{chosen}
use Rattle.automaton_runs.specs.Groups.{listed}
use Rattle.automaton_runs.specs.Indexed.{key_view, pointed}
use Rattle.automaton_runs.proofs.index.grouped.Given as goal

abbrev pub invariant-loop-transition : goal.invariant-loop-transition
invariant-loop-transition l = (q : ℕ) → pointed (listed l.groups q) ≡ filter (chosen (symbols_of l.arities) (key_view l.key) l.automaton.states q)
    (map transition_view (take l.transition-index l.transition-items))
