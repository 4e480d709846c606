use Rattle.std.proofs.Common.{◌≤◌, map, length, take}
use Rattle.term_core.specs.RuleView.{rule_view}
use Rattle.cert_model.specs.EvidenceView.{transition_view}
use Rattle.automaton_runs.specs.Arrivals.{arrival_view}
use Rattle.automaton_grow.specs.Growing.{IsAdded}
use Rattle.automaton_grow.specs.Rounds.{IsAskedByRows}
use Rattle.automaton_grow.proofs.rounds.add_rule.Given as goal

abbrev pub invariant-loop-row : goal.invariant-loop-row
invariant-loop-row l =
    IsAdded (IsAskedByRows l.placed.first (rule_view l.placed.rule.now) (map transition_view l.current) (map arrival_view (take l.row-index l.rows))) (map transition_view l.fn.next.items)
    (map transition_view l.next.items) × (length (map transition_view l.next.items) ≤ 5000)
