use Rattle.std.proofs.Common.{◌≡◌, ◌≤◌, ◌^◌}
use Rattle.automaton_runs.proofs.width.has_more_choices.Given as goal

abbrev pub invariant-occurrences : goal.invariant-occurrences
invariant-occurrences l = record {
  power : l.choices ≡ l.states ^ l.counter;
  small : l.choices ≤ l.limit;
}
