use Rattle.std.proofs.Common.{◌↔◌, ◌⊎◌, ◌<◌, ℕ, filter}
use Rattle.number_sets.specs.Relation.{Relates}
use Rattle.number_sets.specs.Sets.{members}
use Rattle.automaton_runs.specs.Counting.{chosen, first_key}
use Rattle.automaton_runs.specs.Reached.{HaveLeads}
use Rattle.automaton_runs.specs.Relations.{relations}
use Rattle.automaton_runs.proofs.batch_runs.put_by_first.Given as goal

abbrev pub invariant-loop-state : goal.invariant-loop-state
invariant-loop-state l =
    (q k : ℕ) → Relates l.made q k ↔ (Relates l.fn.made q k
    ⊎ ((s : ℕ) × (s < l.state) × (((p : ℕ) × Relates l.first s p) × HaveLeads l.applied.f (members l.applied.all.now) (relations l.applied.args.now)
    (filter (chosen l.index.symbols first_key l.index.automaton.states s) l.index.automaton.transitions) q k)))
