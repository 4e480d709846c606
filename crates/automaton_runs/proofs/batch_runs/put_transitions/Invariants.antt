use Rattle.std.proofs.Common.{◌↔◌, ◌⊎◌, ℕ, take}
use Rattle.number_sets.specs.Relation.{Relates}
use Rattle.number_sets.specs.Sets.{members}
use Rattle.automaton_runs.specs.Indexed.{pointed}
use Rattle.automaton_runs.specs.Reached.{HaveLeads}
use Rattle.automaton_runs.specs.Relations.{relations}
use Rattle.automaton_runs.specs.Shared.{IsShared}
use Rattle.automaton_runs.proofs.batch_runs.put_transitions.Given as goal

abbrev pub invariant-loop-transition : goal.invariant-loop-transition
invariant-loop-transition l = record {
  shared : IsShared (members l.applied.all.now) (relations l.applied.args.now) l.shared;
  made : (q k : ℕ) → Relates l.made q k ↔ (Relates l.fn.made q k
      ⊎ HaveLeads l.applied.f (members l.applied.all.now) (relations l.applied.args.now) (pointed (take l.transition-index l.transitions)) q k);
}
