use Rattle.std.proofs.Common.{◌↔◌, ◌<◌, ℕ, length, ap, subst}
use Rattle.rewriting.specs.Lists.{IsAmong}
use Rattle.number_sets.specs.Sets.{members}
use Rattle.automaton_runs.specs.Choices.{Batch}
use Rattle.automaton_runs.proofs.batch.Batch.all.Goals as goal

pub returns : goal.returns
returns c k = subst (λ (n : ℕ). IsAmong k (members c.all.result.now) ↔ (k < n)) (ap (λ (b : Batch). length b.tails) c.self.view_is) (c.all.ensures k)
