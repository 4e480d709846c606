use Rattle.std.proofs.Common.{subst}
use Rattle.rewriting.specs.Lists.{IsAmong}
use Rattle.rewriting.proofs.Members.{none_among}
use Rattle.number_sets.specs.Sets.{members}
use Rattle.automaton_runs.proofs.sharing.clear.Goals as goal

pub returns : goal.returns
returns c = none_among (members c.keep_shared.new.self) (λ k h. subst (IsAmong k) c.new.ensures ((c.keep_shared.ensures k).0 h).1)
