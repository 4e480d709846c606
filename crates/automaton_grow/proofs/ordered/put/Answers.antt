use Rattle.std.proofs.Common.{ap}
use Rattle.automaton_grow.specs.Placing.{transition_of}
use Rattle.automaton_grow.proofs.Comparing.{put_view}
use Rattle.automaton_grow.proofs.ordered.put.Goals as goal

pub returns : goal.returns
returns c = put_view c.args.transitions.now.items c.insert.new.self.items _ _ c.args.at c.in_ok-insert.ensures.items
    (ap (λ z. transition_of c.args.symbol z c.args.target) c.in_ok-from_slice.ensures.items)
