use Rattle.std.proofs.Common.{◌≡◌, ◌++◌, ◌∷◌, map, take}
use Rattle.automaton_runs.specs.Choices.{as_lists}
use Rattle.automaton_runs.proofs.listing.put_before.Given as goal

abbrev pub invariant-loop-list : goal.invariant-loop-list
invariant-loop-list l = as_lists l.out.items ≡ as_lists l.fn.out.items ++ map (λ list. l.state ∷ list) (as_lists (take l.list-index l.lists))
