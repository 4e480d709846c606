use Rattle.std.proofs.Common.{◌≡◌, ◌++◌, drop}
use Rattle.term_core.specs.View.{views}
use Rattle.automaton_runs.specs.Choices.{as_lists}
use Rattle.automaton_runs.specs.Pools.{pools_from}
use Rattle.automaton_runs.proofs.pools.+put_pools.Given as goal

abbrev pub invariant-put_pools-loop-place : goal.invariant-put_pools-loop-place
invariant-put_pools-loop-place l = as_lists l.pools.items ++ pools_from l.index l.f l.place (views (drop l.place l.args)) ≡ as_lists l.fn.pools.items ++ pools_from l.index l.f 0 (views l.args)
