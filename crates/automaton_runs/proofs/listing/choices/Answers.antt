use Rattle.std.proofs.Common.{◌∙◌, ap, ap₂, arith}
use Rattle.automaton_runs.specs.Choices.{as_lists, before_each}
use Rattle.automaton_runs.proofs.ChoiceLists.{choices_before}
use Rattle.automaton_runs.proofs.listing.choices.Goals as goal

pub pools-preserved : goal.pools-preserved
pools-preserved c = record {
  within = omega (arith, c.pools.invariant.within);
  made =
      c.in_ok-made-2.ensures ∙ ap₂ before_each c.deref.ensures.value (ap as_lists c.deref-in-pools.ensures.value ∙ c.pools.invariant.made)
      ∙ choices_before c.args.pools.now c.pools.place c.index-pools-place.result c.pools-test.true c.pools.invariant.within c.index-pools-place.is;
}
