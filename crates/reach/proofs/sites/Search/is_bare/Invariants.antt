use Rattle.std.proofs.Common.{drop}
use Rattle.rewriting.specs.Rules.{rule_at}
use Rattle.reach_lists.specs.Laws.{EachOf}
use Rattle.term_core.specs.View.{view}
use Rattle.reach.specs.Quiet.{IsWithoutConditions, IsBare}
use Rattle.reach.proofs.sites.Search.is_bare.Given as goal

abbrev pub invariant-numbers : goal.invariant-numbers
invariant-numbers l = EachOf (λ i. IsWithoutConditions (rule_at l.self.sys.now i)) (drop l.number-index l.numbers) → IsBare l.self.sys.now (view l.part)
