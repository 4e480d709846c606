use Rattle.std.proofs.Common.{◌≡◌, ◌++◌, map}
use Rattle.term_core.specs.HeadView.{head_view}
use Rattle.unravel.specs.RuleAnswers.{rule_heads}
use Rattle.unravel.proofs.symbols.push_heads.Given as goal

abbrev pub invariant-loop-k : goal.invariant-loop-k
invariant-loop-k l = map head_view l.out.items ≡ map head_view l.fn.out.items ++ rule_heads l.rule l.k
