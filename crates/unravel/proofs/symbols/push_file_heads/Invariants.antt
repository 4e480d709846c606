use Rattle.std.proofs.Common.{◌≡◌, ◌++◌, map}
use Rattle.term_core.specs.HeadView.{head_view}
use Rattle.unravel.specs.RuleAnswers.{first_heads}
use Rattle.unravel.proofs.symbols.push_file_heads.Given as goal

abbrev pub invariant-loop-f : goal.invariant-loop-f
invariant-loop-f l = map head_view l.out.items ≡ map head_view l.fn.out.items ++ first_heads l.f
