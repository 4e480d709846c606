use Rattle.std.proofs.Common.{◌≡◌}
use Rattle.portfolio.proofs.StepOrigins.{numbers_behind}
use Rattle.portfolio.proofs.untouched.all_numbers.Given as goal

abbrev pub invariant-loop-place : goal.invariant-loop-place
invariant-loop-place l = l.numbers.items ≡ numbers_behind 0 l.place
