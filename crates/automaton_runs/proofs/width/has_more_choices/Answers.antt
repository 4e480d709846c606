use Rattle.std.proofs.Common.{◌<◌, ◌*◌, ℕ, rules, arith, subst}
use Rattle.automaton_runs.proofs.Widths.{more_at_last}
use Rattle.automaton_runs.proofs.width.has_more_choices.Goals as goal

pub returns-then-choices-from : goal.returns-then-choices-from
returns-then-choices-from c = (
  λ _.
      let big : c.args.limit < c.occurrences.choices * c.from-choices.result = omega (arith, c.if-choices-from.true, c.from.ensures) in
      more_at_last c.occurrences.choices c.args.states c.occurrences.counter c.args.occurrences c.args.limit c.occurrences.invariant.power c.occurrences-test.true c.requires
      (subst (λ (n : ℕ). c.args.limit < c.occurrences.choices * n) c.from-choices.ensures big),
  λ _. search rules,
)
