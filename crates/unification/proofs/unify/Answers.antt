use Rattle.std.proofs.Common.{ap, subst}
use Rattle.unification.specs.Solving.{bindings, OutcomeAnswers}
use Rattle.unification.proofs.Whole.{answered}
use Rattle.unification.proofs.unify.Goals as goal

pub returns : goal.returns
returns c = answered (bindings c.new-found.result.items) (bindings c.solve_all.new.found.items) _ _ _ c.outcome.result (ap bindings c.new-found.ensures.items)
    c.in_ok-progress.ensures.solves (subst (λ es. OutcomeAnswers (bindings es) c.in_ok-progress.progress c.outcome.result) c.deref.ensures.value c.outcome.ensures)
