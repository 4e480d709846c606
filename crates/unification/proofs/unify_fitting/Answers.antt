use Rattle.std.proofs.Common.{sym, ap, subst}
use Rattle.rewriting.specs.Prelude.{Fits, apply}
use Rattle.unifier_run.specs.Run.{value}
use Rattle.unifier_run.proofs.Values.{apply_nothing}
use Rattle.term_core.specs.View.{view}
use Rattle.unification.specs.Solving.{bindings, OutcomeAnswers}
use Rattle.unification.proofs.Whole.{answered}
use Rattle.unification.proofs.unify_fitting.Goals as goal

pub solve-requires-clause-known : goal.solve-requires-clause-known
solve-requires-clause-known c =
    λ known.
    let none = ap bindings c.new-found.ensures.items in (
      subst (λ b. Fits (apply (value b) (view c.args.a.now))) (sym none) (subst Fits (sym (apply_nothing (view c.args.a.now))) c.requires.first),
      subst (λ b. Fits (apply (value b) (view c.args.b.now))) (sym none) (subst Fits (sym (apply_nothing (view c.args.b.now))) c.requires.second),
    )

pub returns : goal.returns
returns c = answered (bindings c.new-found.result.items) (bindings c.solve.new.found.items) _ _ _ c.outcome.result (ap bindings c.new-found.ensures.items)
    c.in_ok-progress.ensures.solves (subst (λ es. OutcomeAnswers (bindings es) c.in_ok-progress.progress c.outcome.result) c.deref.ensures.value c.outcome.ensures)
