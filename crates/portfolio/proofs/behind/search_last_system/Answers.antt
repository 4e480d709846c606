use Rattle.std.proofs.Common.{map, ◌∙◌, sym, subst}
use Rattle.cert_model.specs.CertificateView.{simp_view}
use Rattle.simplifications.specs.Simplifying.{AllSimplify}
use Rattle.quasi_space.specs.Measures.{pruned_measures}
use Rattle.proof_spaces.specs.Proofs.{three_with_steps}
use Rattle.portfolio.proofs.behind.search_last_system.Goals as goal
use Rattle.search_answers.specs.Answers.{Searches}
use Rattle.quasi_space.specs.Endings.{MayEndLast}
use Rattle.portfolio.specs.StepAnswers.{behind_ending}

pub overlaps_behind-requires-clause-steps : goal.overlaps_behind-requires-clause-steps
overlaps_behind-requires-clause-steps c =
    subst (λ ss. AllSimplify c.args.sys.now (map simp_view ss) c.in_ok-prepared.prepared) (sym c.deref.ensures.value)
    (subst (AllSimplify c.args.sys.now (map simp_view c.args.simplified.steps.items)) (sym (c.in_ok-prepared.ensures ∙ c.in_ok-indexed.ensures)) c.requires.steps)

pub returns-clause-searched : goal.returns-clause-searched
returns-clause-searched c =
    subst (λ s. Searches behind_ending (MayEndLast (three_with_steps pruned_measures c.args.names.now (map simp_view c.args.simplified.steps.items) s)) c.args.budget.now
    c.search_three_behind.new.budget c.search_three_behind.result)
    (c.in_ok-prepared.ensures ∙ c.in_ok-indexed.ensures) c.search_three_behind.ensures.searched
