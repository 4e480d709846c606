use Rattle.std.proofs.Common.{Ok, refl, subst}
use Rattle.term_core.proofs.Rules.{handed_on}
use Rattle.step_search.specs.Answers.{TryAnswers}
use Rattle.cc_count.proofs.Spending.{none_left}
use Rattle.step_search.proofs.Segments.{one_stops, one_given, one_nothing, one_fails}
use Rattle.step_search.proofs.walks.walk_one.Goals as goal

pub returns-then-not-take : goal.returns-then-not-take
returns-then-not-take c = λ t at. one_stops c.args.sys.now t c.args.budget.now c.take.new.self (none_left c.args.budget.now c.if-not-take.ensures.some.1) (c.if-not-take.ensures.none refl)

pub returns-in-Some : goal.returns-in-Some
returns-in-Some c =
    λ t at. one_given c.args.sys.now t c.args.budget.now c.take.new.self (c.if-not-take.ensures.taken refl) c.in-Some.made
    (subst (λ z. TryAnswers c.args.sys.now t (Ok z)) c.in-Some.is (c.in_ok-found.ensures t at))

pub returns-in-None : goal.returns-in-None
returns-in-None c =
    λ t at. one_nothing c.args.sys.now t c.args.budget.now c.take.new.self (c.if-not-take.ensures.taken refl)
    (subst (λ z. TryAnswers c.args.sys.now t (Ok z)) c.in-None.is (c.in_ok-found.ensures t at))

pub returns-in_err-found : goal.returns-in_err-found
returns-in_err-found c =
    λ t at. rw (handed_on _ _ c.from_residual.ensures.1)
    (one_fails c.args.sys.now t c.args.budget.now c.take.new.self (c.if-not-take.ensures.taken refl) c.in_err-found.field-0.0)
