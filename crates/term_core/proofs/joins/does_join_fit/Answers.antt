use Rattle.term_core.specs.RuleView.{condition_view}
use Rattle.term_core.proofs.JoinRules.{left_large, told_by}
use Rattle.term_core.proofs.joins.does_join_fit.Goals as goal

pub returns-in_default : goal.returns-in_default
returns-in_default c = ((λ e. absurd (cc)), (λ h. absurd (left_large (condition_view c.args.cond.now) c.in_default.ensures.none h)))

pub returns : goal.returns
returns c =
    let t = told_by (condition_view c.args.cond.now) c.in-Some.room c.in-Some.ensures.nodes c.in-Some.ensures.levels
    c.room_after-2.result c.room_after-2.ensures.nodes c.room_after-2.ensures.levels c.room_after-2.ensures.none in
    rw c.is_some.ensures t
