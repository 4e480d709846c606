use Rattle.std.proofs.Common.{map, subst, OnOk}
use Rattle.rewriting.specs.Infeasibility.{IsInfeasible}
use Rattle.term_core.specs.RuleView.{condition_view}
use Rattle.infeasible.proofs.check_infeasible.Goals as goal

pub returns-clause-sound : goal.returns-clause-sound
returns-clause-sound c = subst (λ s. OnOk c.check_infeasible_in.result (IsInfeasible s (map condition_view c.args.conds.now))) c.in_ok-indexed.ensures c.check_infeasible_in.ensures.sound
