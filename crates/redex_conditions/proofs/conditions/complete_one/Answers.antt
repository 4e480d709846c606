use Rattle.term_core.proofs.Views.{view-Var}
use Rattle.redex_conditions.proofs.Completing.{new_here, new_others}
use Rattle.redex_conditions.proofs.conditions.complete_one.Goals as goal

pub returns-in-None-clause-here : goal.returns-in-None-clause-here
returns-in-None-clause-here c = new_here _ _ _ _ _ _ _ _ (view-Var _) c.get.ensures c.in-None.is c.bind.ensures.ok

pub returns-in-None-clause-others : goal.returns-in-None-clause-others
returns-in-None-clause-others c = new_others _ _ _ _ _ c.bind.ensures.ok
