use Rattle.std.proofs.Common.{List, map, sym, subst}
use Rattle.certificates.specs.Sizes.{DoConditionsFit}
use Rattle.term_core.specs.RuleView.{condition_view}
use Rattle.term_core.specs.declared.systems.Cond.{Cond}
use Rattle.query_text.proofs.Queries.{queries_within_limits}
use Rattle.search_cases.proofs.asked.of_system.Goals as goal

pub are_replayed-requires-clause-fit : goal.are_replayed-requires-clause-fit
are_replayed-requires-clause-fit c =
    subst (λ (cs : List Cond). DoConditionsFit (map condition_view cs)) (sym c.deref.ensures.value) (queries_within_limits _ _ _ _ _ c.in-Ok.ensures.answered.query).fit
