use Rattle.std.proofs.Common.{drop, map}
use Rattle.term_core.specs.RuleView.{condition_view}
use Rattle.cops_write.specs.Text.{conditions_text, others_text}
use Rattle.cops_write.proofs.Growing.{Leads}
use Rattle.cops_write.proofs.writer.put_conditions.Given as goal

abbrev pub invariant-others : goal.invariant-others
invariant-others l =
    Leads l.fn.out.items (conditions_text l.names l.rule (map condition_view l.conds)) l.out.items (others_text l.names l.rule (map condition_view (drop l.cond-index l.rest)))
