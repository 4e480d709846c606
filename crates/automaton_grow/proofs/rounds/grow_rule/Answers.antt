use Rattle.std.proofs.Common.{◌≤◌, ◌^◌, length, map, subst, sym, arith}
use Rattle.rewriting.specs.Variables.{variable_occurrences}
use Rattle.term_core.specs.Prelude.{view, rule_view}
use Rattle.cert_model.specs.EvidenceView.{transition_view, automaton_view}
use Rattle.automaton_runs.specs.Counted.{Indexed}
use Rattle.automaton_runs.specs.Arrivals.{arrival_view, AreArrivals}
use Rattle.automaton_grow.specs.Growing.{AddAnswers}
use Rattle.automaton_grow.specs.Rounds.{IsAskedByRows}
use Rattle.automaton_grow.proofs.Parts.{rows_rule}
use Rattle.automaton_grow.proofs.rounds.grow_rule.Goals as goal

pub arrivals-requires-clause-few : goal.arrivals-requires-clause-few
arrivals-requires-clause-few c =
    let few : c.args.current.now.states ^ length (variable_occurrences (view c.args.rule.now.left)) ≤ 1000000 = omega (arith, c.requires.narrow) in
    subst (λ (z : Indexed). z.automaton.states ^ length (variable_occurrences (view c.args.rule.now.left)) ≤ 1000000) (sym c.requires.index) few

pub returns : goal.returns
returns c =
    let r = rule_view c.args.rule.now in
    let a = map transition_view c.args.next.now.items in
    let b = map transition_view c.add_rule.new.next.items in
    rows_rule (automaton_view c.args.current.now) c.args.first r (map arrival_view c.in_ok-rows.rows.items) a b c.add_rule.result c.requires.states
    (subst (λ (z : Indexed). AreArrivals z r.left (map arrival_view c.in_ok-rows.rows.items)) c.requires.index c.in_ok-rows.ensures)
    (subst (λ z. AddAnswers (IsAskedByRows c.args.first r (map transition_view c.args.current.now.transitions.items) (map arrival_view z)) a b c.add_rule.result) c.deref-2.ensures.value
    (subst (λ z. AddAnswers (IsAskedByRows c.args.first r (map transition_view z) (map arrival_view c.deref-2.result.now)) a b c.add_rule.result) c.deref.ensures.value c.add_rule.ensures))
