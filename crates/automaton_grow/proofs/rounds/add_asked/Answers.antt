use Rattle.std.proofs.Common.{◌++◌, ◌∙◌, map, ap, subst}
use Rattle.std.specs.Prelude.{Contains}
use Rattle.automata.specs.Closed.{state_of}
use Rattle.automata.specs.Growth.{grown}
use Rattle.term_core.specs.Prelude.{view, rule_view}
use Rattle.term_core.proofs.Views.{view-Var, view-Fun}
use Rattle.cert_model.specs.EvidenceView.{transition_view}
use Rattle.automaton_grow.specs.Growing.{twins, AddAnswers}
use Rattle.automaton_grow.proofs.Parts.{asked_var, asked_app}
use Rattle.automaton_grow.proofs.rounds.add_asked.Goals as goal

pub returns-in-Var : goal.returns-in-Var
returns-in-Var c =
    let ds = map transition_view c.args.current.now in
    let a = map transition_view c.args.next.now.items in
    let b = map transition_view c.add_moved.new.next.items in
    let states = c.args.values.states.now in
    asked_var (rule_view c.args.placed.rule.now) c.args.placed.first ds states c.args.state c.in-Var.x a b c.add_moved.result (ap view c.in-Var.is ∙ view-Var c.in-Var.x)
    (subst (λ z. AddAnswers (Contains (twins z c.args.state ds)) a b c.add_moved.result) (c.state_of-from.ensures ∙ ap (λ z. state_of z states c.in-Var.x) c.requires.leaves) c.add_moved.ensures)

pub returns-in_ok-push_grown-in-Fun : goal.returns-in_ok-push_grown-in-Fun
returns-in_ok-push_grown-in-Fun c =
    let ds = map transition_view c.args.current.now in
    let states = c.args.values.states.now in
    let all =
    ap (map transition_view) c.deref.ensures.value ∙ c.in_ok-push_grown-in-Fun.ensures
    ∙ ap (λ z. map transition_view z ++ grown (state_of c.args.values.leaves.now states) c.args.placed.first (view c.args.placed.rule.now.right) c.args.state) c.new-grown.ensures.items
    ∙ ap (λ z. grown (state_of z states) c.args.placed.first (view c.args.placed.rule.now.right) c.args.state) c.requires.leaves in
    asked_app (rule_view c.args.placed.rule.now) c.args.placed.first ds states c.args.state c.in-Fun.field-0 _ (map transition_view c.deref.result.now)
    (map transition_view c.args.next.now.items) (map transition_view c.add_all.new.transitions.items) c.add_all.result
    (ap view c.in-Fun.is ∙ view-Fun c.in-Fun.field-0 c.in-Fun.field-1) all c.add_all.ensures
