use Rattle.std.proofs.Common.{◌≡◌, ◌<◌, ◌^◌, ◌++◌, ◌∙◌, [], length, map, ap, sym, subst, Ok, Err}
use Rattle.automata.specs.Closed.{state_of}
use Rattle.automata.specs.Growth.{grown}
use Rattle.term_core.proofs.Rules.{handed_on}
use Rattle.term_core.specs.View.{view}
use Rattle.cert_model.specs.EvidenceView.{transition_view}
use Rattle.automaton_grow.proofs.Asking.{first_partial}
use Rattle.automaton_grow.proofs.Rules.{symbols_few}
use Rattle.automaton_grow.proofs.Parts.{start_inside, started, start_error}
use Rattle.automaton_grow.proofs.rounds.start.Goals as goal

pub add_basic-requires-clause-few : goal.add_basic-requires-clause-few
add_basic-requires-clause-few c = subst (λ z. length z < 2 ^ 31) (sym c.arities.ensures) (symbols_few c.args.sys.now c.requires.system)

pub returns-in_err-add_basic : goal.returns-in_err-add_basic
returns-in_err-add_basic c =
    let there : map transition_view c.push_grown.new.out.items ≡ grown (state_of [] []) 2 (view c.args.s.now) 1 = c.in_ok-push_grown.ensures
    ∙ ap (λ z. map transition_view z ++ grown (state_of [] []) 2 (view c.args.s.now) 1) c.new-inside.ensures.items in
    let some = start_inside (view c.args.s.now) (map transition_view c.deref.result.now) (ap (map transition_view) c.deref.ensures.value ∙ there) in
    rw (handed_on _ _ c.from_residual-in_err-add_basic.ensures.1)
    (start_error c.args.sys.now (view c.args.s.now) (map transition_view c.add_basic.new.transitions.items) c.in_err-add_basic.field-0.0
    (started c.args.sys.now (view c.args.s.now) c.arities.result.now (map transition_view c.deref.result.now) (map transition_view c.new-transitions.result.items)
    (map transition_view c.add_basic.new.transitions.items) (Err c.in_err-add_basic.field-0.0) c.arities.ensures some
    (ap (map transition_view) c.new-transitions.ensures.items) c.in_err-add_basic.ensures))

pub returns : goal.returns
returns c =
    let there : map transition_view c.push_grown.new.out.items ≡ grown (state_of [] []) 2 (view c.args.s.now) 1 = c.in_ok-push_grown.ensures
    ∙ ap (λ z. map transition_view z ++ grown (state_of [] []) 2 (view c.args.s.now) 1) c.new-inside.ensures.items in
    let some = start_inside (view c.args.s.now) (map transition_view c.deref.result.now) (ap (map transition_view) c.deref.ensures.value ∙ there) in
    let all = started c.args.sys.now (view c.args.s.now) c.arities.result.now (map transition_view c.deref.result.now) (map transition_view c.new-transitions.result.items)
    (map transition_view c.add_basic.new.transitions.items) (Ok tt) c.arities.ensures some (ap (map transition_view) c.new-transitions.ensures.items) c.in_ok-add_basic.ensures in
    first_partial c.args.sys.now (view c.args.s.now) (map transition_view c.add_basic.new.transitions.items) all.0 all.1
