use Rattle.std.proofs.Common.{◌↔◌, ◌∙◌, sym, ap, subst, map, take, List}
use Rattle.std.specs.List.{filter}
use Rattle.std.proofs.lemmas.List.{take_all}
use Rattle.general_lemmas.proofs.Places.{map-take_read}
use Rattle.certificates.specs.Evidence.{Transition}
use Rattle.cert_model.specs.EvidenceView.{transition_view}
use Rattle.rewriting.specs.Lists.{IsAmong}
use Rattle.automaton_runs.specs.Counted.{symbols_of}
use Rattle.automaton_runs.specs.Counting.{counts}
use Rattle.automaton_runs.specs.Twins.{known_view}
use Rattle.automaton_runs.proofs.Twins.{known_more}
use Rattle.automaton_runs.proofs.index.known_transitions.Goals as goal

pub loop-transition-preserved : goal.loop-transition-preserved
loop-transition-preserved c = λ u.
    let n = c.args.automaton.now.states in
    let items = c.deref-transition-items.result.now in
    let i = c.loop-transition.transition-index in
    let new = map known_view c.put_known.new.known.keys in
    subst (λ (ts : List Transition). IsAmong u new ↔ IsAmong u (filter (counts (symbols_of c.args.arities) n) ts))
    (sym (map-take_read transition_view items i c.transition-item.result c.loop-transition-test.true c.transition-item.is))
    (known_more (symbols_of c.args.arities) n (map transition_view (take i items)) (transition_view c.transition-item.result) (map known_view c.loop-transition.known.keys) new
    c.loop-transition.invariant c.in_ok-put_known.ensures u)

pub returns : goal.returns
returns c = λ u.
    let n = c.args.automaton.now.states in
    let old = map known_view c.loop-transition.known.keys in
    subst (λ (ts : List Transition). IsAmong u old ↔ IsAmong u (filter (counts (symbols_of c.args.arities) n) ts))
    (ap (map transition_view) (take_all c.loop-transition.transition-index c.deref-transition-items.result.now c.loop-transition-test.false
    ∙ c.deref-transition-items.ensures.value)) (c.loop-transition.invariant u)
