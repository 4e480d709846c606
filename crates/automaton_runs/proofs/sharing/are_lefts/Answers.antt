use Rattle.std.proofs.Common.{◌∙◌, sym, arith}
use Rattle.std.proofs.lemmas.Bool.{false≢true}
use Rattle.std.proofs.lemmas.List.{length-map}
use Rattle.automaton_runs.specs.Relations.{relation_of, relations}
use Rattle.automaton_runs.proofs.Shared.{relation_at, as_many, not_related}
use Rattle.automaton_runs.proofs.sharing.are_lefts.Goals as goal

pub returns-then-args-states-clause-asked : goal.returns-then-args-states-clause-asked
returns-then-args-states-clause-asked c k z = absurd (c.if-args-states.true (sym (length-map c.args.args.now relation_of) ∙ as_many (relations c.args.args.now) c.args.states.now k z))

pub returns-then-not-has_left-clause-asked : goal.returns-then-not-has_left-clause-asked
returns-then-not-has_left-clause-asked c k z =
    let long = length-map c.args.args.now relation_of in
    let r = c.relation.result.now in
    absurd
    (not_related (relations c.args.args.now) c.args.states.now c.loop-place.place r (omega (arith, c.loop-place-test.true))
    (relation_at c.args.args.now c.loop-place.place c.index-args-place.result r c.loop-place-test.true c.index-args-place.is c.relation.ensures)
    (λ h. false≢true (c.if-not-has_left.ensures.1 h)) (long ∙ c.if-args-states.false) k z)
