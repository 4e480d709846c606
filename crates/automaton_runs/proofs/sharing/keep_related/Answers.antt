use Rattle.std.proofs.Common.{◌∙◌, Bor, ap, arith}
use Rattle.std.proofs.lemmas.List.{length-map}
use Rattle.number_sets.specs.Sets.{members}
use Rattle.number_sets.specs.declared.words.NumberSet.{NumberSet}
use Rattle.automaton_runs.specs.Relations.{relation_of, relations}
use Rattle.automaton_runs.proofs.Shared.{relation_at, row_or_none, shared_more, shared_all}
use Rattle.automaton_runs.proofs.sharing.keep_related.Goals as goal

pub loop-place-preserved : goal.loop-place-preserved
loop-place-preserved c =
    let long = length-map c.args.args.now relation_of in
    let r = c.relation.result.now in
    shared_more (members c.args.set.now) (relations c.args.args.now) c.args.states.now (long ∙ c.requires) c.loop-place.place r (omega (arith, c.loop-place-test.true))
    (relation_at c.args.args.now c.loop-place.place c.index-args-place.result r c.loop-place-test.true c.index-args-place.is c.relation.ensures) (members c.loop-place.set)
    (members c.keep_shared.new.self) (members c.unwrap_or.result.now)
    (ap (λ (s : Bor NumberSet). members s.now) c.unwrap_or.ensures ∙ row_or_none c.row.result _ c.new-none.ensures ∙ c.row.ensures) c.keep_shared.ensures c.loop-place.invariant

pub returns : goal.returns
returns c =
    let long = length-map c.args.args.now relation_of in
    shared_all (members c.args.set.now) (relations c.args.args.now) c.args.states.now c.loop-place.place (members c.loop-place.set) (omega (arith, c.loop-place-test.false))
    (long ∙ c.requires) c.loop-place.invariant
