use Rattle.std.proofs.Common.{◌≡◌, ◌+◌, Some, slice_get, take, subst, sym, ◌∙◌, arith}
use Rattle.std.specs.List.{AllZip}
use Rattle.std.proofs.lemmas.Option.{same_Some, slice_get_within}
use Rattle.number_sets.specs.Sets.{members}
use Rattle.number_sets.specs.Relation.{Relates}
use Rattle.number_sets.specs.declared.rows.NumberRelation.{NumberRelation}
use Rattle.term_core.specs.View.{view}
use Rattle.term_core.specs.declared.terms.Term.{Term}
use Rattle.automaton_runs.specs.Possible.{MayReach}
use Rattle.automaton_runs.specs.Relations.{relation_of, relations}
use Rattle.automaton_runs.specs.declared.relations.Evaluated.{Evaluated}
use Rattle.automaton_runs.proofs.BatchParts.{got, not_got}
use Rattle.automaton_runs.proofs.MayArrive.{may_symbol, may_variable}
use Rattle.automaton_runs.proofs.Evaluated.{zip_relations}
use Rattle.automaton_runs.proofs.Zips.{zip_more}
use Rattle.automaton_runs.proofs.possible.+may_reach.Goals as goal

pub may_reach-returns-in-Some : goal.may_reach-returns-in-Some
may_reach-returns-in-Some t c =
    let places = c.args.places.now in
    let e = c.in-Some.ensures.lookup in
    let states = c.in-Some.states.now in
    let here : slice_get places c.in-Var.x ≡ Some states = got places c.in-Var.x states e.0 e.1 in
    may_variable c.args.index.now (members c.args.all.now) places c.args.t.now c.in-Var.x states c.in-Var.is
    (λ r at q k h. subst (λ (x : NumberRelation). Relates x q k) (same_Some r states (sym at ∙ here)) h)

pub may_reach-returns-in-None : goal.may_reach-returns-in-None
may_reach-returns-in-None t c =
    let places = c.args.places.now in
    let e = c.in-None.ensures.lookup in
    may_variable c.args.index.now (members c.args.all.now) places c.args.t.now c.in-Var.x c.new.result c.in-Var.is
    (λ r at q k h. absurd (let low = slice_get_within places c.in-Var.x r at in let high = not_got places c.in-Var.x e.0 in omega arith))

pub may_reach-returns-in_ok-made-in-Fun : goal.may_reach-returns-in_ok-made-in-Fun
may_reach-returns-in_ok-made-in-Fun t c =
    let a = c.args.index.now in
    let all = members c.args.all.now in
    let places = c.args.places.now in
    let es = c.deref-in-Fun.result.now in
    may_symbol a all places c.args.t.now c.in-Fun.f c.in-Fun.args c.deref.result.now (relations es) c.in_ok-made-in-Fun.made c.in-Fun.is c.deref.ensures.value
    (zip_relations (λ (t : Term) r. MayReach a all places (view t) r) c.deref.result.now es
    (subst (AllZip (λ t e. MayReach a all places (view t) (relation_of e)) c.deref.result.now) (sym c.deref-in-Fun.ensures.value) c.in_ok-args-in-Fun.ensures)) c.in_ok-made-in-Fun.ensures

pub may_reach_each-loop-arg-preserved : goal.may_reach_each-loop-arg-preserved
may_reach_each-loop-arg-preserved t c =
    let a = c.args.index.now in
    let all = members c.args.all.now in
    let places = c.args.places.now in
    let R = λ (t : Term) (e : Evaluated). MayReach a all places (view t) (relation_of e) in
    subst (AllZip R (take (c.loop-arg.arg-index + 1) c.args.args.now)) (sym c.in_ok-push.ensures.items)
    (zip_more R c.args.args.now c.loop-arg.made.items c.loop-arg.arg-index c.arg-item.result c.in_ok-may_reach.field-0 c.loop-arg-test.true c.arg-item.is
    c.loop-arg.invariant c.in_ok-may_reach.ensures)
