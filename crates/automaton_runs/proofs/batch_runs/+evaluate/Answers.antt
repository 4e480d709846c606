use Rattle.std.proofs.Common.{◌+◌, take, subst, sym}
use Rattle.std.specs.List.{AllZip}
use Rattle.number_sets.specs.Sets.{members}
use Rattle.term_core.specs.View.{view}
use Rattle.term_core.specs.declared.terms.Term.{Term}
use Rattle.automaton_runs.specs.Reached.{AreWhere, Reaches}
use Rattle.automaton_runs.specs.Relations.{relation_of, relations}
use Rattle.automaton_runs.specs.declared.relations.Evaluated.{Evaluated}
use Rattle.automaton_runs.proofs.Evaluated.{zip_relations, symbol_reached, variable_reached}
use Rattle.automaton_runs.proofs.Zips.{zip_more}
use Rattle.automaton_runs.proofs.batch_runs.+evaluate.Goals as goal

pub evaluate-returns-in-Var : goal.evaluate-returns-in-Var
evaluate-returns-in-Var t c = variable_reached c.args.batch.now c.args.index.now c.args.names.now c.args.t.now c.in-Var.x c.states_of.result.now c.in-Var.is c.states_of.ensures

pub evaluate-returns-in_ok-made-in-Fun : goal.evaluate-returns-in_ok-made-in-Fun
evaluate-returns-in_ok-made-in-Fun t c =
    let b = c.args.batch.now in
    let a = c.args.index.now in
    let names = c.args.names.now in
    let es = c.deref-in-Fun.result.now in
    let all = members c.all.result.now in
    symbol_reached b a names c.args.t.now c.in-Fun.f c.in-Fun.args c.deref.result.now (relations es) all c.in_ok-made-in-Fun.made c.in-Fun.is c.deref.ensures.value
    (zip_relations (λ (t : Term) r. AreWhere b (Reaches a names (view t)) r) c.deref.result.now es
    (subst (AllZip (λ t e. AreWhere b (Reaches a names (view t)) (relation_of e)) c.deref.result.now) (sym c.deref-in-Fun.ensures.value) c.in_ok-args-in-Fun.ensures))
    c.all.ensures c.in_ok-made-in-Fun.ensures

pub evaluate_each-loop-arg-preserved : goal.evaluate_each-loop-arg-preserved
evaluate_each-loop-arg-preserved t c =
    let b = c.args.batch.now in
    let a = c.args.index.now in
    let names = c.args.names.now in
    let R = λ (t : Term) (e : Evaluated). AreWhere b (Reaches a names (view t)) (relation_of e) in
    subst (AllZip R (take (c.loop-arg.arg-index + 1) c.args.args.now)) (sym c.in_ok-push.ensures.items)
    (zip_more R c.args.args.now c.loop-arg.made.items c.loop-arg.arg-index c.arg-item.result c.in_ok-evaluate.field-0 c.loop-arg-test.true c.arg-item.is c.loop-arg.invariant c.in_ok-evaluate.ensures)
