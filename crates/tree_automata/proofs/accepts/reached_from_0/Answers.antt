use Rattle.std.proofs.Common.{[], ◌∙◌, length, ap}
use Rattle.std.proofs.lemmas.Result.{IfOk-weaker}
use Rattle.term_core.specs.View.{view}
use Rattle.automaton_runs.specs.Choices.{Batch, Choices}
use Rattle.automaton_runs.specs.Reached.{AreWhere, Reaches}
use Rattle.tree_automata.proofs.Accepted.{AreFrom0, from_0}
use Rattle.tree_automata.proofs.accepts.reached_from_0.Goals as goal

pub returns : goal.returns
returns c =
    let a = c.args.index.now in
    let t = view c.args.t.now in
    let b = c.in_ok-batch.batch in
    IfOk-weaker c.reached.result (AreWhere b (Reaches a [] t)) (AreFrom0 a t)
    (λ r h. from_0 a t b r (ap (λ (x : Batch). length x.tails) c.in_ok-batch.ensures ∙ ap (λ (x : Choices). length x.tails) c.in_ok-choices.ensures) h) c.reached.ensures
