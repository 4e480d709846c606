use Rattle.std.proofs.Common.{Option, subst}
use Rattle.std.specs.Prelude.{IfSome}
use Rattle.std.specs.Borrow.{Bor}
use Rattle.std.proofs.lemmas.Result.{IfOk-weaker}
use Rattle.term_core.specs.View.{view}
use Rattle.number_sets.specs.declared.rows.NumberRelation.{NumberRelation}
use Rattle.automaton_runs.specs.Reached.{AreWhere}
use Rattle.tree_automata.specs.Kept.{IsKeptBy}
use Rattle.tree_automata.specs.Batches.{LackingAtAnswers, FailureInAnswers}
use Rattle.tree_automata.proofs.Batches.{in_empty, in_answers}
use Rattle.tree_automata.proofs.closure.first_open_in.Goals as goal

pub returns-then-is_empty : goal.returns-then-is_empty
returns-then-is_empty c =
    let a = c.args.index.now in
    let P = IsKeptBy c.args.asked.inclusion.now a c.args.names.now (view c.args.asked.rule.now.right) in
    in_empty a (view c.args.asked.rule.now.left) P c.args.batch.now c.in_ok-left.left c.in_ok-left.ensures (c.is_empty.ensures.0 c.if-is_empty.true)

pub first_lacking-requires : goal.first_lacking-requires
first_lacking-requires c = λ q k h. ((c.in_ok-left.ensures q k).0 h).0

pub returns-in-Some : goal.returns-in-Some
returns-in-Some c =
    let a = c.args.index.now in
    let t = view c.args.asked.rule.now.left in
    let b = c.args.batch.now in
    let P = IsKeptBy c.args.asked.inclusion.now a c.args.names.now (view c.args.asked.rule.now.right) in
    let right = c.in-Some.right.now in
    let kept = subst (λ (o : Option (Bor NumberRelation)). IfSome o (λ r. AreWhere b P r.now)) c.in-Some.is c.requires.known in
    IfOk-weaker c.first_lacking.result (LackingAtAnswers b c.in_ok-left.left right) (FailureInAnswers a t P b)
    (in_answers a t P b c.in_ok-left.left c.in_ok-left.ensures right kept) c.first_lacking.ensures

pub first_lacking-requires-in-None : goal.first_lacking-requires-in-None
first_lacking-requires-in-None c = λ q k h. ((c.in_ok-left.ensures q k).0 h).0

pub returns : goal.returns
returns c =
    let a = c.args.index.now in
    let t = view c.args.asked.rule.now.left in
    let b = c.args.batch.now in
    let P = IsKeptBy c.args.asked.inclusion.now a c.args.names.now (view c.args.asked.rule.now.right) in
    let right = c.in_ok-right-in-None.right in
    IfOk-weaker c.first_lacking-in-None.result (LackingAtAnswers b c.in_ok-left.left right) (FailureInAnswers a t P b)
    (in_answers a t P b c.in_ok-left.left c.in_ok-left.ensures right c.in_ok-right-in-None.ensures)
    c.first_lacking-in-None.ensures
