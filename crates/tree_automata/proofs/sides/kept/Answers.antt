use Rattle.std.proofs.Common.{ap, ◌∙◌}
use Rattle.std.proofs.lemmas.Result.{IfOk-weaker}
use Rattle.term_core.specs.View.{view, views}
use Rattle.term_core.proofs.Views.{view-Var, view-Fun}
use Rattle.tree_automata.proofs.Kept.{kept_variable, kept_function}
use Rattle.tree_automata.specs.Kept.{IsKeptBy}
use Rattle.automaton_runs.specs.Reached.{AreWhere}
use Rattle.tree_automata.proofs.sides.kept.Goals as goal

pub returns-in-Var : goal.returns-in-Var
returns-in-Var c =
    let a = c.args.index.now in
    let t = view c.args.right.now in
    IfOk-weaker c.carried.result _ (AreWhere c.args.batch.now (IsKeptBy c.args.inclusion.now a c.args.names.now t))
    (λ r h. kept_variable c.args.inclusion.now a c.args.batch.now c.args.names.now t c.in-Var.field-0 c.in_ok-reached.reached r
    (ap view c.in-Var.is ∙ view-Var c.in-Var.field-0) c.in_ok-reached.ensures h)
    c.carried.ensures

pub returns-in-Fun : goal.returns-in-Fun
returns-in-Fun c =
    kept_function c.args.inclusion.now c.args.index.now c.args.batch.now c.args.names.now (view c.args.right.now) c.in-Fun.field-0 (views c.in-Fun.field-1.items)
    c.in_ok-reached.reached (ap view c.in-Fun.is ∙ view-Fun c.in-Fun.field-0 c.in-Fun.field-1) c.in_ok-reached.ensures
