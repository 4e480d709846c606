use Rattle.std.proofs.lemmas.Result.{IfOk-weaker}
use Rattle.rewriting.specs.Variables.{variable_occurrences}
use Rattle.term_core.specs.RuleView.{rule_view}
use Rattle.tree_automata.specs.Batches.{FailureAnswers}
use Rattle.tree_automata.specs.Kept.{IsKeptBy}
use Rattle.tree_automata.specs.Open.{OpenAnswers}
use Rattle.tree_automata.proofs.Kept.{open_answers}
use Rattle.tree_automata.proofs.Open.{closed_alike}
use Rattle.tree_automata.proofs.closure.first_open_of_rule.Goals as goal

pub returns-then-have_sides : goal.returns-then-have_sides
returns-then-have_sides c = closed_alike c.args.index.now (rule_view c.args.rule.now) c.args.earlier.now c.requires.earlier (c.have_sides.ensures.0 c.if-have_sides.true)

pub returns : goal.returns
returns c =
    let a = c.args.index.now in
    let r = rule_view c.args.rule.now in
    IfOk-weaker c.first_open.result (FailureAnswers a r.left (IsKeptBy c.args.inclusion.now a (variable_occurrences r.left) r.right)) (OpenAnswers a r)
    (λ o h. open_answers a c.args.inclusion.now r c.requires.asked o h) c.first_open.ensures
