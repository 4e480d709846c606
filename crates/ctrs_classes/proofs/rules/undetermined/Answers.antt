use Rattle.std.proofs.Common.{◌∙◌, ap, take}
use Rattle.ctrs_classes.proofs.Firsts.{undetermined_answers}
use Rattle.ctrs_classes.proofs.rules.undetermined.Goals as goal

pub returns : goal.returns
returns c = undetermined_answers c.args.rule.now c.args.cond.now c.args.i _ _ (c.split_at.ensures.front ∙ ap (take c.args.i) c.deref.ensures.value) c.first_variable.ensures
