use Rattle.std.proofs.Common.{sym, ◌∙◌}
use Rattle.ari_text.proofs.Functions.{one_name_more, is_none}
use Rattle.ari_text.proofs.scope.check_variables.Goals as goal

pub variables-preserved : goal.variables-preserved
variables-preserved c =
    let here = c.in-Some.ensures.lookup.3 in
    one_name_more c.args.functions.now.symbols c.args.variables.now c.variables.i c.in-Some.name.now here.0 (here.1 c.in-Some.name.now)
    (sym c.arity_in.ensures ∙ is_none c.arity_in.result c.if-is_some.ensures) c.variables.invariant
