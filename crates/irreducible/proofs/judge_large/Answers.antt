use Rattle.irreducible.proofs.Large.{large_function}
use Rattle.irreducible.proofs.judge_large.Goals as goal

pub returns-else-is_empty : goal.returns-else-is_empty
returns-else-is_empty c = large_function c.args.sys.now c.args.t.now c.in-Fun.field-0 c.in-Fun.field-1 c.rules.result.now c.is_empty.result c.in-Fun.is c.rules.ensures.rules
    c.is_empty.ensures c.if-is_empty.false c.requires
