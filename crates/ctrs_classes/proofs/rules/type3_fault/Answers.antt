use Rattle.std.proofs.Common.{refl}
use Rattle.ctrs_classes.proofs.Prefixes.{type3_found, type3_within}
use Rattle.ctrs_classes.proofs.rules.type3_fault.Goals as goal

pub returns : goal.returns
returns c = (refl, type3_found c.args.rule.now c.deref.result.now c.deref-2.result.now _ c.deref.ensures.value c.deref-2.ensures.value c.in_ok-x.ensures)

pub returns-in_err-x : goal.returns-in_err-x
returns-in_err-x c = rw c.from_residual.ensures (type3_within c.args.rule.now c.deref.result.now c.deref-2.result.now c.deref.ensures.value c.deref-2.ensures.value c.in_err-x.ensures)
