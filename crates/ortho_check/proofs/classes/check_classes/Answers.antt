use Rattle.std.proofs.Common.{sym, subst}
use Rattle.term_core.proofs.Rules.{handed_on}
use Rattle.ortho_check.specs.Answers.{ClassesAnswer}
use Rattle.ortho_check.proofs.Judging.{not_in_first, not_in_second, not_in_third, last_class}
use Rattle.ortho_check.proofs.classes.check_classes.Goals as goal

pub returns-in_err-check_class : goal.returns-in_err-check_class
returns-in_err-check_class c =
    subst (ClassesAnswer c.args.sys.now) (sym (handed_on _ _ c.from_residual.ensures.1))
    (not_in_first c.args.sys.now c.in_err-check_class.field-0.0 c.in_err-check_class.ensures)

pub returns-in_err-check_class-2 : goal.returns-in_err-check_class-2
returns-in_err-check_class-2 c =
    subst (ClassesAnswer c.args.sys.now) (sym (handed_on _ _ c.from_residual-in_err-check_class-2.ensures.1))
    (not_in_second c.args.sys.now c.in_ok-check_class.ensures c.in_err-check_class-2.field-0.0 c.in_err-check_class-2.ensures)

pub returns-in_err-check_class-3 : goal.returns-in_err-check_class-3
returns-in_err-check_class-3 c =
    subst (ClassesAnswer c.args.sys.now) (sym (handed_on _ _ c.from_residual-in_err-check_class-3.ensures.1))
    (not_in_third c.args.sys.now c.in_ok-check_class.ensures c.in_ok-check_class-2.ensures c.in_err-check_class-3.field-0.0 c.in_err-check_class-3.ensures)

pub returns : goal.returns
returns c =
    last_class c.args.sys.now c.in_ok-check_class.ensures c.in_ok-check_class-2.ensures c.in_ok-check_class-3.ensures c.check_class-4.result c.check_class-4.ensures
