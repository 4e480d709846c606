use Rattle.std.proofs.Common.{sym, subst}
use Rattle.term_core.specs.View.{view}
use Rattle.term_core.proofs.Rules.{handed_on}
use Rattle.cert_model.specs.CertificateView.{apart_view}
use Rattle.noncon_check.specs.Ends.{EndsAnswers}
use Rattle.noncon_check.proofs.Apart.{first_foreign, second_foreign, apart_judged}
use Rattle.noncon_check.proofs.peaks.check_ends.Goals as goal

pub returns-in_err-check_symbols : goal.returns-in_err-check_symbols
returns-in_err-check_symbols c =
    subst (EndsAnswers c.args.sys.now (view c.args.first.now) (view c.args.second.now) (apart_view c.args.apart.now)) (sym (handed_on _ _ c.from_residual.ensures.1))
    (first_foreign c.args.sys.now (view c.args.first.now) (view c.args.second.now) (apart_view c.args.apart.now) c.in_err-check_symbols.field-0.0 c.in_err-check_symbols.ensures)

pub returns-in_err-check_symbols-2 : goal.returns-in_err-check_symbols-2
returns-in_err-check_symbols-2 c =
    subst (EndsAnswers c.args.sys.now (view c.args.first.now) (view c.args.second.now) (apart_view c.args.apart.now)) (sym (handed_on _ _ c.from_residual-in_err-check_symbols-2.ensures.1))
    (second_foreign c.args.sys.now (view c.args.first.now) (view c.args.second.now) (apart_view c.args.apart.now) c.in_err-check_symbols-2.field-0.0
    c.in_ok-check_symbols.ensures c.in_err-check_symbols-2.ensures)

pub returns : goal.returns
returns c =
    apart_judged c.args.sys.now (view c.args.first.now) (view c.args.second.now) (apart_view c.args.apart.now) c.check_apart.result
    c.in_ok-check_symbols.ensures c.in_ok-check_symbols-2.ensures c.check_apart.ensures
