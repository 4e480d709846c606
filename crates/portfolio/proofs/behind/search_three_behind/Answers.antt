use Rattle.std.proofs.Common.{map}
use Rattle.cert_model.specs.CertificateView.{simp_view}
use Rattle.cc_count.proofs.Spending.{kept_on}
use Rattle.portfolio.proofs.WithSteps.{quasi_behind, three_stand, three_behind}
use Rattle.portfolio.proofs.behind.search_three_behind.Goals as goal

pub returns-in_err-next-in-Nothing-clause-kept : goal.returns-in_err-next-in-Nothing-clause-kept
returns-in_err-next-in-Nothing-clause-kept c = kept_on _ _ _ c.in_ok-end.ensures.kept c.in_err-next-in-Nothing.ensures.kept

pub returns-in_ok-next-in-Nothing : goal.returns-in_ok-next-in-Nothing
returns-in_ok-next-in-Nothing c =
    let names = c.args.names.now in
    let steps = map simp_view c.args.steps.items in
    let last = c.args.last.now in
    let before = c.args.budget.now in
    let here = c.search_two_behind.new.budget in
    let after = c.search_quasi_over.new.budget in
    let again = c.in-Nothing.steps in
    let found = quasi_behind names (map simp_view again.items) last here after c.in_ok-next-in-Nothing.next c.with_the_steps.result c.in_ok-next-in-Nothing.ensures.pruned c.with_the_steps.ensures in
    record {
      searched = three_behind names steps last before here after again (rw c.in-Nothing.is at c.in_ok-end.ensures.hands_back) c.with_the_steps.result
          (rw c.in-Nothing.is at c.in_ok-end.ensures.searched) found;
      kept = kept_on before here after c.in_ok-end.ensures.kept c.in_ok-next-in-Nothing.ensures.kept;
    }

pub returns-in_default : goal.returns-in_default
returns-in_default c =
    record {
      searched = three_stand c.args.names.now (map simp_view c.args.steps.items) c.args.last.now c.args.budget.now c.search_two_behind.new.budget c.in_ok-end.end c.in_default.not-Nothing
          c.in_ok-end.ensures.searched;
      kept = c.in_ok-end.ensures.kept;
    }
