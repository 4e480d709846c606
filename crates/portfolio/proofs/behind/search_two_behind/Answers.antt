use Rattle.std.proofs.Common.{map, Ok}
use Rattle.cert_model.specs.CertificateView.{simp_view}
use Rattle.cc_count.proofs.Spending.{kept_on}
use Rattle.portfolio.proofs.WithSteps.{ortho_behind, peak_behind, two_stand, two_behind, hands_back, hands_on}
use Rattle.portfolio.proofs.behind.search_two_behind.Goals as goal

pub returns-in_err-next-in-Nothing-clause-kept : goal.returns-in_err-next-in-Nothing-clause-kept
returns-in_err-next-in-Nothing-clause-kept c = kept_on _ _ _ c.in_ok-answer.ensures.kept c.in_err-next-in-Nothing.ensures.kept

pub returns-in_ok-next-in-Nothing : goal.returns-in_ok-next-in-Nothing
returns-in_ok-next-in-Nothing c =
    let names = c.args.names.now in
    let steps = map simp_view c.args.steps.items in
    let last = c.args.last.now in
    let before = c.args.budget.now in
    let here = c.search_ortho_over.new.budget in
    let after = c.search_peak_over.new.budget in
    let again = c.in-Nothing.steps in
    let next = c.in_ok-next-in-Nothing.next in
    let result = c.with_the_steps-in-Nothing.result in
    let same = hands_back names steps c.in_ok-answer.answer (Ok c.in_ok-end.end) c.in_ok-end.ensures in
    let told = ortho_behind names steps last before here c.in_ok-answer.answer (Ok c.in_ok-end.end) c.in_ok-answer.ensures.searched c.in_ok-end.ensures in
    let none = rw c.in-Nothing.is at told in
    let back = rw c.in-Nothing.is at same in
    let found = peak_behind names (map simp_view again.items) last here after next result (rw c.indexed.ensures at c.in_ok-next-in-Nothing.ensures.searched) c.with_the_steps-in-Nothing.ensures in
    record {
      searched = two_behind names steps last before here after again back result none found;
      hands_back = hands_on names steps again back result (hands_back names (map simp_view again.items) next result c.with_the_steps-in-Nothing.ensures);
      kept = kept_on before here after c.in_ok-answer.ensures.kept c.in_ok-next-in-Nothing.ensures.kept;
    }

pub returns-in_default : goal.returns-in_default
returns-in_default c =
    let names = c.args.names.now in
    let steps = map simp_view c.args.steps.items in
    let last = c.args.last.now in
    let before = c.args.budget.now in
    let here = c.search_ortho_over.new.budget in
    record {
      searched = two_stand names steps last before here c.in_ok-end.end c.in_default.not-Nothing
          (ortho_behind names steps last before here c.in_ok-answer.answer (Ok c.in_ok-end.end) c.in_ok-answer.ensures.searched c.in_ok-end.ensures);
      hands_back = hands_back names steps c.in_ok-answer.answer (Ok c.in_ok-end.end) c.in_ok-end.ensures;
      kept = c.in_ok-answer.ensures.kept;
    }
