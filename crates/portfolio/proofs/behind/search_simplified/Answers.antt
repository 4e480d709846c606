use Rattle.std.proofs.Common.{map}
use Rattle.cert_model.specs.CertificateView.{simp_view}
use Rattle.portfolio.proofs.Proving.{steps_run_out, no_steps, some_steps, kept_behind}
use Rattle.portfolio.proofs.StepOrigins.{good_steps}
use Rattle.portfolio.proofs.behind.search_simplified.Goals as goal

pub search_last_system-requires-clause-steps : goal.search_last_system-requires-clause-steps
search_last_system-requires-clause-steps c =
    good_steps c.args.sys.now (map simp_view c.in-Steps.steps.items) c.in-Steps.last c.args.budget.now c.find_steps.new.budget (rw c.in-Steps.is at c.in_ok-steps.ensures)

pub returns-then-is_empty-clause-searched : goal.returns-then-is_empty-clause-searched
returns-then-is_empty-clause-searched c =
    no_steps c.args.names.now c.args.sys.now c.args.budget.now c.find_steps.new.budget c.in-Steps.steps c.in-Steps.last c.is_empty.result c.is_empty.ensures c.if-is_empty.true
    (rw c.in-Steps.is at c.in_ok-steps.ensures)

pub returns-in_ok-end-in-Steps-clause-searched : goal.returns-in_ok-end-in-Steps-clause-searched
returns-in_ok-end-in-Steps-clause-searched c =
    some_steps c.args.names.now c.args.sys.now c.args.budget.now c.find_steps.new.budget c.search_last_system.new.budget c.in-Steps.steps c.in-Steps.last c.is_empty.result
    c.is_empty.ensures c.if-is_empty.false (rw c.in-Steps.is at c.in_ok-steps.ensures)
    c.in_ok-end-in-Steps.end c.in_ok-end-in-Steps.ensures.searched c.outcome_of.result c.outcome_of.ensures

pub returns-in_ok-end-in-Steps-clause-kept : goal.returns-in_ok-end-in-Steps-clause-kept
returns-in_ok-end-in-Steps-clause-kept c =
    kept_behind c.args.names.now c.args.sys.now c.args.budget.now c.find_steps.new.budget c.search_last_system.new.budget (map simp_view c.in-Steps.steps.items) c.in-Steps.last
    (rw c.in-Steps.is at c.in_ok-steps.ensures) c.in_ok-end-in-Steps.ensures.kept

pub returns-in_err-end-in-Steps-clause-kept : goal.returns-in_err-end-in-Steps-clause-kept
returns-in_err-end-in-Steps-clause-kept c =
    kept_behind c.args.names.now c.args.sys.now c.args.budget.now c.find_steps.new.budget c.search_last_system.new.budget (map simp_view c.in-Steps.steps.items) c.in-Steps.last
    (rw c.in-Steps.is at c.in_ok-steps.ensures) c.in_err-end-in-Steps.ensures.kept

pub returns-in-Spent-clause-searched : goal.returns-in-Spent-clause-searched
returns-in-Spent-clause-searched c = steps_run_out c.args.names.now c.args.sys.now c.args.budget.now c.find_steps.new.budget (rw c.in-Spent.is at c.in_ok-steps.ensures)
