use Rattle.std.proofs.Common.{Ok}
use Rattle.search_answers.proofs.Refused.{unlisted}
use Rattle.validity.specs.declared.Search.TheVariants.{Nothing}
use Rattle.ortho_search.proofs.Ending.{found_valid, nothing_valid, closed_searched, closed_paid, closed_by_class, closed_by_overlaps}
use Rattle.ortho_search.proofs.search_ortho_over.Goals as goal

pub returns-then-is_in_classes-clause-nothing : goal.returns-then-is_in_classes-clause-nothing
returns-then-is_in_classes-clause-nothing c = nothing_valid c.args.names.now c.args.sys.now c.args.budget.now c.search_open.new.budget c.search_open.result c.search_open.ensures.searched

pub returns-then-is_in_classes-clause-valid : goal.returns-then-is_in_classes-clause-valid
returns-then-is_in_classes-clause-valid c = found_valid c.args.names.now c.args.sys.now c.args.budget.now c.search_open.new.budget c.search_open.result c.search_open.ensures.searched

pub returns-else-is_in_classes-clause-searched : goal.returns-else-is_in_classes-clause-searched
returns-else-is_in_classes-clause-searched c =
    closed_searched c.args.names.now c.args.sys.now (closed_by_class c.args.names.now c.args.sys.now (λ h. (let e = c.if-is_in_classes.ensures.1 (rw c.system.ensures h) in cc))) c.args.budget.now

pub returns-else-is_in_classes-clause-nothing : goal.returns-else-is_in_classes-clause-nothing
returns-else-is_in_classes-clause-nothing c =
    nothing_valid c.args.names.now c.args.sys.now c.args.budget.now c.args.budget.now (Ok Nothing)
    (closed_searched c.args.names.now c.args.sys.now
    (closed_by_class c.args.names.now c.args.sys.now (λ h. (let e = c.if-is_in_classes.ensures.1 (rw c.system.ensures h) in cc))) c.args.budget.now)

pub returns-else-is_in_classes-clause-paid : goal.returns-else-is_in_classes-clause-paid
returns-else-is_in_classes-clause-paid c =
    closed_paid c.args.names.now c.args.sys.now (closed_by_class c.args.names.now c.args.sys.now (λ h. (let e = c.if-is_in_classes.ensures.1 (rw c.system.ensures h) in cc))) c.args.budget.now

pub returns-in_default-clause-searched : goal.returns-in_default-clause-searched
returns-in_default-clause-searched c =
    closed_searched c.args.names.now c.args.sys.now
    (closed_by_overlaps c.args.names.now c.args.sys.now (unlisted c.args.sys.now c.args.overlaps c.requires.overlaps (λ os e. c.in_default.not-Some os e))) c.args.budget.now
