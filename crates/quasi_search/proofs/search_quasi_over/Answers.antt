use Rattle.std.proofs.Common.{Ok}
use Rattle.validity.specs.declared.Search.TheVariants.{Nothing}
use Rattle.search_answers.proofs.Refused.{unlisted}
use Rattle.quasi_search.proofs.Ending.{whole_searched, found_valid, nothing_valid, closed_by_rules, closed_by_overlaps}
use Rattle.quasi_search.proofs.search_quasi_over.Goals as goal

pub returns-then-branch-clause-searched : goal.returns-then-branch-clause-searched
returns-then-branch-clause-searched c =
    whole_searched c.args.names.now c.args.sys.now c.args.budget.now c.search_open.new.budget c.search_open.result
    c.search_open.ensures.pruned

pub returns-then-branch-clause-nothing : goal.returns-then-branch-clause-nothing
returns-then-branch-clause-nothing c =
    nothing_valid c.args.names.now c.args.sys.now c.args.budget.now c.search_open.new.budget c.search_open.result
    c.search_open.ensures.pruned

pub returns-then-branch-clause-valid : goal.returns-then-branch-clause-valid
returns-then-branch-clause-valid c =
    found_valid c.args.names.now c.args.sys.now c.args.budget.now c.search_open.new.budget c.search_open.result
    c.search_open.ensures.pruned

pub returns-else-branch-clause-searched : goal.returns-else-branch-clause-searched
returns-else-branch-clause-searched c =
    whole_searched c.args.names.now c.args.sys.now c.args.budget.now c.args.budget.now (Ok Nothing)
    (closed_by_rules c.args.names.now c.args.sys.now (λ h. (let e = c.in_ok-are_rules_good.ensures.1 h in cc)) c.args.budget.now)

pub returns-else-branch-clause-pruned : goal.returns-else-branch-clause-pruned
returns-else-branch-clause-pruned c =
    closed_by_rules c.args.names.now c.args.sys.now (λ h. (let e = c.in_ok-are_rules_good.ensures.1 h in cc)) c.args.budget.now

pub returns-in_default-clause-searched : goal.returns-in_default-clause-searched
returns-in_default-clause-searched c =
    whole_searched c.args.names.now c.args.sys.now c.args.budget.now c.args.budget.now (Ok Nothing)
    (closed_by_overlaps c.args.names.now c.args.sys.now (unlisted c.args.sys.now c.args.overlaps c.requires.overlaps (λ os e. c.in_default.not-Some os e)) c.args.budget.now)

pub returns-in_default-clause-pruned : goal.returns-in_default-clause-pruned
returns-in_default-clause-pruned c =
    closed_by_overlaps c.args.names.now c.args.sys.now (unlisted c.args.sys.now c.args.overlaps c.requires.overlaps (λ os e. c.in_default.not-Some os e)) c.args.budget.now
