use Rattle.concon_run.proofs.Tests.{never_exhausted, never_spent, found_first}
use Rattle.concon_run.proofs.selftest.find.Goals as goal

pub unreachable-requires : goal.unreachable-requires
unreachable-requires c =
    never_exhausted c.args.names.now c.args.sys.now c.new-budget.result c.prove.new.budget c.in_ok-cert.field-0 c.requires.0 c.requires.1 c.requires.2 c.in_ok-cert.ensures.searched c.in-Exhausted.is

pub unreachable-requires-in-Spent : goal.unreachable-requires-in-Spent
unreachable-requires-in-Spent c =
    never_spent c.args.names.now c.args.sys.now c.new-budget.result c.prove.new.budget c.in_ok-cert.field-0 c.requires.0 c.requires.1 c.requires.2 c.in_ok-cert.ensures.searched
    c.new-budget.ensures.left c.requires.3 c.in-Spent.is

pub returns-clause-found : goal.returns-clause-found
returns-clause-found c =
    found_first c.args.names.now c.args.sys.now c.new-budget.result c.prove.new.budget c.in_ok-cert.field-0 c.in-Found.cert c.in-Found.is c.new-budget.ensures.spent c.spent.result c.spent.ensures
    c.in_ok-cert.ensures.ortho_first
