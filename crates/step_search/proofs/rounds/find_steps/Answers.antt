use Rattle.step_search.proofs.Onward.{goes_on, finds, runs_out, fails, fails_found, stopped, walk_pays}
use Rattle.step_search.proofs.rounds.find_steps.Goals as goal

pub returns-in-Nothing : goal.returns-in-Nothing
returns-in-Nothing c = finds c.args.sys.now c.rounds.current c.rounds.steps.items c.args.budget.now c.rounds.budget c.walk_through.new.budget c.rounds.invariant
    (rw c.in-Nothing.is at c.in_ok-made.ensures)

pub returns-in-Spent : goal.returns-in-Spent
returns-in-Spent c = runs_out c.args.sys.now c.rounds.current c.rounds.steps.items c.args.budget.now c.rounds.budget c.walk_through.new.budget c.rounds.invariant
    (rw c.in-Spent.is at c.in_ok-made.ensures)

pub returns-in_err-made : goal.returns-in_err-made
returns-in_err-made c =
    stopped c.args.sys.now c.args.budget.now c.walk_through.new.budget _ c.from_residual-in_err-made.result c.from_residual-in_err-made.ensures.1
    (fails c.args.sys.now c.rounds.current c.rounds.steps.items c.args.budget.now c.rounds.budget c.walk_through.new.budget c.rounds.invariant c.in_err-made.field-0.0 c.in_err-made.ensures)

pub returns-in_err-push-in-Found : goal.returns-in_err-push-in-Found
returns-in_err-push-in-Found c =
    stopped c.args.sys.now c.args.budget.now c.walk_through.new.budget _ c.from_residual-in_err-push-in-Found.result c.from_residual-in_err-push-in-Found.ensures.1
    (fails_found c.args.sys.now c.rounds.current c.rounds.steps.items c.args.budget.now c.rounds.budget c.walk_through.new.budget c.rounds.invariant c.in-Found.made
    (rw c.in-Found.is at c.in_ok-made.ensures))

pub rounds-preserved : goal.rounds-preserved
rounds-preserved c =
    goes_on c.args.sys.now c.rounds.current c.rounds.steps.items c.args.budget.now c.rounds.budget c.walk_through.new.budget c.rounds.invariant c.push.new.self.items
    c.in-Found.made c.changed-current.result (c.in_ok-push-in-Found.ensures).items c.changed-current.ensures (rw c.in-Found.is at c.in_ok-made.ensures)

pub rounds-smaller : goal.rounds-smaller
rounds-smaller c = walk_pays c.rounds.current c.rounds.budget c.walk_through.new.budget c.in-Found.made (rw c.in-Found.is at c.in_ok-made.ensures)
