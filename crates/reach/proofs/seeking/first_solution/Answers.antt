use Rattle.std.proofs.Common.{◌≡◌, [], ◌∷◌, option_map, OnOk, map, sym, subst₂}
use Rattle.flatterm.specs.Work.{HasRisen}
use Rattle.reach_lists.specs.Lists.{condition_list, condition_cost, total, unconditional}
use Rattle.reach_lists.specs.Solutions as lists
use Rattle.term_core.specs.RuleView.{condition_view}
use Rattle.reach.specs.Costs.{Costs}
use Rattle.reach.specs.SolutionView.{solution_view, first_of}
use Rattle.reach.proofs.seeking.first_solution.Goals as goal

pub first-found-requires-clause-store : goal.first-found-requires-clause-store
first-found-requires-clause-store c = c.take-means.ensures.kept c.args.sys.now []

pub returns-clause-found : goal.returns-clause-found
returns-clause-found c =
    let inner = condition_list c.args.sys.now [] c.args.cond_depth in
    let cs = map condition_view c.args.conds.now in
    let s = unconditional c.args.values.now ∷ [] in
    let cost = total (condition_cost c.args.sys.now [] c.args.cond_depth) (lists.asked inner cs s) in
    subst₂ (λ a b. Costs (λ o. option_map solution_view o ≡ first_of (lists.solutions inner cs s)) cost a b c.first-found.result)
    c.take-means.ensures.budget (sym c.give_back.ensures.budget) c.first-found.ensures.found

pub returns-clause-never_less : goal.returns-clause-never_less
returns-clause-never_less c = subst₂ (λ a b. OnOk c.first-found.result (HasRisen a 0 b)) c.take-means.ensures.work (sym c.give_back.ensures.work) c.first-found.ensures.never_less
