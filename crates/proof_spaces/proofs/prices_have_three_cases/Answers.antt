use Rattle.proof_spaces.proofs.Prices.{prices_have_cases, costs_are_sums, pruned_costs_are_sums}
use Rattle.proof_spaces.proofs.prices_have_three_cases.Goals as goal

pub returns-clause-cases : goal.returns-clause-cases
returns-clause-cases c = prices_have_cases

pub returns-clause-sums : goal.returns-clause-sums
returns-clause-sums c = costs_are_sums

pub returns-clause-pruned : goal.returns-clause-pruned
returns-clause-pruned c = pruned_costs_are_sums
