use Rattle.quasi_space.proofs.AllSpaces.{pruned_search, all_pruned_search}
use Rattle.quasi_space.proofs.pruned_searches_are_searches.Goals as goal

pub returns-clause-quasi : goal.returns-clause-quasi
returns-clause-quasi c = pruned_search

pub returns-clause-all : goal.returns-clause-all
returns-clause-all c = all_pruned_search
