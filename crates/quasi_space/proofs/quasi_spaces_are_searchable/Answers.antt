use Rattle.quasi_space.proofs.AllSpaces.{each_searchable, pruned_searchable, all_searchable, all_pruned_searchable}
use Rattle.quasi_space.proofs.quasi_spaces_are_searchable.Goals as goal

pub returns-clause-each : goal.returns-clause-each
returns-clause-each c = each_searchable

pub returns-clause-pruned : goal.returns-clause-pruned
returns-clause-pruned c = pruned_searchable

pub returns-clause-all : goal.returns-clause-all
returns-clause-all c = all_searchable

pub returns-clause-all_pruned : goal.returns-clause-all_pruned
returns-clause-all_pruned c = all_pruned_searchable
