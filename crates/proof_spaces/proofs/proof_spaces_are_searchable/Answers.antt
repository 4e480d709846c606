use Rattle.proof_spaces.proofs.Costs.{spaces_cost}
use Rattle.proof_spaces.proofs.Searchable.{searchable, pruned_searchable}
use Rattle.proof_spaces.proofs.Texts.{proofs_have_texts}
use Rattle.proof_spaces.proofs.Cheaper.{pruned_are_proofs}
use Rattle.proof_spaces.proofs.proof_spaces_are_searchable.Goals as goal

pub returns-clause-cost : goal.returns-clause-cost
returns-clause-cost c = spaces_cost

pub returns-clause-whole : goal.returns-clause-whole
returns-clause-whole c = searchable

pub returns-clause-pruned : goal.returns-clause-pruned
returns-clause-pruned c = pruned_searchable

pub returns-clause-texts : goal.returns-clause-texts
returns-clause-texts c = proofs_have_texts

pub returns-clause-same : goal.returns-clause-same
returns-clause-same c = pruned_are_proofs
