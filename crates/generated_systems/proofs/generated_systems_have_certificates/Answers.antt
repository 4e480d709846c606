use Rattle.generated_systems.proofs.Conflicts.{have_conflicts}
use Rattle.generated_systems.proofs.Entries.{entries_are_firsts}
use Rattle.generated_systems.proofs.Texts.{have_texts}
use Rattle.generated_systems.proofs.Found.{are_found}
use Rattle.generated_systems.proofs.generated_systems_have_certificates.Goals as goal

pub returns-clause-evidence : goal.returns-clause-evidence
returns-clause-evidence c = have_conflicts

pub returns-clause-price : goal.returns-clause-price
returns-clause-price c = entries_are_firsts

pub returns-clause-text : goal.returns-clause-text
returns-clause-text c = have_texts

pub returns-clause-found : goal.returns-clause-found
returns-clause-found c = are_found
