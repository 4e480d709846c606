use Rattle.simplifications.proofs.JoinRules.{keep_files}
use Rattle.simplifications.proofs.OneFile.{one_file}
use Rattle.simplifications.proofs.simplifications_keep_files.Goals as goal

pub returns-clause-files : goal.returns-clause-files
returns-clause-files c = keep_files

pub returns-clause-relation : goal.returns-clause-relation
returns-clause-relation c = one_file
