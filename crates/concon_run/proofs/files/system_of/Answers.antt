use Rattle.concon_run.proofs.Unread.{file_unread}
use Rattle.concon_run.proofs.files.system_of.Goals as goal

pub returns-in-Err-clause-answers : goal.returns-in-Err-clause-answers
returns-in-Err-clause-answers g c = file_unread _ _ c.in-Err.error c.in-Err.ensures.fault c.in-Err.ensures.longer
