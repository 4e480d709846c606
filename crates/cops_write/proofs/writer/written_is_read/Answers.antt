use Rattle.cops_write.proofs.ReadBack.{read_back}
use Rattle.cops_write.proofs.writer.written_is_read.Goals as goal

pub returns : goal.returns
returns c = read_back
