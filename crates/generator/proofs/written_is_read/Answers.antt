use Rattle.std.proofs.Common.{arith}
use Rattle.cops_write.proofs.ReadBack.{tree_is_written}
use Rattle.generated_systems.specs.Generated.{generated, generated_names}
use Rattle.generator.proofs.Identifiers.{have_names}
use Rattle.generator.proofs.Trees.{tree_of}
use Rattle.generator.proofs.Written.{means_it, text_is_short}
use Rattle.generator.proofs.written_is_read.Goals as goal

pub returns-clause-read : goal.returns-clause-read
returns-clause-read c n g h = tree_is_written (tree_of n) (generated n) (generated_names n) (means_it n g h) (have_names 0 n (omega arith))

pub returns-clause-short : goal.returns-clause-short
returns-clause-short c = text_is_short
