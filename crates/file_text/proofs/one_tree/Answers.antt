use Rattle.file_text.proofs.TextLaws.{one_tree_of}
use Rattle.file_text.proofs.one_tree.Goals as goal

pub returns : goal.returns
returns c = one_tree_of
