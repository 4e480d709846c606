use Rattle.file_text.proofs.TextLaws.{one_refusal_of, never_tree_and_refusal, tree_or_refusal}
use Rattle.file_text.proofs.Within.{no_text_within}
use Rattle.file_text.proofs.one_refusal.Goals as goal

pub returns-clause-refusal : goal.returns-clause-refusal
returns-clause-refusal c = one_refusal_of

pub returns-clause-within : goal.returns-clause-within
returns-clause-within c = no_text_within

pub returns-clause-either : goal.returns-clause-either
returns-clause-either c = never_tree_and_refusal

pub returns-clause-some : goal.returns-clause-some
returns-clause-some c = tree_or_refusal
