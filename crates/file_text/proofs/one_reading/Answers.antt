use Rattle.file_text.proofs.OneReading.{one_list, one_bad_place, never_both}
use Rattle.file_text.proofs.Within.{no_tokens_within}
use Rattle.file_text.proofs.SomeReading.{tokens_or_refusal}
use Rattle.file_text.proofs.one_reading.Goals as goal

pub returns-clause-tokens : goal.returns-clause-tokens
returns-clause-tokens c = one_list

pub returns-clause-place : goal.returns-clause-place
returns-clause-place c = one_bad_place

pub returns-clause-within : goal.returns-clause-within
returns-clause-within c = no_tokens_within

pub returns-clause-either : goal.returns-clause-either
returns-clause-either c = never_both

pub returns-clause-some : goal.returns-clause-some
returns-clause-some c = tokens_or_refusal
