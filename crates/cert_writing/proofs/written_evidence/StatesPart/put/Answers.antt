use Rattle.cert_writing.proofs.Prelude.{first_and_others, further_behind}
use Rattle.cert_writing.proofs.written_evidence.StatesPart.put.Goals as goal

pub returns-in-len1-up : goal.returns-in-len1-up
returns-in-len1-up g c = rw (← c.as_slice.ensures.value, first_and_others c.as_slice.result.now 0 c.in-len1-up.len_at_least, further_behind) c.put.ensures
