use Rattle.std.proofs.Common.{append_assoc}
use Rattle.lens_run.proofs.refusals.too_long_text.Goals as goal

pub returns : goal.returns
returns c = simp (c.in_ok-extend_from_slice-2.ensures.items, c.in_ok-extend_from_slice.ensures.items, c.in_ok-text.ensures.items, c.as_bytes.ensures.value, append_assoc)
