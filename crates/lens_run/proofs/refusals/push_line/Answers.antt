use Rattle.std.proofs.Common.{append_assoc}
use Rattle.lens_run.proofs.refusals.push_line.Goals as goal

pub returns : goal.returns
returns c =
    simp (
      c.in_ok-push-3.ensures.items,
      c.in_ok-extend_from_slice-3.ensures.items,
      c.in_ok-extend_from_slice-2.ensures.items,
      c.in_ok-push_number-2.ensures,
      c.in_ok-push-2.ensures.items,
      c.in_ok-push_number.ensures,
      c.in_ok-push.ensures.items,
      c.in_ok-extend_from_slice.ensures.items,
      c.as_bytes.ensures.value,
      append_assoc,
    )
