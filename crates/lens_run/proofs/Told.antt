-- What the sinks take of a text that goes to one of them.
use Rattle.std.proofs.Common.{◌≡◌, ℕ, List, [], Option, None, Some, refl, sym, ap, ◌∙◌, inl, inr}
use Rattle.std.proofs.lemmas.List.{append-nil}
use Rattle.cc_io.specs.Bytes.{appended}
use Rattle.run_parts.specs.Devices.{SinkRun}
use Rattle.run_parts.specs.Taken.{IsTaken}
use Rattle.lens_run.specs.Said.{complaint_said, IsTold}
use Rattle.lens_run.specs.declared.status.Status.{Status}
use Rattle.lens_run.specs.declared.status.Status.TheVariants as status

unmoved : (told : Option (List ℕ)) → told ≡ appended told []
unmoved None = refl
unmoved (Some bytes) = ap Some (sym (append-nil bytes))

pub told_on_err : (wanted s : Status) (text : List ℕ) (out err : SinkRun) → out.written_now ≡ out.written_before → IsTaken text wanted status.WriteFault s err
    → IsTold (complaint_said wanted text) s out err
told_on_err wanted s text out err same (inl (e, whole)) = inl (e, same ∙ unmoved out.written_before, whole)
told_on_err wanted s text out err same (inr (e, part)) = inr (e, inl (refl, same), part)
