use Rattle.std.proofs.Common.{inl, inr, subst}
use Rattle.cops_read.specs.Answers.{IsRefusedFor}
use Rattle.refusal_texts.specs.Files.{file_refusal_text}
use Rattle.run_parts.specs.Bytes.{most_file_bytes}
use Rattle.lens_run.specs.Runs.{IsSaidRefused}
use Rattle.lens_run.specs.Said.{reply_said}
use Rattle.lens_run.specs.declared.status.Status.TheVariants as status
use Rattle.lens_run.proofs.Unread.{unread}
use Rattle.lens_run.proofs.Causes.{file_refused}
use Rattle.lens_run.proofs.files.system_of.Goals as goal

pub returns-in-Err-clause-none : goal.returns-in-Err-clause-none
returns-in-Err-clause-none g c =
    elim (unread _ most_file_bytes _ status.FileRefused c.args.file.now (reply_said c.unread.result) c.in-Err.error c.in-Err.ensures.fault c.in-Err.ensures.longer c.unread.ensures)
    [ inl long ↦ inl (long.0, long.1, inl (long.2, long.3)) | inr none ↦ inr none ]

pub returns-clause-none : goal.returns-clause-none
returns-clause-none g c =
    file_refused _ _ c.args.file.now c.in-Ok.bytes.items c.in-Ok.ensures.all (reply_said c.refused.result) c.in-Err-read_system.error
    (subst (λ b. IsRefusedFor b c.in-Err-read_system.error) c.deref.ensures.value c.in-Err-read_system.ensures)
    (subst (λ b. IsSaidRefused status.FileRefused c.args.file.now b (file_refusal_text c.in-Err-read_system.error) (reply_said c.refused.result)) c.deref-in-Err-read_system.ensures.value
    (subst (λ o. IsSaidRefused status.FileRefused c.args.file.now c.deref-in-Err-read_system.result.now o (reply_said c.refused.result)) c.file_refusal.ensures c.refused.ensures))
