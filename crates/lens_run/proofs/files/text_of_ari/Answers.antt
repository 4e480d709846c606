use Rattle.std.proofs.Common.{inl, inr, subst}
use Rattle.std.specs.Prelude.{option_map}
use Rattle.refusal_texts.specs.Refusals.{place_and_words}
use Rattle.run_parts.specs.Bytes.{most_file_bytes}
use Rattle.lens_run.specs.Runs.{IsSaidRefused}
use Rattle.lens_run.specs.Said.{reply_said}
use Rattle.lens_run.specs.declared.status.Status.TheVariants as status
use Rattle.lens_run.proofs.Unread.{unread}
use Rattle.lens_run.proofs.Causes.{ari_refused}
use Rattle.lens_run.proofs.files.text_of_ari.Goals as goal

pub returns-in-Err : goal.returns-in-Err
returns-in-Err g c =
    elim (unread _ most_file_bytes _ status.FileRefused c.args.file.now (reply_said c.unread.result) c.in-Err.error c.in-Err.ensures.fault c.in-Err.ensures.longer c.unread.ensures)
    [ inl long ↦ inr (inl (long.0, long.1, inl (long.2, long.3))) | inr none ↦ inr (inr none) ]

pub returns : goal.returns
returns g c =
    ari_refused _ _ c.args.file.now c.in-Ok.bytes.items c.in-Ok.ensures.all (reply_said c.refused.result) (option_map place_and_words c.ari_refusal.result)
    (subst (λ b. IsSaidRefused status.FileRefused c.args.file.now b (option_map place_and_words c.ari_refusal.result) (reply_said c.refused.result))
    c.deref-in-Err-ari_to_cops.ensures.value c.refused.ensures)
