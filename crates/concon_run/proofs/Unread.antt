-- What is answered, and said, where FILE gives no system.
use Rattle.std.proofs.Common.{◌≡◌, ℕ, ◌<◌, List, [], length, Option, Some, None, Err, refl, sym, subst}
use Rattle.std.specs.Prelude.{IfSome, IsErrOf, option_map}
use Rattle.cc_io.specs.Errors.{IsTooLong}
use Rattle.cc_io.specs.declared.shelf.ReadAllError.{ReadAllError}
use Rattle.cc_io.specs.declared.shelf.ReadAllError.TheVariants as reading
use Rattle.run_parts.specs.Bytes.{most_file_bytes, told_or_any, bytes_of}
use Rattle.refusal_texts.specs.Files.{file_cause_words, file_error_cause}
use Rattle.run_parts.specs.Devices.{ShelfRun, HasFailed}
use Rattle.run_parts.proofs.LongTexts.{long_text}
use Rattle.concon_run.specs.FileRefusals.{FileRefusal, long_file, no_system_text, file_refusal_of, file_refused_line, refused_line}
use Rattle.concon_run.specs.Said.{Said, IsSaidIfMemory, read_fault_said}
use Rattle.concon_run.specs.Systems.{IsRefusedFile}
use Rattle.concon_run.specs.Files.{SystemAnswers, no_system_answer, no_system_said}
use Rattle.concon_run.specs.Refusals.{refused_said}
use Rattle.concon_run.specs.Replies.{said_if_any}
use Rattle.concon_run.specs.declared.files.NoSystem.{NoSystem}
use Rattle.concon_run.specs.declared.files.NoSystem.TheVariants.{Unread, Refused}
use Rattle.concon_run.specs.declared.status.Status.{Status}
use Rattle.concon_run.specs.declared.status.Status.TheVariants as status

no_system_beyond : (told : Option (List ℕ)) → IfSome told (λ bytes. most_file_bytes < length bytes) → IsRefusedFile (told_or_any told) long_file
no_system_beyond told l = long_text told most_file_bytes l

pub file_unread : {A : Type 0} (told : Option (List ℕ)) (failed : Type 0) (e : ReadAllError) → (IsErrOf {T = A} (Err e) reading.ReadFault → failed)
    → (IsTooLong e → IfSome told (λ bytes. most_file_bytes < length bytes))
    → SystemAnswers (told_or_any told) failed (Err (Unread e))
file_unread told failed reading.ReadFault fault long = fault refl
file_unread told failed (reading.TooLong n) fault long = no_system_beyond told (long tt)
file_unread told failed reading.NoMemory fault long = tt

-- the answer, by what is known of it where the file is not read, and where it is refused
module _ {A : Type 0} (P : A → Type 0) (shelf : ShelfRun) (file : List ℕ) (unread : A) (refused : FileRefusal → A)
    (fails : HasFailed shelf file → P unread) (refuses : (r : FileRefusal) → IsRefusedFile (bytes_of shelf file) r → P (refused r)) where
  refusal : (o : Option FileRefusal) → IfSome o (IsRefusedFile (bytes_of shelf file)) → IfSome (option_map refused o) P
  refusal (Some r) h = refuses r h
  refusal None h = tt

  pub given_none : (e : NoSystem) → SystemAnswers (bytes_of shelf file) (HasFailed shelf file) (Err e) → IfSome (no_system_answer unread refused e) P
  given_none (Unread reading.ReadFault) h = fails h
  given_none (Unread (reading.TooLong n)) h = refuses long_file h
  given_none (Unread reading.NoMemory) h = tt
  given_none (Refused e) h = refusal (file_refusal_of e) h

-- what is said of a text that is refused, for a cause and at a place, is what the answer says
module _ {A R C : Type 0} (said_of : A → Said) (text : C → ℕ → R) (words : C → List ℕ) (refused : R → A) (s : Status) (name : List ℕ)
    (says : (cause : C) (at : ℕ) → said_of (refused (text cause at)) ≡ record { status = s; out = []; err = refused_line name at (words cause) }) where
  pub refusal_so : (o : Option (C × ℕ)) → refused_said s name (option_map (λ r. (r.1, words r.0)) o) ≡ said_if_any said_of (option_map refused (option_map (λ r. text r.0 r.1) o))
  refusal_so (Some r) = sym (says r.0 r.1)
  refusal_so None = refl

  pub refusal_is_said : (o : Option (C × ℕ)) (told : Option (ℕ × List ℕ)) (said : Said) → told ≡ option_map (λ r. (r.1, words r.0)) o → IsSaidIfMemory (refused_said s name told) said
      → IsSaidIfMemory (said_if_any said_of (option_map refused (option_map (λ r. text r.0 r.1) o))) said
  refusal_is_said o told said same h = subst (λ w. IsSaidIfMemory w said) (refusal_so o) (subst (λ t. IsSaidIfMemory (refused_said s name t) said) same h)

-- and so it is of a file
module _ {A : Type 0} (said_of : A → Said) (file : List ℕ) (unread : A) (refused : FileRefusal → A) (faults : said_of unread ≡ read_fault_said file)
    (says : (r : FileRefusal) → said_of (refused r) ≡ record { status = status.FileRefused; out = []; err = file_refused_line file r }) where
  no_system_so : (e : NoSystem) → no_system_said file e ≡ said_if_any said_of (no_system_answer unread refused e)
  no_system_so (Unread reading.ReadFault) = sym faults
  no_system_so (Unread (reading.TooLong n)) = sym (says long_file)
  no_system_so (Unread reading.NoMemory) = refl
  no_system_so (Refused e) = refusal_so said_of no_system_text file_cause_words refused status.FileRefused file (λ cause at. says (no_system_text cause at)) (file_error_cause e)

  pub no_system_is_said : (e : NoSystem) (said : Said) → IsSaidIfMemory (no_system_said file e) said → IsSaidIfMemory (said_if_any said_of (no_system_answer unread refused e)) said
  no_system_is_said e said h = subst (λ w. IsSaidIfMemory w said) (no_system_so e) h
