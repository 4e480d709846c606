-- What is read of FILE, and what is answered where it gives no system.
use Rattle.std.specs.Prelude.{ℕ, List, Option, Some, None, IfSome, option_map, Result, Ok, Err}
use Rattle.rewriting.specs.Rules.{System}
use Rattle.cops_names.specs.NameTable.{NameTable}
use Rattle.cc_io.specs.declared.shelf.ReadAllError.TheVariants as reading
use Rattle.run_parts.specs.Bytes.{most_file_bytes, Bytes, SpellsSystem}
use Rattle.refusal_texts.specs.Files.{file_refusal_text}
use Rattle.concon_run.specs.FileRefusals.{FileRefusal, long_file, file_refusal_of}
use Rattle.concon_run.specs.Refusals.{refused_said, unread_said}
use Rattle.concon_run.specs.Said.{Said}
use Rattle.concon_run.specs.Systems.{IsRefusedFile}
use Rattle.concon_run.specs.declared.files.NoSystem.{NoSystem}
use Rattle.concon_run.specs.declared.files.NoSystem.TheVariants.{Unread, Refused}
use Rattle.concon_run.specs.declared.status.Status.TheVariants as status

-- a text that is not read whole is a fault of the shelf, or is refused; for want of memory nothing is known
abbrev pub SystemAnswers : Bytes → Type 0 → Result (System × NameTable) NoSystem → Type 0
SystemAnswers file failed (Ok s) = SpellsSystem file s.0 s.1
SystemAnswers file failed (Err (Unread reading.ReadFault)) = failed
SystemAnswers file failed (Err (Unread (reading.TooLong n))) = IsRefusedFile file long_file
SystemAnswers file failed (Err (Unread reading.NoMemory)) = Unit {0}
SystemAnswers file failed (Err (Refused e)) = IfSome (file_refusal_of e) (IsRefusedFile file)

-- what is answered, by the answers where the file is not read and where it is refused; for want of memory none of them
abbrev pub no_system_answer : {A : Type 0} → A → (FileRefusal → A) → NoSystem → Option A
no_system_answer unread refused (Unread reading.ReadFault) = Some unread
no_system_answer unread refused (Unread (reading.TooLong n)) = Some (refused long_file)
no_system_answer unread refused (Unread reading.NoMemory) = None
no_system_answer unread refused (Refused e) = option_map refused (file_refusal_of e)

-- what is said of it, by the part that says it
abbrev pub no_system_said : List ℕ → NoSystem → Said
no_system_said file (Unread e) = unread_said file e status.FileRefused most_file_bytes
no_system_said file (Refused e) = refused_said status.FileRefused file (file_refusal_text e)
