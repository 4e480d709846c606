-- What a reply says.
use Rattle.std.specs.Prelude.{◌≡◌, List, [], ℕ, Option, Some, None, Result, Ok, Err, if◌then◌else◌}
use Rattle.concon_run.specs.declared.status.Status.{Status}
use Rattle.concon_run.specs.declared.reply.Text.{Text}
use Rattle.concon_run.specs.declared.reply.Text.TheVariants.{Fixed, Made}
use Rattle.concon_run.specs.declared.reply.Reply.{Reply}
use Rattle.concon_run.specs.Said.{Said, no_memory_said}

abbrev pub text_bytes : Text → List ℕ
text_bytes (Fixed b) = b.now
text_bytes (Made v) = v.items

abbrev pub reply_said : Reply → Said
reply_said r = record {
  status = r.status;
  out = if r.to_out then text_bytes r.text else [];
  err = if r.to_out then [] else text_bytes r.text;
}

-- what is said of an answer; where there is none, that memory was refused
abbrev pub said_if_any : {A : Type 0} → (A → Said) → Option A → Said
said_if_any said (Some answer) = said answer
said_if_any said None = no_memory_said

-- a text for out was made, and is said with the status; else that memory was refused
abbrev pub IsMade : {V E : Type 0} → (V → List ℕ) → Status → Result V E → Said → Type 0
IsMade bytes status (Ok v) said = said ≡ record { status = status; out = bytes v; err = [] }
IsMade bytes status (Err e) said = said ≡ no_memory_said
