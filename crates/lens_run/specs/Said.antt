-- What the program says, and how much of it the sinks take.
use Rattle.std.specs.Prelude.{◌≡◌, ◌⊎◌, ℕ, List, [], codes}
use Rattle.run_parts.specs.Devices.{SinkRun}
use Rattle.run_parts.specs.Taken.{TakesWhole, TakesPart}
use Rattle.run_parts.specs.Texts.{no_memory_text, read_fault_text}
use Rattle.lens_run.specs.declared.reply.Reply.{Reply}
use Rattle.lens_run.specs.declared.reply.Reply.TheVariants as reply
use Rattle.lens_run.specs.declared.status.Status.{Status}
use Rattle.lens_run.specs.declared.status.Status.TheVariants as status

-- a status, the text for out and the text for err
pub record Said : Type 0 where
  pub status : Status
  pub out : List ℕ
  pub err : List ℕ

abbrev pub page_said : List ℕ → Said
page_said page = record { status = status.Done; out = page; err = [] }

-- that nothing was found, and why
abbrev pub nothing_said : List ℕ → Said
nothing_said page = record { status = status.Nothing; out = page; err = [] }

abbrev pub complaint_said : Status → List ℕ → Said
complaint_said s text = record { status = s; out = []; err = text }

abbrev pub usage_said : Said
usage_said = complaint_said status.Usage (codes "usage: lens show FILE [--skeleton ortho|quasi|peak]\n       lens tell FILE CERT [--svg]\n       lens ari FILE\n       lens seek FILE [--budget N]\n")

abbrev pub no_memory_said : Said
no_memory_said = complaint_said status.NoMemory no_memory_text

-- of a file that the shelf failed at
abbrev pub read_fault_said : List ℕ → Said
read_fault_said name = complaint_said status.ReadFault (read_fault_text name)

abbrev pub reply_said : Reply → Said
reply_said (reply.Page page) = page_said page.items
reply_said (reply.Nothing text) = nothing_said text.now
reply_said (reply.Complaint s text) = complaint_said s text.items
reply_said reply.Usage = usage_said
reply_said reply.NoMemory = no_memory_said

-- the texts are what out and err took; or, where the faults of the sink that the text goes to rose, that took a proper front of it
abbrev pub IsTold : Said → Status → SinkRun → SinkRun → Type 0
IsTold said s out err =
    ((s ≡ said.status) × TakesWhole said.out out × TakesWhole said.err err) ⊎ ((s ≡ status.WriteFault) × TakesPart said.out out × TakesPart said.err err)
