-- What the program says, and how much of it the sinks take.
use Rattle.std.specs.Prelude.{◌≡◌, ◌⊎◌, ℕ, List, []}
use Rattle.run_parts.specs.Devices.{SinkRun}
use Rattle.run_parts.specs.Taken.{TakesWhole, TakesPart}
use Rattle.run_parts.specs.Texts.{no_memory_text, read_fault_text}
use Rattle.concon_run.specs.Run.{Run}
use Rattle.concon_run.specs.declared.status.Status.{Status}
use Rattle.concon_run.specs.declared.status.Status.TheVariants as statuses

-- a status, the text for out and the text for err
pub record Said : Type 0 where
  pub status : Status
  pub out : List ℕ
  pub err : List ℕ

-- the texts are what out and err took
abbrev pub IsWhole : Said → Status → SinkRun → SinkRun → Type 0
IsWhole said status out err = (status ≡ said.status) × TakesWhole said.out out × TakesWhole said.err err

-- or, where the faults of the sink that the text goes to rose, that took a proper front of it
abbrev pub IsTold : Said → Status → SinkRun → SinkRun → Type 0
IsTold said status out err = IsWhole said status out err ⊎ ((status ≡ statuses.WriteFault) × TakesPart said.out out × TakesPart said.err err)

-- a run tells this
abbrev pub Tells : Run → Said → Type 0
Tells run said = IsTold said run.status run.out run.err

abbrev pub no_memory_said : Said
no_memory_said = record { status = statuses.NoMemory; out = []; err = no_memory_text }

-- this is said, or that memory was refused
abbrev pub IsSaidIfMemory : Said → Said → Type 0
IsSaidIfMemory wanted said = (said ≡ wanted) ⊎ (said ≡ no_memory_said)

-- a run tells this, or that memory was refused
abbrev pub TellsIfMemory : Run → Said → Type 0
TellsIfMemory run said = Tells run said ⊎ Tells run no_memory_said

-- this status, or one that takes its place: memory was refused, or a sink failed
abbrev pub IsUnlessHindered : Status → Status → Type 0
IsUnlessHindered wanted answer = (answer ≡ wanted) ⊎ ((answer ≡ statuses.NoMemory) ⊎ (answer ≡ statuses.WriteFault))

-- of a file that the shelf failed at
abbrev pub read_fault_said : List ℕ → Said
read_fault_said name = record { status = statuses.ReadFault; out = []; err = read_fault_text name }
