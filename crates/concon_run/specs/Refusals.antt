-- What is said of a text that is refused, or was not read whole, by the parts that say it.
use Rattle.std.specs.Prelude.{ℕ, List, [], Option, Some, None, codes}
use Rattle.cc_io.specs.declared.shelf.ReadAllError.{ReadAllError}
use Rattle.cc_io.specs.declared.shelf.ReadAllError.TheVariants.{ReadFault, TooLong, NoMemory}
use Rattle.concon_run.specs.FileRefusals.{refused_line}
use Rattle.concon_run.specs.Said.{Said, no_memory_said, read_fault_said}
use Rattle.concon_run.specs.declared.status.Status.{Status}

abbrev pub refused_said : Status → List ℕ → Option (ℕ × List ℕ) → Said
refused_said refused name (Some r) = record { status = refused; out = []; err = refused_line name r.0 r.1 }
refused_said refused name None = no_memory_said

-- with the status and the limit for a text that is too long
abbrev pub unread_said : List ℕ → ReadAllError → Status → ℕ → Said
unread_said name ReadFault too_long limit = read_fault_said name
unread_said name (TooLong n) too_long limit = record { status = too_long; out = []; err = refused_line name limit (codes "too long") }
unread_said name NoMemory too_long limit = no_memory_said
