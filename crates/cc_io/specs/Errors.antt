-- How reading a whole file may end.
use Rattle.std.specs.Prelude.{◌≡◌, ◌⊎◌, ℕ, List, Option, Some, None, Result, Ok, Err}
use Rattle.cc_io.specs.declared.shelf.ReadAllError.{ReadAllError}
use Rattle.cc_io.specs.declared.shelf.ReadAllError.TheVariants.{ReadFault, TooLong, NoMemory}

abbrev pub IsTooLong : ReadAllError → Type 0
IsTooLong ReadFault = ⊥
IsTooLong (TooLong n) = Unit {0}
IsTooLong NoMemory = ⊥

-- the answer is that the file is too long, or that memory is wanting
abbrev pub TooLongIfMemory : {A : Type 0} → Result A ReadAllError → Type 0
TooLongIfMemory (Ok v) = ⊥
TooLongIfMemory (Err ReadFault) = ⊥
TooLongIfMemory (Err (TooLong n)) = Unit {0}
TooLongIfMemory (Err NoMemory) = Unit {0}

-- this file is begun, or none is
abbrev pub IsBegunIfAny : List ℕ → Option (List ℕ) → Type 0
IsBegunIfAny name begun = (begun ≡ Some name) ⊎ (begun ≡ None)
