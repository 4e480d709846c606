-- What is said where nothing can be answered.
use Rattle.std.specs.Prelude.{◌++◌, ℕ, List, codes}

abbrev pub no_memory_text : List ℕ
no_memory_text = codes "no memory\n"

-- of a file that the shelf failed at
abbrev pub read_fault_text : List ℕ → List ℕ
read_fault_text name = name ++ codes ": read fault\n"
