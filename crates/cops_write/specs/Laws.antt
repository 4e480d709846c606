-- What is written of a file's system is read back, where all its symbols are the file's.
use Rattle.std.specs.Prelude.{◌≡◌, ℕ, List, length}
use Rattle.rewriting.specs.Rules.{System}
use Rattle.cops_names.specs.NameTable.{NameTable}
use Rattle.cops_read.specs.File.{IsFile}
use Rattle.cops_write.specs.Text.{system_text}

abbrev pub WrittenIsRead : Type 0
WrittenIsRead = (bytes : List ℕ) (sys : System) (names : NameTable) → IsFile bytes sys names → sys.own ≡ length sys.arities → IsFile (system_text names sys) sys names
