-- What is written of a generated system is read back, and is no longer than a file may be.
use Rattle.std.specs.Prelude.{ℕ, ◌≤◌, length}
use Rattle.generated_systems.specs.declared.TheConstants.{MOST_GENERATED}
use Rattle.cops_read.specs.File.{IsFile}
use Rattle.cops_write.specs.Text.{system_text}
use Rattle.generated_systems.specs.Generated.{generated, generated_names}

abbrev pub GeneratedIsRead : Type 0
GeneratedIsRead = (n : ℕ) → 1 ≤ n → n ≤ MOST_GENERATED → IsFile (system_text (generated_names n) (generated n)) (generated n) (generated_names n)

abbrev pub GeneratedIsShort : Type 0
GeneratedIsShort = (n : ℕ) → 1 ≤ n → n ≤ MOST_GENERATED → length (system_text (generated_names n) (generated n)) ≤ 1048576
