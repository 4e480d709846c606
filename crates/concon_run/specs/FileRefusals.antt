-- Why a file spells no system, and the text that says so.
use Rattle.std.specs.Prelude.{◌≤◌, ◌<◌, ◌++◌, ℕ, List, length, Option, option_map, codes, decimal}
use Rattle.cops_read.specs.File.{FileCause, IsNoFile}
use Rattle.cops_read.specs.declared.errors.ReadError.{ReadError}
use Rattle.run_parts.specs.Bytes.{most_file_bytes}
use Rattle.refusal_texts.specs.Files.{file_cause_words, file_error_cause}

-- it is too long, or refused for a cause at a place
pub data FileRefusal : Type 0 where
  long_file : FileRefusal
  no_system_text : FileCause → ℕ → FileRefusal

abbrev pub IsFileRefused : List ℕ → FileRefusal → Type 0
IsFileRefused bytes long_file = most_file_bytes < length bytes
IsFileRefused bytes (no_system_text cause at) = (length bytes ≤ most_file_bytes) × IsNoFile bytes cause at

-- the word for a file, the place, and why
abbrev pub refused_line : List ℕ → ℕ → List ℕ → List ℕ
refused_line name at why = name ++ (codes ":" ++ (decimal at ++ (codes ": " ++ (why ++ codes "\n"))))

abbrev pub file_refused_line : List ℕ → FileRefusal → List ℕ
file_refused_line name long_file = refused_line name most_file_bytes (codes "too long")
file_refused_line name (no_system_text cause at) = refused_line name at (file_cause_words cause)

abbrev pub file_refusal_of : ReadError → Option FileRefusal
file_refusal_of e = option_map (λ r. no_system_text r.0 r.1) (file_error_cause e)
