-- The law of a shelf, at files in memory.
use Rattle.std.specs.Prelude.{◌≡◌, ℕ, List, [], drop, Option, Some, None, IfNone, IfSome, refl, string_bytes, slice_get}
use Rattle.std.specs.Option.{option_map}
use Rattle.cc_io.specs.declared.memory.MemoryFile.{MemoryFile}
use Rattle.cc_io.specs.Memory.{file_name_at, unread_at}

none-unread-at : (file : Option MemoryFile) (at : ℕ)
    → IfNone (option_map (λ f. string_bytes f.name) file) (IfSome (option_map (drop at) (option_map (λ f. f.bytes.items) file)) (λ unread. unread ≡ []))
none-unread-at None at = tt
none-unread-at (Some f) at = tt

-- where no file is begun, nothing is unread
pub none-unread : (files : List MemoryFile) (begun : Option ℕ) (at : ℕ) → IfNone (file_name_at files begun) (IfSome (unread_at files begun at) (λ unread. unread ≡ []))
none-unread files None at = refl
none-unread files (Some i) at = none-unread-at (slice_get files i) at
