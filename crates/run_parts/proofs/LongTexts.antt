-- Texts that are too long.
use Rattle.std.proofs.Common.{ℕ, ◌+◌, ◌<◌, List, length, replicate, Option, Some, None, refl, arith}
use Rattle.std.specs.Prelude.{IfSome}
use Rattle.std.proofs.lemmas.List.{length-replicate}
use Rattle.run_parts.specs.Bytes.{told_or_any}

-- some text is longer, and if one is told it is
pub long_text : (told : Option (List ℕ)) (limit : ℕ) → IfSome told (λ bytes. limit < length bytes) → (bytes : List ℕ) × told_or_any told bytes × (limit < length bytes)
long_text None limit l = (replicate (limit + 1) 0, tt, rw (length-replicate {A = ℕ} (limit + 1) 0) (omega arith))
long_text (Some bytes) limit l = (bytes, refl, l)
