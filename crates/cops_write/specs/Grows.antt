-- What bytes become while a text is written.
use Rattle.std.specs.Prelude.{◌≡◌, ℕ, List, ◌++◌}

-- the text stands behind the earlier bytes
pub record Grows (old text new : List ℕ) : Type 0 where
  pub by : new ≡ old ++ text
