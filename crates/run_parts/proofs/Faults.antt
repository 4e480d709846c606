-- Faults of a shelf.
use Rattle.std.proofs.Common.{ℕ, ◌≤◌, arith}
use Rattle.cc_io.specs.Faults.{Rose}

-- what rose since a later time, rose since an earlier one
pub rose_since : (before between now : ℕ) → before ≤ between → Rose between now → Rose before now
rose_since before between now le rose = omega (arith, le, rose)
