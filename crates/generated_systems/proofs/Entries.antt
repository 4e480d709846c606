-- What the entries cost together.
use Rattle.std.proofs.Common.{ℕ, zero, suc, ◌+◌, ◌*◌, ◌≤◌, map, refl, arith}
use Rattle.std.specs.List.{range_with_len}
use Rattle.first_found.specs.Rows.{AreFirsts}
use Rattle.search_spaces.specs.Entries.{entry_for}
use Rattle.search_spaces.specs.Ortho.{IsOrthoEntry}
use Rattle.generated_systems.specs.Generated.{generated}
use Rattle.generated_systems.specs.Certificate.{overlap_for, conflict}
use Rattle.generated_systems.specs.Laws.{EntriesAreFirsts}
use Rattle.generated_systems.proofs.Conflicts.{have_conflicts}

firsts_from : (n a m : ℕ) → a + m ≤ n → AreFirsts (IsOrthoEntry (generated n)) (map overlap_for (range_with_len a m)) (map (λ k. entry_for (overlap_for k) conflict) (range_with_len a m)) (3 * m)
firsts_from n a zero l = refl
firsts_from n a (suc m) l = (3, 3 * m, (conflict, have_conflicts n a (omega (arith, l)), refl), firsts_from n (a + 1) m (omega (arith, l)), omega arith)

pub entries_are_firsts : EntriesAreFirsts
entries_are_firsts n = firsts_from n 0 n (omega arith)
