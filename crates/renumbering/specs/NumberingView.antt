-- The row that a `Numbering` stands for.
use Rattle.std.specs.Prelude.{List, ℕ}
use Rattle.renumbering.specs.declared.Numbering.TheInside.{Inside}

abbrev pub row_of : Inside → List ℕ
row_of n = n.row.keys
