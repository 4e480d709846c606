use Rattle.std.proofs.Common.{◌≡◌, take, drop}
use Rattle.rewriting.specs.Prelude.{with_variables_of, IsFront}
use Rattle.term_core.specs.View.{views}
use Rattle.renumbering.specs.Rows.{IsRow}
use Rattle.renumbering.proofs.Numbered.{AreNumbered}
use Rattle.renumbering.proofs.+numbered_by.Given as goal

abbrev pub invariant-arguments : goal.invariant-arguments
invariant-arguments l = record {
  row : with_variables_of l.row.keys (views (drop l.arg-index l.arg-items)) ≡ with_variables_of l.fn.row.keys (views l.arg-items);
  front : IsFront l.fn.row.keys l.row.keys;
  kept : IsRow l.row.keys;
  numbered : AreNumbered l.row.keys (views (take l.arg-index l.arg-items)) (views l.numbered.items);
}
