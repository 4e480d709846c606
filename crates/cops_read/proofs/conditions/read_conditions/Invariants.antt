use Rattle.std.proofs.Common.{◌≡◌, ◌≤◌, List, length}
use Rattle.file_text.specs.Syntax.{ConditionTree}
use Rattle.cops_syntax.specs.View.{AreConditions}
use Rattle.cops_read.specs.Bounds.{most_variables}
use Rattle.cops_read.proofs.Repeats.{Conditions}
use Rattle.cops_read.proofs.conditions.read_conditions.Given as goal

abbrev pub invariant-conditions : goal.invariant-conditions
invariant-conditions g l = record {
  read : (cs : List ConditionTree) → AreConditions l.texts cs
      → Conditions (g.H.HeadReader.cause (g.H.HeadReader.kept l.fn.reader)) (g.H.HeadReader.block (g.H.HeadReader.kept l.fn.reader)) (g.H.HeadReader.symbols l.fn.reader)
      (g.H.HeadReader.variables l.fn.reader) l.rule cs l.i (g.H.HeadReader.symbols l.reader) (g.H.HeadReader.variables l.reader) l.conds.items;
  kept : g.H.HeadReader.kept l.reader ≡ g.H.HeadReader.kept l.fn.reader;
  few : length (g.H.HeadReader.variables l.reader) ≤ most_variables;
}
