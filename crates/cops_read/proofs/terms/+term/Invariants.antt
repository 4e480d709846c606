use Rattle.std.proofs.Common.{◌≡◌, ◌+◌, ◌*◌, ◌-◌, ◌≤◌, ◌++◌, List, drop, length, map}
use Rattle.file_text.specs.Syntax.{Phrases, count, Node, flat_all}
use Rattle.cops_read.specs.Heads.{side_at}
use Rattle.cops_read.specs.Bounds.{most_variables}
use Rattle.cops_read.proofs.Walks.{Loop}
use Rattle.cops_read.proofs.terms.+term.Given as goal

abbrev pub invariant-read_arguments-arguments : goal.invariant-read_arguments-arguments
invariant-read_arguments-arguments g l = record {
  read : (ps : Phrases) (rest : List Node) → l.count ≡ count ps → map g.H.HeadReader.node_of (drop l.first.before l.nodes) ≡ flat_all ps ++ rest
      → Loop (g.H.HeadReader.cause (g.H.HeadReader.kept l.fn.reader)) (g.H.HeadReader.block (g.H.HeadReader.kept l.fn.reader)) (g.H.HeadReader.symbols l.fn.reader)
      (g.H.HeadReader.variables l.fn.reader) (side_at l.first) l.first.depth l.first.before g.H.HeadReader.node_of l.nodes ps rest l.argument (g.H.HeadReader.symbols l.reader)
      (g.H.HeadReader.variables l.reader) l.terms.items l.before;
  kept : g.H.HeadReader.kept l.reader ≡ g.H.HeadReader.kept l.fn.reader;
  few : length (g.H.HeadReader.variables l.reader) ≤ most_variables;
}

abbrev pub decreases-read_term : goal.decreases-read_term
decreases-read_term g l = 2 * (201 - l.place.depth)

abbrev pub decreases-read_arguments : goal.decreases-read_arguments
decreases-read_arguments g l = 2 * (201 - l.first.depth) + 1
