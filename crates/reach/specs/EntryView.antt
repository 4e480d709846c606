-- The lists that tables stand for: each entry is a term with the derivation that its origin tells.
use Rattle.std.specs.Prelude.{List, map}
use Rattle.reach_lists.specs.Solutions as math
use Rattle.term_core.specs.View.{view}
use Rattle.origins.specs.OriginView.{origin_view}
use Rattle.reach.specs.declared.listed.Entry.{Entry}

abbrev pub entry_view : Entry → math.Reached
entry_view e = record { term = view e.term; by = origin_view e.origin }

abbrev pub table_view : List Entry → List math.Reached
table_view es = map entry_view es
