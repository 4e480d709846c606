-- The overlap of the definitions that an `Overlap` stands for.
use Rattle.std.specs.Prelude.{map}
use Rattle.unifier_run.specs.Overlaps as math
use Rattle.term_core.specs.Prelude.{view, condition_view}
use Rattle.critical_pairs.specs.declared.Overlap.{Overlap}

abbrev pub overlap_view : Overlap → math.Overlap
overlap_view o =
    record {
      inner = o.inner;
      position = o.pos.items;
      outer = o.outer;
      pair = record { source = view o.source; left = view o.left; right = view o.right; conditions = map condition_view o.conds.items };
      inner_conditions = o.inner_conds;
    }
