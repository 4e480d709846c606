-- Whether a variable stands in a region of a rule.
use Rattle.std.specs.Prelude.{ℕ, Bool, ◌||◌, map}
use Rattle.rewriting.specs.Prelude.{occurs, occurs_in, left_sides, right_sides}
use Rattle.term_core.specs.Prelude.{view, condition_view}
use Rattle.ctrs_classes.specs.declared.regions.Region.{Region}

abbrev pub in_region : Region → ℕ → Bool
in_region r x = occurs x (view r.left.now) || (occurs_in x (left_sides (map condition_view r.asked.now)) || occurs_in x (right_sides (map condition_view r.known.now)))
