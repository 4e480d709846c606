use Rattle.std.proofs.Common.{◌≡◌, [], length}
use Rattle.rule_index.specs.Levels.{AreLevels, levels_of, later_parts}
use Rattle.rule_index.proofs.parts.next_argument.Given as goal

abbrev pub invariant-levels : goal.invariant-levels
invariant-levels l = record {
  levels : AreLevels l.path.items (levels_of l.later.items);
  parts : later_parts [] l.fn.path.items (levels_of l.fn.later.items) ≡ later_parts [] l.path.items (levels_of l.later.items);
}

abbrev pub decreases-levels : goal.decreases-levels
decreases-levels l = length l.later.items
