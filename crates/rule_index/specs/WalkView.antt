-- The walk of the definitions that a `PartWalk` stands for.
use Rattle.std.specs.Prelude.{◌≤◌, [], ◌++◌, List}
use Rattle.rewriting.specs.Prelude.{Position, size, size_all}
use Rattle.term_core.specs.View.{view, views}
use Rattle.rule_index.specs.Parts.{Part, Walk, walk}
use Rattle.rule_index.specs.Levels.{parts_in, parts_among, later_parts, levels_of, AreLevels}
use Rattle.rule_index.specs.declared.parts.Ahead.{Ahead}
use Rattle.rule_index.specs.declared.parts.Ahead.TheVariants.{Whole, Arguments}
use Rattle.rule_index.specs.declared.parts.PartWalk.TheInside.{Inside}

-- what is ahead of a position
abbrev pub ahead_parts : Position → Ahead → List Part
ahead_parts p (Whole t) = parts_in p (view t.now)
ahead_parts p (Arguments args) = parts_among p 1 (views args.now)

abbrev pub walk_view : Inside → Walk
walk_view w = walk w.path.items (ahead_parts w.path.items w.ahead ++ later_parts [] w.path.items (levels_of w.later.items))

-- what is ahead is not large
abbrev pub IsSmall : Ahead → Type 0
IsSmall (Whole t) = size (view t.now) ≤ 10000
IsSmall (Arguments args) = size_all (views args.now) ≤ 10000

-- what a walk keeps
pub record IsHeld (w : Inside) : Type 0 where
  pub small : IsSmall w.ahead
  pub levels : AreLevels w.path.items (levels_of w.later.items)
