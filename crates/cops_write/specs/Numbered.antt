-- Rules whose variables are numbered by first occurrence.
use Rattle.std.specs.Prelude.{List, [], ◌∷◌}
use Rattle.term_core.specs.declared.systems.Rule.{Rule}
use Rattle.term_core.specs.Numbering.{IsNumbered}

abbrev pub AreNumbered : List Rule → Type 0
AreNumbered [] = Unit {0}
AreNumbered (r ∷ rs) = IsNumbered r × AreNumbered rs
