-- The symbols of an unraveled system that `Head` stands for.
use Rattle.rewriting.specs.Unraveling as math
use Rattle.rewriting.specs.Unraveling.{file, auxiliary}
use Rattle.term_core.specs.declared.systems.Head.{Head}
use Rattle.term_core.specs.declared.systems.Head.TheVariants as head

abbrev pub head_view : Head → math.Head
head_view (head.File symbol) = file symbol
head_view (head.Aux rule cond) = auxiliary rule cond
