use Rattle.std.proofs.Common.{◌≡◌, ◌^◌}
use Rattle.term_core.specs.View.{views}
use Rattle.noncon_search.specs.Laying.{all_laid}
use Rattle.noncon_search.proofs.Placed.{laid_from}
use Rattle.noncon_search.proofs.overlay.+laying.Given as goal

abbrev pub invariant-lay_inside-parts : goal.invariant-lay_inside-parts
invariant-lay_inside-parts l = laid_from (2 ^ 31) l.args l.others.items l.i ≡ all_laid (2 ^ 31) (views l.initial.args) (views l.others.items)
