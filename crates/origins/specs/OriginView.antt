-- The derivations that origins stand for.
use Rattle.certificates.specs.Derivations.{Derivation, no_steps, by_rule, by_hypothesis, derivations_of}
use Rattle.reach_lists.specs.Solutions.{then_step}
use Rattle.origins.specs.declared.Origin.{Origin, Origin-F, fold-Origin}
use Rattle.origins.specs.declared.Way.{Way, Way-F, fold-Way}
use Rattle.origins.specs.declared.Way.TheOpen as open_way

abbrev pub way_case : Way-F Derivation Derivation → Derivation
way_case open_way.Start = no_steps
way_case (open_way.Rule from rule pos conds) = then_step from (by_rule rule pos.items (derivations_of conds.items))
way_case (open_way.Hyp from number pos) = then_step from (by_hypothesis number pos.items)

abbrev pub origin_case : Origin-F Derivation Derivation → Derivation
origin_case o = o.way.value

abbrev pub origin_view : Origin → Derivation
origin_view = fold-Origin Derivation Derivation way_case origin_case

abbrev pub way_view : Way → Derivation
way_view = fold-Way Derivation Derivation way_case origin_case
