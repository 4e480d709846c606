-- The evidence of the definitions that a `Refuting` stands for.
use Rattle.search_spaces.specs.Refuting as math
use Rattle.search_spaces.specs.Refuting.{try_caps, try_growth}
use Rattle.evidence_offers.specs.declared.Refuting.{Refuting}
use Rattle.evidence_offers.specs.declared.Refuting.TheVariants.{Caps, Growth}

abbrev pub refuting_view : Refuting → math.Refuting
refuting_view Caps = try_caps
refuting_view (Growth k) = try_growth k
