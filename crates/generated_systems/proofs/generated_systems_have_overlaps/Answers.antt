use Rattle.generated_systems.proofs.Overlaps.{are_overlaps}
use Rattle.generated_systems.proofs.generated_systems_have_overlaps.Goals as goal

pub returns : goal.returns
returns c = are_overlaps
