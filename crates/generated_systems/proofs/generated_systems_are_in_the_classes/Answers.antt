use Rattle.generated_systems.proofs.Classes.{in_classes}
use Rattle.generated_systems.proofs.generated_systems_are_in_the_classes.Goals as goal

pub returns : goal.returns
returns c = in_classes
