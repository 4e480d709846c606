use Rattle.measure_grid.proofs.Shape.{grids_in_shape}
use Rattle.measure_grid.proofs.grids_are_in_shape.Goals as goal

pub returns : goal.returns
returns c = record { shape = grids_in_shape }
