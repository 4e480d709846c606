use Rattle.reach_lists.proofs.Following.{are_followed, cost_the_same}
use Rattle.reach_lists.proofs.depth_first_finds_the_same.Goals as goal

pub returns : goal.returns
returns c = record { solutions = are_followed; cost = cost_the_same }
