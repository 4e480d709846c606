use Rattle.reach_lists.proofs.Queue.{those_of_queues}
use Rattle.reach_lists.proofs.Laws.{lists_grow, rounds_expand, successors_settled}
use Rattle.reach_lists.proofs.lists_are_breadth_first.Goals as goal

pub returns : goal.returns
returns c = record { grow = lists_grow; rounds = rounds_expand; settled = successors_settled; queue = those_of_queues }
