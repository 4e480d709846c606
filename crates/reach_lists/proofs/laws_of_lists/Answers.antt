use Rattle.reach_lists.proofs.Short.{listed_short}
use Rattle.reach_lists.proofs.Laws.{starts_are, listed_derived, none_twice, lists_short, cost_terms}
use Rattle.reach_lists.proofs.laws_of_lists.Goals as goal

pub returns : goal.returns
returns c = record { starts = starts_are; derived = listed_derived; derivations_short = listed_short; once = none_twice; short = lists_short; cost = cost_terms }
