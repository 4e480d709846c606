use Rattle.caps.proofs.Total.{cap_exists, caps_total, pair_total}
use Rattle.caps.proofs.caps_are_total.Goals as goal

pub returns-clause-caps : goal.returns-clause-caps
returns-clause-caps c = cap_exists

pub returns-clause-judgements : goal.returns-clause-judgements
returns-clause-judgements c = caps_total

pub returns-clause-outcomes : goal.returns-clause-outcomes
returns-clause-outcomes c = pair_total
