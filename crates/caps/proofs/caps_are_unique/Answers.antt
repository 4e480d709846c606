use Rattle.caps.proofs.Unique.{one_cap, one_judgement, one_outcome}
use Rattle.caps.proofs.caps_are_unique.Goals as goal

pub returns-clause-caps : goal.returns-clause-caps
returns-clause-caps c = one_cap

pub returns-clause-judgements : goal.returns-clause-judgements
returns-clause-judgements c = one_judgement

pub returns-clause-outcomes : goal.returns-clause-outcomes
returns-clause-outcomes c = one_outcome
