use Rattle.weaker_statements.proofs.Cases.{ends_matter, judgements_matter}
use Rattle.weaker_statements.proofs.weaker_statements_hold_elsewhere.Goals as goal

pub returns : goal.returns
returns c = record { ends = ends_matter; judgements = judgements_matter }
