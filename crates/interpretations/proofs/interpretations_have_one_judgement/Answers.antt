use Rattle.interpretations.proofs.OneJudgement.{judgement_once}
use Rattle.interpretations.proofs.Total.{interpretation_total}
use Rattle.interpretations.proofs.interpretations_have_one_judgement.Goals as goal

pub returns : goal.returns
returns c = record { some = interpretation_total; one = judgement_once }
