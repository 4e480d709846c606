use Rattle.std.proofs.Common.{subst}
use Rattle.automata.specs.Evidence.{IsExclusionJudged}
use Rattle.term_core.specs.View.{view}
use Rattle.cert_model.specs.EvidenceView.{automaton_view}
use Rattle.refuter.specs.Answers.{RefutesAnswers}
use Rattle.automaton_runs.specs.Counted.{Indexed}
use Rattle.tree_automata.proofs.exclusion.excludes.Goals as goal

pub returns : goal.returns
returns c =
    subst (λ (i : Indexed). RefutesAnswers (IsExclusionJudged i.symbols (automaton_view c.args.a.now) (view c.args.t.now)) c.judge_exclusion.result) c.in_ok-index.ensures c.judge_exclusion.ensures
