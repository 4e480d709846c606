-- What holds of every interpretation: a good one bounds descents, and each has exactly one judgement.
use Rattle.std.specs.Prelude.{◌≡◌}
use Rattle.rewriting.specs.Prelude.{Term, IsOver, System, IsWellFormed, unraveled, IsBounded}
use Rattle.interpretations.specs.Judgement.{Judgement}
use Rattle.interpretations.specs.Linear.{Interpretation, constant, IsGood}
use Rattle.interpretations.specs.Judged.{IsInterpretationJudged}

-- no list of descents from a term is longer than the term's value with variables at 0
abbrev pub GoodInterpretationsBoundDescents : Type 0
GoodInterpretationsBoundDescents =
    (sys : System) (es : Interpretation) → IsWellFormed sys → IsGood sys es → (t : Term) → IsOver (unraveled sys).arities t → IsBounded sys t (constant es t)

-- no interpretation is judged in two ways
abbrev pub InterpretationsHaveOneJudgement : Type 0
InterpretationsHaveOneJudgement =
    (sys : System) (es : Interpretation) (j k : Judgement) → IsInterpretationJudged sys es j → IsInterpretationJudged sys es k → j ≡ k

-- and each is judged in one
abbrev pub EachInterpretationIsJudged : Type 0
EachInterpretationIsJudged = (sys : System) (es : Interpretation) → (j : Judgement) × IsInterpretationJudged sys es j
