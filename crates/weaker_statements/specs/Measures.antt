-- A way to judge systems that keeps the law of bounds, and calls a system good and bad at once.
use Rattle.std.specs.Prelude.{◌≡◌, []}
use Rattle.rewriting.specs.Prelude.{System, system_of, IsWellFormed, AreDescentsBounded}
use Rattle.certificates.specs.Reasons.{smaller_constant}
use Rattle.interpretations.specs.Judgement.{Judgement, good, not_good, unraveling_large}

-- good where there are no rules; each system is bad
abbrev pub IsJudgedTwice : System → Judgement → Type 0
IsJudgedTwice sys good = sys.rules ≡ []
IsJudgedTwice sys (not_good why) = why ≡ smaller_constant 1
IsJudgedTwice sys (unraveling_large i) = ⊥

abbrev pub nothing : System
nothing = system_of ([]) ([])

-- where it judges good, descents are bounded; and it judges a system without rules both
pub record JudgementsMatter : Type 0 where
  pub bounds : (sys : System) → IsWellFormed sys → IsJudgedTwice sys good → AreDescentsBounded sys
  pub is_good : IsJudgedTwice nothing good
  pub is_bad : IsJudgedTwice nothing (not_good (smaller_constant 1))
