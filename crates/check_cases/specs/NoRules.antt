-- A measure of the cases: it knows systems without rules.
use Rattle.std.specs.Prelude.{◌≡◌, ◌≢◌, List, [], ◌∷◌, refl}
use Rattle.rewriting.specs.Rules.{Rule, System}
use Rattle.certificates.specs.Reasons.{smaller_constant}
use Rattle.interpretations.specs.Judgement.{Judgement, good, not_good, unraveling_large}

-- good where there are no rules; else rule 1 is blamed
abbrev pub IsJudgedWithoutRules : System → Judgement → Type 0
IsJudgedWithoutRules sys good = sys.rules ≡ []
IsJudgedWithoutRules sys (not_good why) = (why ≡ smaller_constant 1) × (sys.rules ≢ [])
IsJudgedWithoutRules sys (unraveling_large i) = ⊥

-- there are rules, or there are none
pub judged_once : (sys : System) (j k : Judgement) → IsJudgedWithoutRules sys j → IsJudgedWithoutRules sys k → j ≡ k
judged_once sys good good h q = refl
judged_once sys good (not_good w) h q = absurd (q.1 h)
judged_once sys (not_good v) good h q = absurd (h.1 q)
judged_once sys (not_good v) (not_good w) h q =
    let one : v ≡ smaller_constant 1 = h.0 in
    let other : w ≡ smaller_constant 1 = q.0 in
    cc
judged_once sys (unraveling_large i) k h q = absurd h
judged_once sys j (unraveling_large i) h q = absurd q

pub judged_somehow : (sys : System) → (j : Judgement) × IsJudgedWithoutRules sys j
judged_somehow sys = go sys.rules refl
  where
    go : (rs : List Rule) → sys.rules ≡ rs → (j : Judgement) × IsJudgedWithoutRules sys j
    go [] none = (good, none)
    go (r ∷ rs) some = (not_good (smaller_constant 1), (refl, λ none. cc))
