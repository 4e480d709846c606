-- Peaks that show that a system is not confluent, and why a peak is rejected.
use Rattle.std.specs.Prelude.{ℕ, suc, ◌≡◌, ◌≢◌, ◌⊎◌, ◌<◌, nat_eq, if◌then◌else◌, List, [], ◌∷◌, Option, None, Some}
use Rattle.std.specs.FinMap.{get}
use Rattle.rewriting.specs.Prelude.{IsAmong, IsSorted, Term, Position, subterm, IsBefore, Substitution, Bindings, apply, Matches, even, odd, HasSymbolsBelow, Condition, Rule, System}
use Rattle.rewriting.specs.Prelude.{rule_at, conditions_under}
use Rattle.unifier_run.specs.Run.{Binding, unifier, clash}
use Rattle.caps.specs.Evidence.{IsRigidOutcome, AreRigidCapsLarge}
use Rattle.certificates.specs.Prelude.{InfeasibilityEvidence, Apartness, Peak, Redex, by_normal_forms, by_rigid_caps, Derives, IsFirstBad, RuleMatches, DoConditionsFit, EvidenceReason}
use Rattle.certificates.specs.Prelude.{tcap_large, BadStep, Rejection, foreign, first_bad, second_bad, same_term, not_normal, redex_extra, redex_fails, caps_unify, caps_large}
use Rattle.judged_evidence.specs.Evidence.{IsInfeasibilityJudged}

-- the left side of the rule with a number matches at the position
pub record MatchesAt (sys : System) (t : Term) (p : Position) (i : ℕ) : Type 0 where
  pub rule : Rule
  pub part : Term
  pub is_rule : rule_at sys i ≡ Some rule
  pub stands : subterm t p ≡ Some part
  pub matches : Matches rule.left part

-- where a rule matches in one of two terms: which of them, 1 or 2, the position and the rule's number
pub record RedexPlace : Type 0 where
  pub which : ℕ
  pub position : Position
  pub rule : ℕ

abbrev pub IsRedex : System → Term → Term → RedexPlace → Type 0
IsRedex sys u v r = ((r.which ≡ 1) × MatchesAt sys u r.position r.rule) ⊎ ((r.which ≡ 2) × MatchesAt sys v r.position r.rule)

-- redexes are in order by the term, then the position, then the rule
abbrev pub IsEarlierRedex : RedexPlace → RedexPlace → Type 0
IsEarlierRedex a b =
    (a.which < b.which) ⊎ ((a.which ≡ b.which) × (IsBefore a.position b.position ⊎ ((a.position ≡ b.position) × (a.rule < b.rule))))

-- the list has exactly the redexes of two terms, in order
pub record AreRedexes (sys : System) (u v : Term) (rs : List RedexPlace) : Type 0 where
  pub each : (r : RedexPlace) → IsAmong r rs → IsRedex sys u v r
  pub whole : (r : RedexPlace) → IsRedex sys u v r → IsAmong r rs
  pub sorted : IsSorted IsEarlierRedex rs

-- the one of two terms that has the number 1 or 2
abbrev pub chosen : Term → Term → ℕ → Term
chosen u v which = if nat_eq which 1 then u else v

-- the value of a variable k of a rule at a redex: the term that the match has for it, its variables n as 2n + 1; or 2k where it has none
abbrev pub value_or_own : ℕ → Option Term → Term
value_or_own k (Some t) = apply odd t
value_or_own k None = even k

abbrev pub at_redex : Bindings → Substitution
at_redex match k = value_or_own k (get match k)

-- the conditions of the rule that matches at a place
pub record AreConditionsAt (sys : System) (t : Term) (r : RedexPlace) (cs : List Condition) : Type 0 where
  pub rule : Rule
  pub match : Bindings
  pub matches : RuleMatches sys t r.rule r.position rule match
  pub are : cs ≡ conditions_under (at_redex match) rule.conditions

-- the evidence for a redex is judged; conditions of which a side does not fit count as ones with a large cap
abbrev pub IsRedexJudged : System → Term → RedexPlace → InfeasibilityEvidence → Option EvidenceReason → Type 0
IsRedexJudged sys t r evidence o =
    (cs : List Condition) × AreConditionsAt sys t r cs
    × ((DoConditionsFit cs × IsInfeasibilityJudged sys cs evidence o) ⊎ ((DoConditionsFit cs → ⊥) × (o ≡ Some tcap_large)))

-- the place that an entry is for
abbrev pub entry_place : Redex → RedexPlace
entry_place e = record { which = e.which; position = e.position; rule = e.rule }

-- there is an entry for each of the redexes, in order, with valid evidence, and no other entry
abbrev pub AreRefuted : System → Term → Term → List RedexPlace → List Redex → Type 0
AreRefuted sys u v [] [] = Unit {0}
AreRefuted sys u v [] (e ∷ es) = ⊥
AreRefuted sys u v (r ∷ rs) [] = ⊥
AreRefuted sys u v (r ∷ rs) (e ∷ es) = (entry_place e ≡ r) × IsRedexJudged sys (chosen u v r.which) r e.evidence None × AreRefuted sys u v rs es

-- the redex should have had the next entry
abbrev pub IsMissed : RedexPlace → Rejection → Type 0
IsMissed r reason = reason ≡ not_normal r.which r.position r.rule

-- the first reason why not, where entries are numbered from n
abbrev pub AreNotRefuted : System → Term → Term → ℕ → List RedexPlace → List Redex → Rejection → Type 0
AreNotRefuted sys u v n [] [] reason = ⊥
AreNotRefuted sys u v n [] (e ∷ es) reason = reason ≡ redex_extra n
AreNotRefuted sys u v n (r ∷ rs) [] reason = IsMissed r reason
AreNotRefuted sys u v n (r ∷ rs) (e ∷ es) reason =
    ((entry_place e ≢ r) × IsMissed r reason)
    ⊎ ((entry_place e ≡ r) × ((why : EvidenceReason) × IsRedexJudged sys (chosen u v r.which) r e.evidence (Some why) × (reason ≡ redex_fails n why)))
    ⊎ ((entry_place e ≡ r) × IsRedexJudged sys (chosen u v r.which) r e.evidence None × AreNotRefuted sys u v (suc n) rs es reason)

-- two ends of a peak are shown to be apart: they differ, and each redex is refuted; or their rigid caps clash
abbrev pub AreShownApart : System → Term → Term → Apartness → Type 0
AreShownApart sys u v (by_normal_forms es) = (u ≢ v) × ((rs : List RedexPlace) × AreRedexes sys u v rs × AreRefuted sys u v rs es)
AreShownApart sys u v by_rigid_caps = IsRigidOutcome sys u v clash

-- the first reason why they are not
abbrev pub AreNotShownApart : System → Term → Term → Apartness → Rejection → Type 0
AreNotShownApart sys u v (by_normal_forms es) reason =
    ((u ≡ v) × (reason ≡ same_term)) ⊎ ((u ≢ v) × ((rs : List RedexPlace) × AreRedexes sys u v rs × AreNotRefuted sys u v 1 rs es reason))
AreNotShownApart sys u v by_rigid_caps reason =
    (AreRigidCapsLarge sys u v × (reason ≡ caps_large)) ⊎ (((b : List Binding) × IsRigidOutcome sys u v (unifier b)) × (reason ≡ caps_unify))

-- the peak's derivations have no bad step and lead from its start to u and to v
pub record LeadsTo (sys : System) (peak : Peak) (u v : Term) : Type 0 where
  pub first : Derives sys [] peak.start peak.first u
  pub second : Derives sys [] peak.start peak.second v

-- the term has only symbols of the file
abbrev pub HasFileSymbols : System → Term → Type 0
HasFileSymbols sys t = HasSymbolsBelow sys.own t

-- two ends of a peak have only symbols of the file, and are shown to be apart
pub record AreValidEnds (sys : System) (u v : Term) (a : Apartness) : Type 0 where
  pub first : HasFileSymbols sys u
  pub second : HasFileSymbols sys v
  pub apart : AreShownApart sys u v a

-- the first reason why not
abbrev pub AreNoValidEnds : System → Term → Term → Apartness → Rejection → Type 0
AreNoValidEnds sys u v a reason =
    ((HasFileSymbols sys u → ⊥) × (reason ≡ foreign 1))
    ⊎ (HasFileSymbols sys u × (HasFileSymbols sys v → ⊥) × (reason ≡ foreign 2))
    ⊎ (HasFileSymbols sys u × HasFileSymbols sys v × AreNotShownApart sys u v a reason)

-- the peak is valid: it starts from a term of file symbols, and its ends are such terms and shown to be apart
pub record IsValidPeak (sys : System) (peak : Peak) : Type 0 where
  pub start : HasFileSymbols sys peak.start
  pub u : Term
  pub v : Term
  pub ends : LeadsTo sys peak u v
  pub apart : AreValidEnds sys u v peak.apart

-- the first reason, in the order of judging, why it is not
pub data IsPeakRejected (sys : System) (peak : Peak) : Rejection → Type 0 where
  foreign_start : (HasFileSymbols sys peak.start → ⊥) → IsPeakRejected sys peak (foreign 0)
  first_fails : HasFileSymbols sys peak.start → (bad : BadStep) → IsFirstBad sys [] peak.start peak.first bad → IsPeakRejected sys peak (first_bad bad)
  second_fails : HasFileSymbols sys peak.start → (u : Term) (bad : BadStep) → Derives sys [] peak.start peak.first u → IsFirstBad sys [] peak.start peak.second bad
      → IsPeakRejected sys peak (second_bad bad)
  not_apart : HasFileSymbols sys peak.start → (u v : Term) (reason : Rejection) → LeadsTo sys peak u v → AreNoValidEnds sys u v peak.apart reason
      → IsPeakRejected sys peak reason
