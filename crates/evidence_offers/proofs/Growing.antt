-- What grows from the left side of a condition, and what it shows.
use Rattle.std.proofs.Common.{ℕ, zero, suc, ◌≡◌, ◌<◌, ◌^◌, inl, inr, List, [], ◌∷◌, length, Option, None, Some, Result, Ok, Err, refl, sym, ap, subst, arith}
use Rattle.std.specs.Prelude.{slice_get}
use Rattle.std.proofs.lemmas.List.Elements.{All-nil, All-cons}
use Rattle.rewriting.specs.Prelude.{Term, var, Fits, Condition, System, variable_occurrences}
use Rattle.rewriting.proofs.Once.{same_some}
use Rattle.certificates.specs.Evidence as math
use Rattle.certificates.specs.Prelude.{InfeasibilityEvidence, by_automaton, hypothesis_at, EvidenceReason, DoConditionsFit}
use Rattle.automata.specs.Closed.{AreNarrow, Excludes}
use Rattle.automata.specs.Evidence.{IsConditionJudged, right_side, JudgedByAutomaton}
use Rattle.automata.specs.Laws.{IsWellGrown}
use Rattle.judged_evidence.specs.Evidence.{IsInfeasibilityJudged}
use Rattle.judged_evidence.proofs.Judged.{evidence_once}
use Rattle.term_core.specs.declared.terms.NoMemory.{NoMemory}
use Rattle.cert_model.specs.EvidenceView.{automaton_view}
use Rattle.cert_model.specs.ReasonView.{evidence_reason_view}
use Rattle.cert_model.specs.declared.evidence.Automaton.{Automaton}
use Rattle.cert_model.specs.declared.reasons.EvidenceReason as reasons
use Rattle.refuter.specs.Answers.{RefutesAnswers}
use Rattle.refuter.specs.declared.Refusal.{Refusal}
use Rattle.refuter.specs.declared.Refusal.TheVariants.{Reason}
use Rattle.automaton_grow.specs.Answers.{GrowAnswers}
use Rattle.automaton_grow.specs.declared.GrowError.{GrowError}
use Rattle.automaton_grow.specs.declared.GrowError.TheVariants as growing
use Rattle.search_spaces.specs.Grown.{GrowsTo}
use Rattle.search_spaces.specs.Refuting.{Refuting, try_growth, Tries}
use Rattle.search_spaces.proofs.Entries.{tries_once}
use Rattle.search_spaces.proofs.GrownOnce.{grown_once, not_many}
use Rattle.evidence_offers.specs.Growth.{NoAutomatonAnswers, GrownAnswers, ShownAnswers, GrowthGives, MayGive, ValidGrowthAnswers}

get_fits : (cs : List Condition) (k : ℕ) (c : Condition) → DoConditionsFit cs → slice_get cs k ≡ Some c → Fits c.left
get_fits [] k c h e = absurd (cc)
get_fits (d ∷ cs) zero c h e = let same : d ≡ c = cc in subst (λ z. Fits z.left) same h.0
get_fits (d ∷ cs) (suc k) c h e = get_fits cs k c h.2 e

pub condition_fits : (cs : List Condition) (k : ℕ) (c : Condition) → DoConditionsFit cs → hypothesis_at cs k ≡ Some c → Fits c.left
condition_fits cs zero c h e = absurd (cc)
condition_fits cs (suc k) c h e = get_fits cs k c h e

-- what grows from a term
module _ (sys : System) (s : Term) where
  grows_narrow : (a : math.Automaton) → GrowsTo sys s a → AreNarrow sys a
  grows_narrow a g i r is wide =
      g.narrow i r is (subst (λ n. 100000 < n ^ length (variable_occurrences r.left)) g.growth.states (omega (arith, wide)))

  pub growth_given : (a : Automaton) → GrowAnswers sys s (Ok a) → IsWellGrown sys s (automaton_view a) → GrownAnswers sys s (Ok (Some a))
  growth_given a h well =
      let g : GrowsTo sys s (automaton_view a) = record { growth = h.2; few_states = h.0; narrow = h.1; few_transitions = h.3 } in
      (g, (grows_narrow (automaton_view a) g, well.closed))

  pub growth_refused : (e : GrowError) (r : Result (Option Automaton) NoMemory) → GrowAnswers sys s (Err e) → NoAutomatonAnswers e r → GrownAnswers sys s r
  growth_refused e (Err x) h n = tt
  growth_refused (growing.TooWide i) (Ok (Some x)) h n = absurd n
  growth_refused (growing.TooWide i) (Ok None) h n = λ a g. g.narrow i h.1.rule h.1.is_rule h.1.wide
  growth_refused growing.TooManyStates (Ok (Some x)) h n = absurd n
  growth_refused growing.TooManyStates (Ok None) h n = λ a g. g.few_states h
  growth_refused growing.TooManyTransitions (Ok (Some x)) h n = absurd n
  growth_refused growing.TooManyTransitions (Ok None) h n = λ a g. not_many sys s a g h.2
  growth_refused growing.NoMemory (Ok x) h n = absurd n

-- where the evidence that is tried is refused, none that is tried is valid
pub refused_fails : (sys : System) (cs : List Condition) (item : Refuting) (e : InfeasibilityEvidence) (why : EvidenceReason) → Tries sys cs item e → IsInfeasibilityJudged sys cs e (Some why)
    → (b : InfeasibilityEvidence) → Tries sys cs item b → IsInfeasibilityJudged sys cs b None → ⊥
refused_fails sys cs item e why tried h b other j =
    let same = evidence_once sys cs e None (Some why) (subst (λ z. IsInfeasibilityJudged sys cs z None) (tries_once sys cs item b e other tried) j) h in cc

never_excluded : (sys : System) (c : Condition) (a : math.Automaton) (x : ℕ) → c.right ≡ var x → IsConditionJudged sys c a None → ⊥
never_excluded sys c a x is (right_side None all (q, accepting, run) closed (narrow, excludes)) =
    subst (Excludes (Some sys.arities) a) is excludes (q ∷ []) q (record { each = refl; states = All-cons (λ p. p < a.states) q [] accepting.1 (All-nil (λ p. p < a.states)) }) accepting refl

module _ (sys : System) (cs : List Condition) (k : ℕ) where
  judged_other : (a : math.Automaton) (why : EvidenceReason) → JudgedByAutomaton sys cs k a (Some why) → JudgedByAutomaton sys cs k a None → ⊥
  judged_other a why h j = let same = evidence_once sys cs (by_automaton k a) None (Some why) j h in cc

  pub not_shown : (a : math.Automaton) (r : Refusal) (why : reasons.EvidenceReason) → r ≡ Reason why → RefutesAnswers (JudgedByAutomaton sys cs k a) (Err r)
      → JudgedByAutomaton sys cs k a None → ⊥
  not_shown a r why is h = judged_other a (evidence_reason_view why) (subst (λ z. RefutesAnswers (JudgedByAutomaton sys cs k a) (Err z)) is h)

  -- the condition with the number
  module _ (c : Condition) (at : hypothesis_at cs k ≡ Some c) where
    something_grows : (a : math.Automaton) → GrowsTo sys c.left a → Tries sys cs (try_growth k) (by_automaton k a)
    something_grows a g = (c, a, at, g, refl)

    judged_there : (a : math.Automaton) → JudgedByAutomaton sys cs k a None → IsConditionJudged sys c a None
    judged_there a (inl (none, same)) = absurd cc
    judged_there a (inr (d, is, j)) = subst (λ z. IsConditionJudged sys z a None) (same_some (hypothesis_at cs k) d c is at) j

    gives_there : (o : Option math.Automaton) → GrowthGives sys c o → MayGive sys (hypothesis_at cs k) o
    gives_there o h = subst (λ z. MayGive sys z o) (sym at) h

    pub gives_none : ((a : math.Automaton) → GrowsTo sys c.left a → ⊥) → MayGive sys (hypothesis_at cs k) None
    gives_none bare = gives_there None (λ a g j. bare a g)

    -- a variable is not excluded by what accepts the left side
    pub gives_none_for : (x : ℕ) → c.right ≡ var x → MayGive sys (hypothesis_at cs k) None
    gives_none_for x is = gives_there None (λ a g j. never_excluded sys c a x is j)

    pub gives_shown : (a : math.Automaton) → GrowsTo sys c.left a → (r : Result (Option Automaton) NoMemory) → ShownAnswers sys cs k a r → ValidGrowthAnswers sys cs k r
    gives_shown a g (Ok (Some b)) (same, j) =
        gives_there (Some (automaton_view b)) (subst (GrowthGives sys c) (ap Some (sym same)) (g, judged_there a j))
    gives_shown a g (Ok None) wrong =
        gives_there None (λ b h j. wrong (inr (c, at, subst (λ z. IsConditionJudged sys c z None) (grown_once sys c.left b a h g) j)))
    gives_shown a g (Err e) h = tt

  shows : (o : Option Condition) → hypothesis_at cs k ≡ o → (a : math.Automaton) → MayGive sys o (Some a)
      → Tries sys cs (try_growth k) (by_automaton k a) × IsInfeasibilityJudged sys cs (by_automaton k a) None
  shows None is a h = absurd cc
  shows (Some c) is a (g, j) = (something_grows c is a g, inr (c, is, j))

  -- an automaton that growth gives is valid evidence that is tried
  pub growth_shows : (a : math.Automaton) → MayGive sys (hypothesis_at cs k) (Some a) → Tries sys cs (try_growth k) (by_automaton k a) × IsInfeasibilityJudged sys cs (by_automaton k a) None
  growth_shows a h = shows (hypothesis_at cs k) refl a h

  fails : (o : Option Condition) → hypothesis_at cs k ≡ o → MayGive sys o None → (e : InfeasibilityEvidence) → Tries sys cs (try_growth k) e → IsInfeasibilityJudged sys cs e None → ⊥
  fails None is h e (d, a, at, g, by) j = absurd cc
  fails (Some c) is h e (d, a, at, g, by) j =
      h a (subst (λ z. GrowsTo sys z.left a) (same_some (hypothesis_at cs k) d c at is) g)
      (judged_there c is a (subst (λ z. IsInfeasibilityJudged sys cs z None) by j))

  -- where growth gives none, no evidence that is tried is valid
  pub growth_fails : MayGive sys (hypothesis_at cs k) None → (e : InfeasibilityEvidence) → Tries sys cs (try_growth k) e → IsInfeasibilityJudged sys cs e None → ⊥
  growth_fails h e tried j = fails (hypothesis_at cs k) refl h e tried j
