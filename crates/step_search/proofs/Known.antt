-- What is known of a rule of a system, and what one try of it gives.
use Rattle.std.proofs.Common.{ℕ, zero, suc, ◌≡◌, ◌+◌, ◌*◌, ◌<◌, ◌≤◌, false, map, take, length, slice_get, vec_len, List, [], ◌∷◌, Option, None, Some, Result, Ok, Err, sym, ap, ◌∙◌, subst, arith}
use Rattle.std.specs.Bool.{◌==◌}
use Rattle.std.proofs.lemmas.List.{take_all, length-map}
use Rattle.rewriting.specs.Rules as math
use Rattle.rewriting.specs.Prelude.{rule_at, sides, Each, IsRule, IsSystem, Fits}
use Rattle.rewriting.proofs.Once.{same_some}
use Rattle.rewriting.proofs.Systems.{is_rule_at}
use Rattle.rewriting.proofs.Members.{at_place}
use Rattle.certificates.specs.Prelude.{dropped, inlined, Automaton, InfeasibilityEvidence, by_automaton, hypothesis_at, DoConditionsFit}
use Rattle.first_found.specs.Items.{GivesNothing}
use Rattle.judged_evidence.specs.Evidence.{IsInfeasibilityJudged}
use Rattle.evidence_offers.specs.Growth.{MayGive}
use Rattle.evidence_offers.proofs.Growing.{growth_shows, growth_fails}
use Rattle.search_spaces.specs.Refuting.{Refuting, Tries, try_growth}
use Rattle.search_spaces.proofs.Entries.{tries_once}
use Rattle.term_core.specs.RuleView.{condition_view, rule_view}
use Rattle.term_core.specs.declared.systems.Rule.{Rule}
use Rattle.term_core.specs.declared.terms.NoMemory.{NoMemory}
use Rattle.simplifications.specs.Simplifying.{Simplifies}
use Rattle.simplified_spaces.specs.Tries.{Try, try_drop, try_inline, tries_of, GivesStep}
use Rattle.simplify.specs.Changes.{after}
use Rattle.step_search.specs.Answers.{GoodAnswers, TryAnswers}
use Rattle.step_search.proofs.Places.{many_tries}
use Rattle.step_search.specs.declared.tries.Made.{Made}

sound_at : (sys : math.System) (number : ℕ) (r : math.Rule) → IsSystem sys → rule_at sys number ≡ Some r → IsRule sys.arities r
sound_at sys zero r sound is = absurd (cc)
sound_at sys (suc i) r sound is = is_rule_at sys.arities sys.rules i r sound.rules is

conditions_fit : (cs : List math.Condition) → Each Fits (sides cs) → DoConditionsFit cs
conditions_fit [] h = tt
conditions_fit (c ∷ cs) (h, (g, hs)) = (h, g, conditions_fit cs hs)

pub conds_fit : (sys : math.System) (number : ℕ) (r : Rule) → IsSystem sys → rule_at sys number ≡ Some (rule_view r) → DoConditionsFit (map condition_view r.conds.items)
conds_fit sys number r sound is = conditions_fit (map condition_view r.conds.items) (sound_at sys number (rule_view r) sound is).fits.1.1

pub few_conds : (sys : math.System) (number : ℕ) (r : Rule) → IsSystem sys → rule_at sys number ≡ Some (rule_view r) → length r.conds.items ≤ 100
few_conds sys number r sound is =
    let few = (sound_at sys number (rule_view r) sound is).few_conditions in let same = length-map r.conds.items condition_view in omega (arith, few, same)

module _ (sys : math.System) (i : ℕ) (item : Refuting) (r : math.Rule) (is : rule_at sys i ≡ Some r) where
  pub drop_tried : (e : InfeasibilityEvidence) → Tries sys r.conditions item e → (answer : Result (Option Made) NoMemory) → GoodAnswers sys (dropped i e) answer
      → TryAnswers sys (try_drop i item) answer
  drop_tried e tried (Ok (Some m)) (same, change, h) = (change, ((r, e, is, tried, same), subst (λ z. Simplifies sys z (after sys m.change)) (sym same) h))
  drop_tried e tried (Ok None) none = gives_nothing
    where
      gives_nothing : GivesNothing (GivesStep sys) (try_drop i item)
      gives_nothing p ((q, f, at, h, x), g) =
          let one = tries_once sys r.conditions item f e (subst (λ z. Tries sys z.conditions item f) (same_some (rule_at sys i) q r at is) h) tried in
          none p.1 (subst (λ z. Simplifies sys z p.1) (x ∙ ap (dropped i) one) g)
  drop_tried e tried (Err m) h = tt

-- the automaton that grows from a condition of a rule
module _ (sys : math.System) (i k : ℕ) (r : math.Rule) (is : rule_at sys i ≡ Some r) where
  never_met : (i : ℕ) (e : InfeasibilityEvidence) (next : math.System) → rule_at sys i ≡ Some r → Simplifies sys (dropped i e) next → IsInfeasibilityJudged sys r.conditions e None
  never_met zero e next is h = absurd h
  never_met (suc n) e next is h = subst (λ z. IsInfeasibilityJudged sys z.conditions e None) (same_some (rule_at sys (suc n)) h.rule r h.is_rule is) h.never_met

  pub growth_drops : (a : Automaton) → MayGive sys (hypothesis_at r.conditions k) (Some a) → (answer : Result (Option Made) NoMemory)
      → GoodAnswers sys (dropped i (by_automaton k a)) answer → TryAnswers sys (try_drop i (try_growth k)) answer
  growth_drops a h answer good = drop_tried sys i (try_growth k) r is (by_automaton k a) (growth_shows sys r.conditions k a h).0 answer good

  pub growth_drops_none : MayGive sys (hypothesis_at r.conditions k) None → GivesNothing (GivesStep sys) (try_drop i (try_growth k))
  growth_drops_none none p ((q, e, at, h, x), g) =
      growth_fails sys r.conditions k none e (subst (λ z. Tries sys z.conditions (try_growth k) e) (same_some (rule_at sys i) q r at is) h)
      (never_met i e p.1 is (subst (λ z. Simplifies sys z p.1) x g))

pub inline_tried : (sys : math.System) (i k : ℕ) (answer : Result (Option Made) NoMemory) → GoodAnswers sys (inlined i k) answer → TryAnswers sys (try_inline i k) answer
inline_tried sys i k (Ok (Some m)) (same, change, h) = (change, (same, subst (λ z. Simplifies sys z (after sys m.change)) (sym same) h))
inline_tried sys i k (Ok None) none = λ p h. none p.1 (subst (λ z. Simplifies sys z p.1) h.0 h.1)
inline_tried sys i k (Err m) h = tt

-- a rule that has conditions has a try at each place, and no others
module _ (r : Rule) (number len : ℕ) (long : len ≡ vec_len r.conds) (some : false ≡ (vec_len r.conds == 0)) where
  abbrev its_tries : List Try
  its_tries = tries_of number (map condition_view r.conds.items)

  nonzero : (n : ℕ) → false ≡ (n == 0) → n ≡ 0 → ⊥
  nonzero zero e h = absurd (cc)
  nonzero (suc n) e h = omega (arith, h)

  pub as_many : length its_tries ≡ 2 * len + 1
  as_many =
      let items : vec_len r.conds ≡ length r.conds.items = r.conds.ok.0 in
      let same : length (map condition_view r.conds.items) ≡ length r.conds.items = length-map r.conds.items condition_view in
      let all = many_tries number (map condition_view r.conds.items) (λ z. nonzero (vec_len r.conds) some (omega (arith, z, items, same))) in
      omega (arith, all, items, same, long)

  pub its_try : (k : ℕ) → k < 2 * len + 1 → (t : Try) × (slice_get its_tries k ≡ Some t)
  its_try k h = at_place its_tries k (let all = as_many in omega (arith, all, h))

  pub all_taken : (k : ℕ) → 2 * len + 1 ≤ k → take k its_tries ≡ its_tries
  all_taken k h = take_all k its_tries (let all = as_many in omega (arith, all, h))
