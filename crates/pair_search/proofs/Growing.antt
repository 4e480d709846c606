-- What growth gives for a condition, and for each overlap that has it.
use Rattle.std.proofs.Common.{ℕ, ◌≡◌, inl, inr, List, map, Option, None, Some, Result, Ok, Err, IfOk, refl, sym, ap, ◌∙◌, subst, subst₂, option_map}
use Rattle.rewriting.specs.Rules.{Condition, System}
use Rattle.unifier_run.specs.Overlaps.{Overlap}
use Rattle.certificates.specs.Evidence as math
use Rattle.certificates.specs.Prelude.{InfeasibilityEvidence, by_automaton, infeasible_pair, hypothesis_at}
use Rattle.judged_evidence.specs.Evidence.{IsInfeasibilityJudged}
use Rattle.valid_certificates.specs.Kinds.{Kind, ortho, quasi}
use Rattle.valid_certificates.specs.PairEvidence.{IsAllowed, IsPairJudged}
use Rattle.term_core.specs.RuleView.{condition_view}
use Rattle.term_core.specs.declared.systems.Cond.{Cond}
use Rattle.term_core.specs.declared.terms.NoMemory.{NoMemory}
use Rattle.cert_model.specs.EvidenceView.{automaton_view, pair_evidence_view}
use Rattle.cert_model.specs.declared.evidence.Automaton.{Automaton}
use Rattle.cert_model.specs.declared.evidence.PairEvidence.{PairEvidence}
use Rattle.first_found.specs.Items.{GivesNothing}
use Rattle.search_spaces.specs.Refuting.{try_growth}
use Rattle.search_spaces.specs.PairItems.{try_refuting, GivesEvidence}
use Rattle.evidence_offers.specs.Growth.{GrowthGives, MayGive, ValidGrowthAnswers}
use Rattle.evidence_offers.proofs.Growing.{growth_shows, growth_fails}
use Rattle.pair_search.specs.Answers.{ItemAnswers}
use Rattle.pair_search.specs.Grown.{IsGrown, Remembered, remembered_view}
use Rattle.pair_search.specs.declared.grown.Tried.{Tried}
use Rattle.pair_search.specs.declared.grown.Grown.TheInside.{Inside}

-- what growth gives for the condition with a number
pub gives_there : (sys s : System) (cs ds : List Cond) (k : ℕ) (c : Condition) (a : Option Automaton) → s ≡ sys → cs ≡ ds → hypothesis_at (map condition_view ds) k ≡ Some c
    → ValidGrowthAnswers s (map condition_view cs) k (Ok a) → GrowthGives sys c (option_map automaton_view a)
gives_there sys s cs ds k c a same listed at h =
    subst (λ z. MayGive sys z (option_map automaton_view a)) at
    (subst₂ (λ (s : System) (cs : List Cond). ValidGrowthAnswers s (map condition_view cs) k (Ok a)) same listed h)

-- an overlap that has the condition
module _ (kind : Kind) (sys : System) (o : Overlap) (k : ℕ) (c : Condition) (at : hypothesis_at o.pair.conditions k ≡ Some c) where
  is_allowed : (e : InfeasibilityEvidence) → (kind : Kind) → IsAllowed kind (infeasible_pair e)
  is_allowed e ortho = tt
  is_allowed e quasi = tt

  shown : (a : math.Automaton) → GrowthGives sys c (Some a) → GivesEvidence kind sys o (try_refuting (try_growth k)) (infeasible_pair (by_automaton k a))
  shown a h =
      let (tried, j) = growth_shows sys o.pair.conditions k a (subst (λ z. MayGive sys z (Some a)) (sym at) h) in
      ((by_automaton k a, tried, refl), inl (is_allowed (by_automaton k a) kind, j))

  judged_pair : (e : InfeasibilityEvidence) → IsPairJudged kind sys o (infeasible_pair e) None → IsInfeasibilityJudged sys o.pair.conditions e None
  judged_pair e (inl (_, j)) = j
  judged_pair e (inr (_, same)) = absurd cc

  nothing_shown : GrowthGives sys c None → GivesNothing (GivesEvidence kind sys o) (try_refuting (try_growth k))
  nothing_shown none b ((e, tried, same), j) =
      growth_fails sys o.pair.conditions k (subst (λ z. MayGive sys z None) (sym at) none) e tried (judged_pair e (subst (λ z. IsPairJudged kind sys o z None) same j))

  evidence_answers : (a : Option Automaton) → GrowthGives sys c (option_map automaton_view a) → (r : Option PairEvidence)
      → option_map pair_evidence_view r ≡ option_map (λ b. infeasible_pair (by_automaton k (automaton_view b))) a → ItemAnswers kind sys o (try_refuting (try_growth k)) (Ok r)
  evidence_answers None h None e = nothing_shown h
  evidence_answers None h (Some x) e = absurd cc
  evidence_answers (Some a) h None e = absurd cc
  evidence_answers (Some a) h (Some x) e =
      let same : infeasible_pair (by_automaton k (automaton_view a)) ≡ pair_evidence_view x = cc in
      subst (GivesEvidence kind sys o (try_refuting (try_growth k))) same (shown (automaton_view a) h)

  pub item_answers : (a : Option Automaton) → GrowthGives sys c (option_map automaton_view a) → (r : Result (Option PairEvidence) NoMemory)
      → IfOk r (λ e. option_map pair_evidence_view e ≡ option_map (λ b. infeasible_pair (by_automaton k (automaton_view b))) a) → ItemAnswers kind sys o (try_refuting (try_growth k)) r
  item_answers a h (Ok e) same = evidence_answers a h e same
  item_answers a h (Err x) same = tt

-- what is remembered of a condition
pub known : (sys : System) (g : Inside) (now : Remembered) (t : Tried) → remembered_view g ≡ now → g.last ≡ Some t → IsGrown now sys
    → GrowthGives sys (condition_view t.cond) (option_map automaton_view t.automaton)
known sys g now t seen last h =
    let same : now ≡ Some (condition_view t.cond, option_map automaton_view t.automaton) =
    sym seen ∙ ap (option_map (λ (t : Tried). (condition_view t.cond, option_map automaton_view t.automaton))) last in
    subst (λ z. IsGrown z sys) same h
