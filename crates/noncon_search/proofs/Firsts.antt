-- One item after the other.
use Rattle.std.proofs.Common.{ℕ, ◌≡◌, ◌+◌, ◌<◌, ◌≤◌, inl, inr, List, [], ◌∷◌, map, length, Option, None, Some, Result, Ok, Err, sym, ap, ◌∙◌, subst, subst₂}
use Rattle.std.proofs.lemmas.List.{length-map}
use Rattle.rewriting.specs.Prelude.{conditions_under, Condition, System, Substitution}
use Rattle.rewriting.proofs.Conditions.{length-conditions_under}
use Rattle.certificates.specs.Prelude.{Automaton, InfeasibilityEvidence, by_automaton, hypothesis_at, EvidenceReason, DoConditionsFit}
use Rattle.term_core.specs.RuleView.{condition_view}
use Rattle.term_core.specs.declared.systems.Cond.{Cond}
use Rattle.term_core.specs.declared.terms.NoMemory.{NoMemory}
use Rattle.cert_model.specs.EvidenceView.{inf_evidence_view}
use Rattle.cert_model.specs.declared.evidence.InfEvidence.{InfEvidence}
use Rattle.judged_evidence.specs.Evidence.{IsInfeasibilityJudged}
use Rattle.redex_conditions.specs.Judged.{AreJudged}
use Rattle.first_found.specs.Items.{GivesNothing, NoneGives, one}
use Rattle.first_found.proofs.Items.{first_here, first_right}
use Rattle.search_spaces.specs.Refuting.{Refuting, try_growth, Tries, growths, refutings}
use Rattle.search_spaces.proofs.Growths.{growths_behind, all_behind, next_behind, none_behind}
use Rattle.evidence_offers.specs.Growth.{MayGive}
use Rattle.evidence_offers.proofs.Growing.{growth_shows, growth_fails, refused_fails}
use Rattle.noncon_search.specs.Trying.{Refutes, FirstAnswers}

module _ (sys : System) (cs : List Condition) where
  -- nothing is valid for conditions that do not fit
  pub large_gives : (DoConditionsFit cs → ⊥) → (items : List Refuting) → NoneGives (Refutes sys cs) items
  large_gives large [] = tt
  large_gives large (item ∷ items) = (λ e h. unfit e h.1, large_gives large items)
    where
      unfit : (e : InfeasibilityEvidence) → AreJudged sys cs e None → ⊥
      unfit e (inl (fit, k)) = large fit
      unfit e (inr (_, is)) = cc

  -- an item gives nothing where its evidence is refused
  pub refused_gives : (item : Refuting) (e : InfeasibilityEvidence) (why : EvidenceReason) → Tries sys cs item e → IsInfeasibilityJudged sys cs e (Some why) → DoConditionsFit cs
      → GivesNothing (Refutes sys cs) item
  refused_gives item e why tried h fit b (other, inl (_, judged)) = refused_fails sys cs item e why tried h b other judged
  refused_gives item e why tried h fit b (other, inr (large, _)) = large fit

  -- what growth gives for a condition
  module _ (k : ℕ) (fit : DoConditionsFit cs) where
    pub growth_refutes : (a : Automaton) → MayGive sys (hypothesis_at cs k) (Some a) → Refutes sys cs (try_growth k) (by_automaton k a)
    growth_refutes a h = let (tried, judged) = growth_shows sys cs k a h in (tried, inl (fit, judged))

    pub growth_gives_none : MayGive sys (hypothesis_at cs k) None → GivesNothing (Refutes sys cs) (try_growth k)
    growth_gives_none h e (tried, inl (_, judged)) = growth_fails sys cs k h e tried judged
    growth_gives_none h e (tried, inr (large, _)) = large fit

  module _ (item : Refuting) (rest : List Refuting) where
    -- the first of some items
    pub first_gives : (e : InfEvidence) → Refutes sys cs item (inf_evidence_view e) → FirstAnswers sys cs (item ∷ rest) (Ok (Some e))
    first_gives e h = (1, first_here (Refutes sys cs) one [] item rest (inf_evidence_view e) tt h)

    -- one behind an item that gives nothing
    pub rest_gives : GivesNothing (Refutes sys cs) item → (r : Result (Option InfEvidence) NoMemory) → FirstAnswers sys cs rest r → FirstAnswers sys cs (item ∷ rest) r
    rest_gives bare (Ok (Some e)) (n, f) = (1 + n, first_right (Refutes sys cs) one (item ∷ []) rest (inf_evidence_view e) n (bare, tt) f)
    rest_gives bare (Ok None) none = (bare, none)
    rest_gives bare (Err e) h = tt

  -- what the growths behind the first k of n give, all give
  abbrev pub IsBehind : ℕ → ℕ → Type 0
  IsBehind k n = (r : Result (Option InfEvidence) NoMemory) → FirstAnswers sys cs (growths_behind k n) r → FirstAnswers sys cs (growths n) r

  pub none_before : (n : ℕ) → IsBehind 0 n
  none_before n r h = subst (λ z. FirstAnswers sys cs z r) (all_behind n) h

  module _ (k n : ℕ) (less : k < n) (behind : IsBehind k n) where
    pub growth_gives : (e : InfEvidence) → Refutes sys cs (try_growth (k + 1)) (inf_evidence_view e) → FirstAnswers sys cs (growths n) (Ok (Some e))
    growth_gives e h =
        behind (Ok (Some e)) (subst (λ z. FirstAnswers sys cs z (Ok (Some e))) (sym (next_behind k n less)) (first_gives (try_growth (k + 1)) (growths_behind (k + 1) n) e h))

    pub behind_more : GivesNothing (Refutes sys cs) (try_growth (k + 1)) → IsBehind (k + 1) n
    behind_more bare r h = behind r (subst (λ z. FirstAnswers sys cs z r) (sym (next_behind k n less)) (rest_gives (try_growth (k + 1)) (growths_behind (k + 1) n) bare r h))

  pub all_tried : (k n : ℕ) → n ≤ k → IsBehind k n → FirstAnswers sys cs (growths n) (Ok None)
  all_tried k n most behind = behind (Ok None) (subst (λ z. FirstAnswers sys cs z (Ok None)) (sym (none_behind k n most)) tt)

-- what is answered for conditions of the program
pub first_same : (sys : System) (ds : List Cond) (s : Substitution) (cs : List Condition) (r : Result (Option InfEvidence) NoMemory) → map condition_view ds ≡ conditions_under s cs
    → FirstAnswers sys (map condition_view ds) (refutings (length ds)) r → FirstAnswers sys (conditions_under s cs) (refutings (length cs)) r
first_same sys ds s cs r is h =
    let long : length ds ≡ length cs = sym (length-map ds condition_view) ∙ ap length is ∙ length-conditions_under s cs in
    subst₂ (λ (z : List Condition) (n : ℕ). FirstAnswers sys z (refutings n) r) is long h
