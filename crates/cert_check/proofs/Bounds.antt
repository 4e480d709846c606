-- What the text of a certificate promises of it is what its check asks.
use Rattle.std.proofs.Common.{◌≡◌, ℕ, ◌-◌, List, [], ◌∷◌, ◌++◌, map, ap, ◌∙◌, arith}
use Rattle.std.specs.Prelude.{slice_get}
use Rattle.std.proofs.lemmas.Option.{slice_get-map}
use Rattle.rewriting.specs.Prelude.{Term, Terms, var, app, nil, cons, IsOver, AreOver, System, IsSystem}
use Rattle.rewriting.proofs.Laws.{well_formed}
use Rattle.certificates.specs.Prelude.{Derivation, no_steps, first_step, Step, by_rule, by_hypothesis, Derivations, no_derivations, first_derivation, PairEvidence, trivial_pair}
use Rattle.certificates.specs.Prelude.{infeasible_pair, conflicting_pair, joined_pair, unfeasible_pair, PairEntry, Apartness, by_normal_forms, by_rigid_caps, Peak, Simplification}
use Rattle.certificates.specs.Prelude.{Certificate, ortho_certificate, quasi_certificate, peak_certificate, simplified_certificate, IsShort, AreStepsShort, IsStepShort, AreShort}
use Rattle.simplifications.specs.Simplifying.{AllSimplify}
use Rattle.simplifications.proofs.Levels.{keep_levels}
use Rattle.simplifications.proofs.Systems.{steps_make}
use Rattle.valid_certificates.specs.Entries.{IsPairShort, ArePairsShort}
use Rattle.noncon_check.specs.Judges.{AreFew}
use Rattle.cert_check.specs.Kinds.{CanPeakBeJudged, CanBeJudged}
use Rattle.cert_openings.specs.Openings.{Opening, ortho_opening, quasi_opening, simplified_opening, certificate_for}
use Rattle.cops_names.specs.NameTable.{NameTable}
use Rattle.cert_grammar.specs.Prelude.{IsSpelt, AreSpelt, AreSteps, IsStep, AreDerivations, IsDerivation, IsEvidence, ArePairs, IsApart, IsWithin}

-- the symbols stay behind good steps
pub same_symbols : (sys last : System) (steps : List Simplification) → IsSystem sys → AllSimplify sys steps last → last.arities ≡ sys.arities
same_symbols sys last steps good all = (keep_levels sys last steps (well_formed sys good) all).arities

-- terms that the names spell are over the arities of the names
mutual
  pub spelt_over : (names : NameTable) (arities : List ℕ) → arities ≡ map (λ s. s.1) names.symbols → (t : Term) → IsSpelt names t → IsOver arities t
  spelt_over names arities e (var x) h = tt
  spelt_over names arities e (app f ts) h =
      (ap (λ (l : List ℕ). slice_get l f) e ∙ slice_get-map (λ (s : List ℕ × ℕ). s.1) names.symbols f ∙ h.0.1.arity, spelt_all_over names arities e ts h.1)

  spelt_all_over : (names : NameTable) (arities : List ℕ) → arities ≡ map (λ s. s.1) names.symbols → (ts : Terms) → AreSpelt names ts → AreOver arities ts
  spelt_all_over names arities e nil h = tt
  spelt_all_over names arities e (cons t ts) h = (spelt_over names arities e t h.0, spelt_all_over names arities e ts h.1)

mutual
  steps_short : (levels : ℕ) (d : Derivation) → AreSteps levels d → AreStepsShort d
  steps_short levels no_steps h = tt
  steps_short levels (first_step s d) h = (step_short levels s h.0, steps_short levels d h.1)

  step_short : (levels : ℕ) (s : Step) → IsStep levels s → IsStepShort s
  step_short levels (by_rule i p ds) h = all_short levels ds h.3
  step_short levels (by_hypothesis k p) h = tt

  all_short : (levels : ℕ) (ds : Derivations) → AreDerivations levels ds → AreShort ds
  all_short levels no_derivations h = tt
  all_short levels (first_derivation d ds) h = (let few = h.1 in omega (arith, few), steps_short (levels - 1) d h.2, all_short levels ds h.3)

short : (d : Derivation) → IsDerivation 50 d → IsShort d
short d h = record { few_steps = let few = h.1 in omega (arith, few); inner = steps_short 49 d h.2 }

few : (names : NameTable) (a : Apartness) → IsApart names a → AreFew a
few names (by_normal_forms es) h = let at_most = h.0 in omega arith
few names by_rigid_caps h = tt

evidence_short : (names : NameTable) (e : PairEvidence) → IsEvidence names e → IsPairShort e
evidence_short names trivial_pair h = tt
evidence_short names (infeasible_pair e) h = tt
evidence_short names (conflicting_pair a b) h = tt
evidence_short names (joined_pair d e) h = (short d h.0, short e h.1)
evidence_short names (unfeasible_pair k d e) h = (short d h.1, short e h.2)

-- the evidence of the last of some entries
last_pair_short : (names : NameTable) (es : List PairEntry) (e : PairEntry) → ArePairs names (es ++ e ∷ []) → IsPairShort e.evidence
last_pair_short names [] e h = evidence_short names e.evidence h.3
last_pair_short names (f ∷ es) e h = last_pair_short names es e h.4

pub last_short : (names : NameTable) (o : Opening) (es : List PairEntry) (e : PairEntry) → IsWithin names (certificate_for o (es ++ e ∷ [])) → IsPairShort e.evidence
last_short names ortho_opening es e h = last_pair_short names es e h.1
last_short names (quasi_opening measure) es e h = last_pair_short names es e h.2
last_short names (simplified_opening steps o) es e h = last_short names o es e h.3

pub peak_can_be_judged : (sys : System) (names : NameTable) (peak : Peak) → sys.arities ≡ map (λ s. s.1) names.symbols → IsWithin names (peak_certificate peak) → CanPeakBeJudged sys peak
peak_can_be_judged sys names peak same h = record {
  fits = h.1;
  over = spelt_over names sys.arities same peak.start h.0;
  first_short = short peak.first h.2;
  second_short = short peak.second h.3;
  few = few names peak.apart h.4;
}

pairs_short : (names : NameTable) (es : List PairEntry) → ArePairs names es → ArePairsShort es
pairs_short names [] h = tt
pairs_short names (e ∷ es) h = (evidence_short names e.evidence h.3, pairs_short names es h.4)

-- a certificate that can be spelt can be judged in each system of the names' symbols
pub within_can_be_judged : (sys : System) (names : NameTable) (c : Certificate) → IsSystem sys → sys.arities ≡ map (λ s. s.1) names.symbols → IsWithin names c → CanBeJudged sys c
within_can_be_judged sys names (ortho_certificate pairs) good same h = pairs_short names pairs h.1
within_can_be_judged sys names (quasi_certificate measure pairs) good same h = pairs_short names pairs h.2
within_can_be_judged sys names (peak_certificate peak) good same h = peak_can_be_judged sys names peak same h
within_can_be_judged sys names (simplified_certificate steps c) good same h =
    λ last all. within_can_be_judged last names c (steps_make sys last steps good all) (same_symbols sys last steps good all ∙ same) h.3
