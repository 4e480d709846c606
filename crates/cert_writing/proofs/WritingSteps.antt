-- Derivations, terms and the steps before a body by their parts.
use Rattle.std.proofs.Common.{◌≡◌, ◌≤◌, ◌-◌, ℕ, List, ◌∷◌, ◌++◌, map, get_or, take, drop, length, codes, sym, ◌∙◌, ap, refl, [], decimal, append_assoc, vec_len}
use Rattle.std.proofs.lemmas.List.{length-map}
use Rattle.std.specs.Global.{Vec}
use Rattle.certificates.specs.Prelude.{derivation_of, derivations_of, Simplification, dropped, inlined}
use Rattle.cert_model.specs.declared.derivations.Derivation.{Derivation}
use Rattle.cert_model.specs.declared.derivations.Step.{Step, Rule}
use Rattle.cert_model.specs.DerivationView.{derivation_view, step_view}
use Rattle.term_core.specs.declared.terms.Term.{Term}
use Rattle.term_core.specs.View.{view, views}
use Rattle.term_core.specs.declared.systems.Head.{Head}
use Rattle.cert_model.specs.declared.evidence.Transition.{Transition}
use Rattle.cert_model.specs.declared.model.LinearEntry.{LinearEntry}
use Rattle.cert_model.specs.declared.model.PairEntry.{PairEntry}
use Rattle.cert_model.specs.declared.model.Redex.{Redex}
use Rattle.cert_model.specs.declared.model.Simp.{Simp}
use Rattle.cert_model.specs.EvidenceView.{transition_view}
use Rattle.cert_model.specs.CertificateView.{head_view, linear_entry_view, pair_entry_view, redex_view, simp_view}
use Rattle.cops_names.specs.NameTable.{NameTable}
use Rattle.cert_grammar.specs.Prelude.{term_text, arguments_text, further_text, steps_line, rule_line, steps_text, step_text, derivations_text, derivation_text}
use Rattle.cert_grammar.specs.Prelude.{Uses, simplifications_text, further_states_text, each_behind, transitions_text, entries_text, heads_text, pairs_text, redexes_text}
use Rattle.cert_writing.specs.Written.{each}
use Rattle.cert_writing.specs.WrittenUses.{transition_text, entry_text, place_text, pair_text, redex_text}
use Rattle.cert_writing.specs.WrittenUses as written
use Rattle.certificates.proofs.Sizes.{steps_counted, derivations_counted}
use Rattle.cert_model.proofs.DerivationViews.{step_of_rule, derivation_of_steps}
use Rattle.cert_writing.proofs.Writing.{first_and_others, each_is}

-- the line that tells their number, and the steps
pub steps_shown : (d : Derivation) → derivation_text (derivation_view d) ≡ steps_line (vec_len d.steps) ++ each (λ s. step_text (step_view s)) d.steps.items
steps_shown d =
    rw (
      derivation_of_steps d,
      steps_counted (map step_view d.steps.items),
      length-map d.steps.items step_view,
      d.steps.ok.0,
      each_is (λ ss. steps_text (derivation_of ss)) step_text step_view refl (λ s ss. refl) d.steps.items,
    ) refl

-- the line of a step by a rule, and the derivations of its conditions
pub conditions_shown : (step : Step) (rule : ℕ) (pos : Vec ℕ) (conds : Vec Derivation) → step ≡ Rule rule pos conds
    → step_text (step_view step) ≡ rule_line rule pos.items (vec_len conds) ++ each (λ d. derivation_text (derivation_view d)) conds.items
conditions_shown step rule pos conds is =
    rw (
      is,
      step_of_rule rule pos conds,
      derivations_counted (map derivation_view conds.items),
      length-map conds.items derivation_view,
      conds.ok.0,
      each_is (λ ds. derivations_text (derivations_of ds)) derivation_text derivation_view refl (λ d ds. refl) conds.items,
    ) refl

-- the first argument, and the others
pub arguments_shown : (names : NameTable) (args : List Term) (first : Term) → 1 ≤ length args → first ≡ get_or args 0 first
    → arguments_text names (views args) ≡ (codes "(" ++ term_text names (view first)) ++ further_text names (views (take (length args - 1) (drop 1 args)))
arguments_shown names args first some is =
    ap (λ (xs : List Term). arguments_text names (views xs)) (first_and_others args first some ∙ ap (λ (x : Term). x ∷ take (length args - 1) (drop 1 args)) (sym is))

-- the states behind one
pub further_behind : (qs : List ℕ) → further_states_text qs ≡ each_behind 44 qs ++ codes ")"
further_behind [] = refl
further_behind (q ∷ qs) = rw (further_behind qs, append_assoc (decimal q) (each_behind 44 qs) (codes ")")) refl

-- the first step before a body, and the others
pub steps_first : (names : NameTable) (uses : Uses) (s : Simplification) (ss : List Simplification)
    → simplifications_text names uses (s ∷ ss) ≡ written.step_text names uses s ++ simplifications_text names uses ss
steps_first names uses (dropped rule e) ss = refl
steps_first names uses (inlined rule condition) ss = refl

-- lists by their members
module _ (names : NameTable) where
  pub transitions_each : (xs : List Transition) → transitions_text names (map transition_view xs) ≡ each (λ t. transition_text names (transition_view t)) xs
  transitions_each = each_is (transitions_text names) (transition_text names) transition_view refl (λ t ts. refl)

  pub entries_each : (xs : List LinearEntry) → entries_text names (map linear_entry_view xs) ≡ each (λ e. entry_text names (linear_entry_view e)) xs
  entries_each = each_is (entries_text names) (entry_text names) linear_entry_view refl (λ e es. refl)

  pub places_each : (xs : List Head) → heads_text names (map head_view xs) ≡ each (λ h. place_text names (head_view h)) xs
  places_each = each_is (heads_text names) (place_text names) head_view refl (λ h hs. refl)

  module _ (uses : Uses) where
    pub pairs_each : (xs : List PairEntry) → pairs_text names uses (map pair_entry_view xs) ≡ each (λ p. pair_text names uses (pair_entry_view p)) xs
    pairs_each = each_is (pairs_text names uses) (pair_text names uses) pair_entry_view refl (λ p ps. refl)

    pub redexes_each : (xs : List Redex) → redexes_text names uses (map redex_view xs) ≡ each (λ r. redex_text names uses (redex_view r)) xs
    redexes_each = each_is (redexes_text names uses) (redex_text names uses) redex_view refl (λ r rs. refl)

    pub simplifications_each : (xs : List Simp) → simplifications_text names uses (map simp_view xs) ≡ each (λ s. written.step_text names uses (simp_view s)) xs
    simplifications_each = each_is (simplifications_text names uses) (written.step_text names uses) simp_view refl (steps_first names uses)
