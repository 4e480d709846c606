-- How many steps, derivations and conditions there are.
use Rattle.std.proofs.Common.{◌≡◌, List, map, length, Vec, Global, sym, ap, ◌∙◌, vec_len}
use Rattle.std.proofs.lemmas.List.{length-map}
use Rattle.term_core.specs.RuleView.{condition_view}
use Rattle.term_core.specs.declared.systems.Cond.{Cond}
use Rattle.certificates.specs.Prelude.{derivation_of, derivations_of, derivation_count, step_count}
use Rattle.certificates.proofs.Sizes.{steps_counted, derivations_counted}
use Rattle.cert_model.specs.DerivationView.{derivation_view, step_view}
use Rattle.cert_model.specs.declared.derivations.Step as program
use Rattle.cert_model.specs.declared.derivations.Derivation.{Derivation}
use Rattle.cert_model.proofs.DerivationViews.{derivation_of_steps}

pub counted_derivations : (ds : Vec Derivation Global) → derivation_count (derivations_of (map derivation_view ds.items)) ≡ vec_len ds
counted_derivations ds = derivations_counted (map derivation_view ds.items) ∙ length-map ds.items derivation_view ∙ sym ds.ok.0

pub counted_conditions : (cs : Vec Cond Global) → length (map condition_view cs.items) ≡ vec_len cs
counted_conditions cs = length-map cs.items condition_view ∙ sym cs.ok.0

-- the steps of a derivation
pub steps_seen : (d : Derivation) (items : List program.Step) → items ≡ d.steps.items → derivation_of (map step_view items) ≡ derivation_view d
steps_seen d items same = ap (λ xs. derivation_of (map step_view xs)) same ∙ sym (derivation_of_steps d)

pub step_count_of : (xs : List program.Step) → step_count (derivation_of (map step_view xs)) ≡ length xs
step_count_of xs = steps_counted (map step_view xs) ∙ length-map xs step_view
