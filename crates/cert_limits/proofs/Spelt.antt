-- What a `Term`, a `Derivation` and a `Step` stand for, with their lengths.
use Rattle.std.proofs.Common.{◌≡◌, ℕ, map, Vec, Global, sym, ◌∙◌, vec_len}
use Rattle.std.proofs.lemmas.List.{length-map}
use Rattle.rewriting.specs.Terms.{var, app, count}
use Rattle.certificates.specs.Prelude.{derivation_of, derivations_of, derivation_count, step_count}
use Rattle.certificates.proofs.Sizes.{steps_counted, derivations_counted}
use Rattle.term_core.specs.View.{view, views}
use Rattle.term_core.specs.declared.terms.Term.{Term, Var, Fun}
use Rattle.term_core.proofs.Over.{count-views}
use Rattle.term_core.proofs.Views.{view-Var, view-Fun}
use Rattle.cert_model.specs.DerivationView.{derivation_view, step_view}
use Rattle.cert_model.specs.declared.derivations.Derivation.{Derivation}
use Rattle.cert_model.specs.declared.derivations.Step.{Step}

pub variable_shown : (x : ℕ) → view (Var x) ≡ var x
variable_shown = view-Var

pub function_shown : (f : ℕ) (v : Vec Term Global) → view (Fun f v) ≡ app f (views v.items)
function_shown = view-Fun

pub arguments_counted : (v : Vec Term Global) → count (views v.items) ≡ vec_len v
arguments_counted v = count-views v.items ∙ sym v.ok.0

pub steps_long : (v : Vec Step Global) → step_count (derivation_of (map step_view v.items)) ≡ vec_len v
steps_long v = steps_counted (map step_view v.items) ∙ length-map v.items step_view ∙ sym v.ok.0

pub conditions_long : (v : Vec Derivation Global) → derivation_count (derivations_of (map derivation_view v.items)) ≡ vec_len v
conditions_long v = derivations_counted (map derivation_view v.items) ∙ length-map v.items derivation_view ∙ sym v.ok.0
