-- What derivations and steps that are made of parts stand for.
use Rattle.std.proofs.Common.{◌≡◌, ℕ, map, Vec, Global, rules}
use Rattle.certificates.specs.Derivations.{by_rule, by_hypothesis, derivation_of, derivations_of}
use Rattle.cert_model.specs.DerivationView.{derivation_view, step_view}
use Rattle.cert_model.specs.declared.derivations.Derivation.{Derivation}
use Rattle.cert_model.specs.declared.derivations.Step.{Rule, Hyp, the_lemmas}

pub step_of_rule : (rule : ℕ) (pos : Vec ℕ Global) (conds : Vec Derivation Global) → step_view (Rule rule pos conds) ≡ by_rule rule pos.items (derivations_of (map derivation_view conds.items))
step_of_rule rule pos conds = search (rules, the_lemmas)

pub step_of_hypothesis : (number : ℕ) (pos : Vec ℕ Global) → step_view (Hyp number pos) ≡ by_hypothesis number pos.items
step_of_hypothesis number pos = search (rules, the_lemmas)

pub derivation_of_steps : (d : Derivation) → derivation_view d ≡ derivation_of (map step_view d.steps.items)
derivation_of_steps d = search (rules, the_lemmas)
