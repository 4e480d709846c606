use Rattle.std.proofs.Common.{◌++◌, ◌∙◌, List, ℕ, ap}
use Rattle.std.specs.List.{flat_map}
use Rattle.std.proofs.lemmas.List.{take_all}
use Rattle.cert_grammar.specs.Steps.{derivation_text}
use Rattle.cert_model.specs.DerivationView.{derivation_view}
use Rattle.concon_run.proofs.ValueLines.{derivations-flat}
use Rattle.concon_run.proofs.queries.put_derivations.Goals as goal

pub returns : goal.returns
returns c =
    c.derivations.invariant ∙ ap (λ ds. c.args.out.now.items ++ flat_map (λ d. derivation_text (derivation_view d)) ds) (take_all _ _ c.derivations-test.false)
    ∙ ap (λ (x : List ℕ). c.args.out.now.items ++ x) (derivations-flat derivation_view c.args.derivations.now)
