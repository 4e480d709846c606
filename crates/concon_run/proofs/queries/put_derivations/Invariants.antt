use Rattle.std.proofs.Common.{◌≡◌, ◌++◌, take}
use Rattle.std.specs.List.{flat_map}
use Rattle.cert_grammar.specs.Steps.{derivation_text}
use Rattle.cert_model.specs.DerivationView.{derivation_view}
use Rattle.concon_run.proofs.queries.put_derivations.Given as goal

abbrev pub invariant-derivations : goal.invariant-derivations
invariant-derivations l = l.out.items ≡ l.fn.out.items ++ flat_map (λ d. derivation_text (derivation_view d)) (take l.derivation-index l.derivations)
