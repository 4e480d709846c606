use Rattle.std.proofs.Common.{◌∙◌, ◌+◌, ◌++◌, List, ℕ, length, ap, sym, arith}
use Rattle.generated_systems.specs.Generated.{variables_for}
use Rattle.generator.proofs.Ranges.{one_number_more}
use Rattle.generator.proofs.Distinct.{variable_count}
use Rattle.generator.proofs.names.names_of.Goals as goal

pub add_variables-requires : goal.add_variables-requires
add_variables-requires c =
    let so_far = ap length c.variables.invariant.variables in
    let most = c.requires.most in
    let inside = c.variables-test.true in
    omega (arith, variable_count 0 c.variables.counter)

pub variables-preserved : goal.variables-preserved
variables-preserved c = record {
  symbols = c.in_ok-add_variables.ensures.symbols ∙ c.variables.invariant.symbols;
  variables = c.in_ok-add_variables.ensures.variables ∙ ap (λ (xs : List (List (List ℕ))). xs ++ variables_for 0) c.variables.invariant.variables
      ∙ sym (one_number_more variables_for 0 c.variables.counter c.variables.counter (c.variables.counter + 1) (omega arith) (omega arith));
}
