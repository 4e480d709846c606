use Rattle.std.proofs.Common.{◌∙◌, List, ℕ, map, ap, sym}
use Rattle.cops_names.specs.NameLists.{with_name, with_names}
use Rattle.cops_write.specs.Text.{variable_text}
use Rattle.cops_write.proofs.Rules.{next_variable, no_variable, variables_are}
use Rattle.cops_write.proofs.writer.add_names.Goals as goal

pub variables-preserved : goal.variables-preserved
variables-preserved c =
    next_variable (variable_text c.args.names.now c.args.number) c.variables.set c.add.new.self c.variables.x c.args.rule.now.vars c.variables-test.true
    (c.in_ok-add.ensures.names ∙ ap (with_name c.variables.set) c.variable_name.ensures)
    ∙ c.variables.invariant

pub returns : goal.returns
returns c =
    let text = variable_text c.args.names.now c.args.number in
    no_variable text c.variables.set c.variables.x c.args.rule.now.vars c.variables-test.false
    ∙ c.variables.invariant
    ∙ ap (λ (xs : List ℕ). with_names c.args.set.now (map text xs)) (sym (variables_are c.args.rule.now c.requires))
