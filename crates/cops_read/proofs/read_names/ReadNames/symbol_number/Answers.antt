use Rattle.std.proofs.Common.{ap, sym, ◌∙◌}
use Rattle.cops_names.specs.NameTable.{NameTable, number_of}
use Rattle.cops_read.proofs.ReadNames.{numbers}
use Rattle.cops_read.proofs.read_names.ReadNames.symbol_number.Goals as goal

pub returns : goal.returns
returns c =
    c.symbol_number.ensures ∙ sym (numbers c.args.name.now c.self.inside.names.symbols c.self.inside.arities.items c.self.invariant)
    ∙ ap (λ (t : NameTable). number_of t.symbols c.args.name.now) c.self.view_is
