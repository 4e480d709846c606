use Rattle.std.proofs.Common.{length, ap, sym, ◌∙◌}
use Rattle.cops_names.specs.NameTable.{NameTable}
use Rattle.cops_read.proofs.ReadNames.{lengths}
use Rattle.cops_read.proofs.read_names.ReadNames.symbol_count.Goals as goal

pub returns : goal.returns
returns c = c.symbol_count.ensures ∙ sym (lengths c.self.inside.names.symbols c.self.inside.arities.items c.self.invariant) ∙ ap (λ (t : NameTable). length t.symbols) c.self.view_is
