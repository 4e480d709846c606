use Rattle.std.proofs.Common.{◌≤◌, All, ap, sym, subst, ◌∙◌}
use Rattle.cops_names.specs.NameTable.{NameTable}
use Rattle.cops_read.proofs.ReadNames.{none_cut, with_symbols}
use Rattle.cops_read.proofs.read_names.ReadNames.into_names.Goals as goal

pub returns : goal.returns
returns c =
    let few = subst (λ (t : NameTable). All (λ s. s.1 ≤ 20) t.symbols) (sym c.self.view_is) c.requires in
    ap (with_symbols c.self.inside.names.variables) (none_cut c.self.inside.names.symbols c.self.inside.arities.items c.self.invariant few) ∙ c.self.view_is
