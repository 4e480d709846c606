use Rattle.std.proofs.Common.{List, ℕ, ap, sym, ◌∙◌}
use Rattle.std.specs.Prelude.{slice_get}
use Rattle.cops_names.specs.NameTable.{NameTable, arity_at}
use Rattle.cops_read.proofs.ReadNames.{arities}
use Rattle.cops_read.proofs.read_names.ReadNames.arity.Goals as goal

pub returns : goal.returns
returns c =
    c.item_at.ensures ∙ ap (λ (ns : List ℕ). slice_get ns c.args.n) c.deref.ensures.value ∙ sym (arities c.self.inside.names.symbols c.self.inside.arities.items c.args.n c.self.invariant)
    ∙ ap (λ (t : NameTable). arity_at t c.args.n) c.self.view_is
