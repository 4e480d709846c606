use Rattle.std.proofs.Common.{◌<◌, ◌^◌, ◌++◌, ◌∷◌, [], length, ℕ, ap, sym, subst, ◌∙◌, arith}
use Rattle.std.specs.Prelude.{string_bytes}
use Rattle.cops_names.specs.NameTable.{NameTable}
use Rattle.cops_read.proofs.ReadNames.{lengths, added, still_cut, put_last}
use Rattle.cops_read.proofs.read_names.ReadNames.add_symbol.Goals as goal

pub add_symbol-requires : goal.add_symbol-requires
add_symbol-requires c =
    subst (λ (k : ℕ). k < 2 ^ 31) (ap (λ (t : NameTable). length t.symbols) (sym c.self.view_is) ∙ lengths c.self.inside.names.symbols c.self.inside.arities.items c.self.invariant) c.requires.few

pub invariant_of-self-2 : goal.invariant_of-self-2
invariant_of-self-2 c =
    let after = added c.self.inside.names.symbols c.add_symbol.new.self.symbols c.args.self.now.symbols c.self.inside.arities.items (string_bytes c.args.name) c.min.result c.in_ok-add_symbol.field-0
    c.self.invariant (ap (λ (t : NameTable). t.symbols) c.self.view_is) c.requires.absent c.in_ok-add_symbol.ensures.absent.1 c.in_ok-add_symbol.ensures.last in
    rw (after, c.push_reserved.ensures.items, c.reserve.ensures.items)
    (still_cut c.self.inside.names.symbols c.self.inside.arities.items (string_bytes c.args.name) c.min.result c.args.arity c.self.invariant (λ small. omega (arith, small, c.min.ensures)))

pub returns-clause-symbols : goal.returns-clause-symbols
returns-clause-symbols c =
    let after = added c.self.inside.names.symbols c.add_symbol.new.self.symbols c.args.self.now.symbols c.self.inside.arities.items (string_bytes c.args.name) c.min.result c.in_ok-add_symbol.field-0
    c.self.invariant (ap (λ (t : NameTable). t.symbols) c.self.view_is) c.requires.absent c.in_ok-add_symbol.ensures.absent.1 c.in_ok-add_symbol.ensures.last in
    rw (after, c.push_reserved.ensures.items, c.reserve.ensures.items)
    (put_last c.self.inside.names.symbols c.self.inside.arities.items (string_bytes c.args.name) c.min.result c.args.arity c.self.invariant
    ∙ ap (λ (t : NameTable). t.symbols ++ (string_bytes c.args.name, c.args.arity) ∷ []) c.self.view_is)
