use Rattle.std.proofs.Common.{◌∙◌, ap, sym, ◌++◌, ◌∷◌, []}
use Rattle.std.specs.Prelude.{string_bytes}
use Rattle.std.specs.String.{string_eq}
use Rattle.indexmap.proofs.CallerLemmas.{insert_entry-new}
use Rattle.cops_names.specs.NamesView.{symbols_of}
use Rattle.cops_names.specs.NameTable.{NameTable}
use Rattle.cops_names.proofs.Numbers.{numbers, symbols_push, none_is, none_or, some_or}
use Rattle.cops_names.proofs.names.Names.add_symbol.Goals as goal

pub returns-clause-last : goal.returns-clause-last
returns-clause-last c =
    let absent = none_is _ (sym c.get_index_of.ensures.found ∙ sym c.is_some.ensures ∙ c.if-is_some.false) in
    let none = rw c.as_str.ensures.value at absent in
    ap symbols_of (c.in_ok-insert.ensures.entries ∙ insert_entry-new string_eq c.self.inside.symbols c.args.name c.args.arity none)
    ∙ symbols_push c.self.inside.symbols.entries c.args.name c.args.arity
    ∙ ap (λ (w : NameTable). w.symbols ++ (string_bytes c.args.name, c.args.arity) ∷ []) c.self.view_is

pub returns-then-is_some-clause-absent : goal.returns-then-is_some-clause-absent
returns-then-is_some-clause-absent c =
    let there = rw c.as_str.ensures.value at c.get_index_of.ensures.index in
    rw (← c.self.view_is) (some_or _ _ (there ∙ numbers (string_bytes c.args.name) c.self.inside.symbols.entries) (sym c.is_some.ensures ∙ c.if-is_some.true))

pub returns-clause-absent : goal.returns-clause-absent
returns-clause-absent c =
    let there = rw c.as_str.ensures.value at c.get_index_of.ensures.index in
    rw (← c.self.view_is) (none_or _ _ (there ∙ numbers (string_bytes c.args.name) c.self.inside.symbols.entries) (sym c.is_some.ensures ∙ c.if-is_some.false))
