use Rattle.std.proofs.Common.{refl, sym, ap, ◌∙◌}
use Rattle.std.specs.Prelude.{string_bytes}
use Rattle.cops_names.specs.NameTable.{number_of}
use Rattle.cops_syntax.specs.View.{node_view}
use Rattle.cops_read.specs.Heads.{used_at}
use Rattle.cops_read.proofs.Uses.{put}
use Rattle.cops_read.proofs.heads.read_symbol.Goals as goal

pub add_symbol-requires-clause-absent : goal.add_symbol-requires-clause-absent
add_symbol-requires-clause-absent c = ap (number_of c.args.names.now.symbols) c.in_ok-from_str.ensures.ok ∙ sym c.in_default.ensures

pub returns-clause-symbol : goal.returns-clause-symbol
returns-clause-symbol c =
    put c.args.names.now.symbols c.add_symbol.new.self.symbols (used_at c.args.place (node_view c.args.node.now)) c.args.name.now (string_bytes c.in_ok-from_str.field-0)
    c.args.node.now.arguments c.symbol_count-number.result c.requires refl
    c.in_default.ensures c.in_ok-from_str.ensures.ok c.in_ok-add_symbol.ensures.symbols c.symbol_count-number.ensures c.in_ok-within.ensures
