use Rattle.std.proofs.Common.{◌∙◌, ap, sym}
use Rattle.cops_names.specs.NameTable.{NameTable}
use Rattle.cops_names.specs.NamesView.{texts_of}
use Rattle.cops_names.proofs.Numbers.{name_in}
use Rattle.std.specs.List.{slice_get}
use Rattle.std.specs.Prelude.{String, List}
use Rattle.std.specs.Global.{Global}
use Rattle.cops_names.proofs.names.Names.variable_name.Goals as goal

pub returns : goal.returns
returns c =
    let there = rw c.deref.ensures.value at c.in_ok-names.ensures.lookup in
    let named = name_in c.args.self.now c.self.inside.rules.items c.args.rule c.in_ok-at.at c.args.k c.in_ok-names.names.now
    (ap (λ (n : NameTable). n.variables) (sym c.self.view_is)) c.in_ok-at.ensures.0 c.in_ok-at.ensures.1 there.3.0 there.1 in
    c.text_at.ensures ∙ ap (λ (xs : List (String Global)). slice_get (texts_of xs) c.args.k) c.deref-2.ensures.value ∙ sym named
