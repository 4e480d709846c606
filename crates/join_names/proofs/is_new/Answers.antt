use Rattle.std.proofs.Common.{◌≡◌, ◌∙◌, ◌||◌, not, sym, ap, Bool, Option, ℕ, true, false, is_some}
use Rattle.cops_names.specs.NameTable.{number_of}
use Rattle.cops_names.specs.NameLists.{is_among}
use Rattle.join_names.proofs.Absent.{used_or_not}
use Rattle.join_names.proofs.is_new.Goals as goal

pub returns-then-is_some : goal.returns-then-is_some
returns-then-is_some c =
    let all = used_or_not c.args.names.now c.args.variables.now c.args.name.now c.requires in
    let yes : is_some (number_of c.args.names.now.symbols c.args.name.now) ≡ true =
    ap (λ (o : Option ℕ). is_some o) (sym c.symbol_number.ensures) ∙ sym c.is_some.ensures ∙ c.if-is_some.true in
    sym (ap not (all ∙ ap (λ (b : Bool). b || is_among c.args.variables.now c.args.name.now) yes))

pub returns : goal.returns
returns c =
    let all = used_or_not c.args.names.now c.args.variables.now c.args.name.now c.requires in
    let none : is_some (number_of c.args.names.now.symbols c.args.name.now) ≡ false =
    ap (λ (o : Option ℕ). is_some o) (sym c.symbol_number.ensures) ∙ sym c.is_some.ensures ∙ c.if-is_some.false in
    ap not (c.has.ensures ∙ sym (all ∙ ap (λ (b : Bool). b || is_among c.args.variables.now c.args.name.now) none))
