use Rattle.std.proofs.Common.{refl, ap, true}
use Rattle.file_text.specs.Syntax.{conditions_of}
use Rattle.term_core.specs.View.{view}
use Rattle.cops_read.specs.Uses.{side_of}
use Rattle.cops_read.proofs.Parts.{parts_read}
use Rattle.cops_read.proofs.Within.{head_within}
use Rattle.cops_read.proofs.rules.read_parts.Goals as goal

pub returns-clause-parts : goal.returns-clause-parts
returns-clause-parts c t h =
    let first = rw c.deref.ensures.value at (c.in_ok-left.ensures.side t.left) in
    let same = ap (λ k. k.0) c.in_ok-left.ensures.kept in
    let second = rw (c.deref-2.ensures.value, same) at (c.in_ok-right.ensures.side t.right) in
    let last = rw (c.deref-3.ensures.value, ap (λ k. k.0) c.in_ok-right.ensures.kept, same) at (c.in_ok-conds.ensures.conditions (conditions_of t)) in
    parts_read c.args.scope.now.block c.args.has_type c.args.scope.now.names.symbols c.args.number t c.args.scope.now.variables
    c.read_side.new.reader.names.symbols c.read_side.new.reader.variables (view c.in_ok-left.left) c.requires.none (first h.left)
    c.read_side-2.new.reader.names.symbols c.read_side-2.new.reader.variables (view c.in_ok-right.right) (second h.right)
    c.args.text.now.bar h.bar c.in_ok-check_bar.ensures
    c.read_conditions.new.reader.names.symbols c.read_conditions.new.reader.variables c.in_ok-left.left c.in_ok-right.right c.in_ok-conds.conds c.len-vars.result refl refl
    c.len-vars.ensures (last h.conditions)

pub returns-clause-few : goal.returns-clause-few
returns-clause-few c =
    let (t, h) = c.requires.text in
    let first = rw c.deref.ensures.value at (c.in_ok-left.ensures.side t.left) in
    let read = first h.left in
    (head_within c.args.scope.now.block c.args.scope.now.names.symbols c.args.scope.now.variables (side_of c.args.number 0 true) 1 0 0 t.left read.accepted).rules
