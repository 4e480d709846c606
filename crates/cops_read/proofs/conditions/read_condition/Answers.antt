use Rattle.std.proofs.Common.{◌≡◌, false, map, sym, subst}
use Rattle.file_text.specs.Syntax as syntax
use Rattle.cops_syntax.specs.declared.tree.Node.{Node}
use Rattle.cops_read.specs.Uses.{side_of}
use Rattle.cops_read.specs.Walks.{side_refusal, ConditionAnswers}
use Rattle.cops_read.proofs.Firsts.{handed}
use Rattle.cops_read.proofs.Tells.{tells_here}
use Rattle.cops_read.proofs.Parts.{right_fails, both_read}
use Rattle.cops_read.proofs.conditions.read_condition.Goals as goal

pub returns-in_err-left-clause-condition : goal.returns-in_err-left-clause-condition
returns-in_err-left-clause-condition g c tree h =
    let H = g.H.HeadReader in
    let left = subst (λ (f : Node → syntax.Node). map f c.args.text.now.left.items ≡ syntax.flat tree.left) (sym c.requires.nodes) h.left in
    let first = rw c.deref.ensures.value at (c.in_err-left.ensures.side tree.left) in
    handed (ConditionAnswers (H.cause (H.kept c.args.reader.now)) (H.block (H.kept c.args.reader.now)) H.tells (H.symbols c.args.reader.now) (H.variables c.args.reader.now) c.args.rule c.args.number
    tree (H.symbols c.read_side.new.reader) (H.variables c.read_side.new.reader)) c.in_err-left.field-0.0 c.from_residual.result c.from_residual.ensures.1
    (tells_here c.in_err-left.ensures.told
    (side_refusal (H.cause (H.kept c.args.reader.now)) (H.block (H.kept c.args.reader.now)) (H.symbols c.args.reader.now) (H.variables c.args.reader.now)
    (side_of c.args.rule c.args.number false) tree.left)
    _ c.in_err-left.field-0.0 (first left))

pub returns-in_err-right-clause-condition : goal.returns-in_err-right-clause-condition
returns-in_err-right-clause-condition g c tree h =
    let H = g.H.HeadReader in
    let left = subst (λ (f : Node → syntax.Node). map f c.args.text.now.left.items ≡ syntax.flat tree.left) (sym c.requires.nodes) h.left in
    let right = subst (λ (f : Node → syntax.Node). map f c.args.text.now.right.items ≡ syntax.flat tree.right) (sym c.requires.nodes) h.right in
    let first = rw c.deref.ensures.value at (c.in_ok-left.ensures.side tree.left) in
    let second = rw (c.deref-2.ensures.value, c.in_ok-left.ensures.kept) at (c.in_err-right.ensures.side tree.right) in
    handed (ConditionAnswers (H.cause (H.kept c.args.reader.now)) (H.block (H.kept c.args.reader.now)) H.tells (H.symbols c.args.reader.now) (H.variables c.args.reader.now) c.args.rule c.args.number
    tree (H.symbols c.read_side-2.new.reader) (H.variables c.read_side-2.new.reader)) c.in_err-right.field-0.0 c.from_residual-in_err-right.result c.from_residual-in_err-right.ensures.1
    (right_fails c.args.rule c.args.number tree (first left) H.tells c.in_err-right.field-0.0 (second right))

pub returns-clause-condition : goal.returns-clause-condition
returns-clause-condition g c tree h =
    let left = subst (λ (f : Node → syntax.Node). map f c.args.text.now.left.items ≡ syntax.flat tree.left) (sym c.requires.nodes) h.left in
    let right = subst (λ (f : Node → syntax.Node). map f c.args.text.now.right.items ≡ syntax.flat tree.right) (sym c.requires.nodes) h.right in
    let first = rw c.deref.ensures.value at (c.in_ok-left.ensures.side tree.left) in
    let second = rw (c.deref-2.ensures.value, c.in_ok-left.ensures.kept) at (c.in_ok-right.ensures.side tree.right) in
    both_read c.args.rule c.args.number tree (first left) (second right)
