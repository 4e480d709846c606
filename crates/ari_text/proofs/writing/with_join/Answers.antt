use Rattle.std.proofs.Common.{subst}
use Rattle.ari_text.specs.Texts.{IsJoinFile}
use Rattle.ari_text.proofs.Written.{long_enough, retyped, not_retyped}
use Rattle.ari_text.proofs.writing.with_join.Goals as goal

pub split_at-requires : goal.split_at-requires
split_at-requires c = long_enough c.args.text.now c.if-is_typed.ensures

pub returns-then-is_typed : goal.returns-then-is_typed
returns-then-is_typed c = retyped c.args.list c.args.text.now c.split_at.result.1.now c.new-out.result.items c.extend_from_slice.new.self.items
    c.extend_from_slice-then-is_typed.new.self.items c.if-is_typed.ensures c.split_at.ensures.back
    c.new-out.ensures.items c.in_ok-extend_from_slice.ensures.items c.in_ok-extend_from_slice-2.ensures.items
    (subst (IsJoinFile c.args.list) c.deref.ensures.value c.in_ok-check_join.ensures)

pub returns : goal.returns
returns c = not_retyped c.args.list c.args.text.now c.new-out.result.items c.extend_from_slice-2.new.self.items c.if-is_typed.ensures c.new-out.ensures.items c.in_ok-extend_from_slice-3.ensures.items
