use Rattle.std.proofs.Common.{◌≡◌, ℕ, refl, arith}
use Rattle.std.proofs.Math.ListN.{set}
use Rattle.std.proofs.lemmas.Result.{on_ok_weaker}
use Rattle.number_sets.proofs.Related.{put_in_row}
use Rattle.number_sets.proofs.rows.NumberRelation.insert.Goals as goal

pub returns : goal.returns
returns c = on_ok_weaker c.insert.result
    (λ step. put_in_row (λ (q : ℕ). q ≡ c.args.right) c.args.self.now c.lengthen.new.self.rows.items (set c.lengthen.new.self.rows.items c.args.left c.insert.new.self)
    c.args.left c.index_mut.result.now
    c.insert.new.self c.in_ok-lengthen.ensures.same (omega (arith, c.in_ok-lengthen.ensures.long)) c.index_mut.ensures.value step refl)
    c.insert.ensures
