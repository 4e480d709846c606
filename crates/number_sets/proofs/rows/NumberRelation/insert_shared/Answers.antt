use Rattle.std.proofs.Common.{ℕ, refl, arith}
use Rattle.std.proofs.Math.ListN.{set}
use Rattle.std.proofs.lemmas.Result.{on_ok_weaker}
use Rattle.rewriting.specs.Lists.{IsAmong}
use Rattle.number_sets.specs.Sets.{members}
use Rattle.number_sets.proofs.Related.{put_in_row}
use Rattle.number_sets.proofs.rows.NumberRelation.insert_shared.Goals as goal

pub returns : goal.returns
returns c = on_ok_weaker c.insert_shared.result
    (λ step. put_in_row (λ (q : ℕ). IsAmong q (members c.args.first.now) × IsAmong q (members c.args.second.now)) c.args.self.now c.lengthen.new.self.rows.items
    (set c.lengthen.new.self.rows.items c.args.left c.insert_shared.new.self) c.args.left c.index_mut.result.now c.insert_shared.new.self c.in_ok-lengthen.ensures.same
    (omega (arith, c.in_ok-lengthen.ensures.long))
    c.index_mut.ensures.value step refl) c.insert_shared.ensures
