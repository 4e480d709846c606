use Rattle.std.proofs.Common.{◌∙◌, ◌<◌, ◌*◌, ◌/◌, ◌%◌, ◌^◌, bit_or, length, refl, arith}
use Rattle.std.proofs.Math.ListN.{set}
use Rattle.std.proofs.lemmas.Grind.{get_or_default_zero}
use Rattle.number_sets.proofs.Bits.{put_in}
use Rattle.number_sets.proofs.words.NumberSet.insert.Goals as goal

pub returns : goal.returns
returns c =
    let inside : c.args.number / 64 < length c.lengthen.new.self.words.items = omega (arith, c.in_ok-lengthen.ensures.long) in
    put_in c.args.self.now c.lengthen.new.self.words.items c.args.number c.index_mut.result.now c.in_ok-lengthen.ensures.same inside
    (c.index_mut.ensures.value ∙ get_or_default_zero c.lengthen.new.self.words.items (c.args.number / 64) c.index_mut.result.now inside)
    (set c.lengthen.new.self.words.items (c.args.number / 64) (bit_or c.index_mut.result.now (1 * 2 ^ (c.args.number % 64) % 2 ^ 64))) refl
