use Rattle.std.proofs.Common.{◌∙◌, ◌<◌, ℕ, length, arith}
use Rattle.std.proofs.Math.ListN.{length-set}
use Rattle.std.proofs.lemmas.Grind.{get_or_default_zero}
use Rattle.number_sets.proofs.Bits.{joined_first, joined_next, joined_all}
use Rattle.number_sets.proofs.words.NumberSet.insert_all.Goals as goal

pub loop-place-init : goal.loop-place-init
loop-place-init c = record {
  long = omega (arith, c.in_ok-lengthen.ensures.long);
  joined = joined_first c.args.self.now.words.items c.args.other.now.words.items c.lengthen.new.self.words.items c.in_ok-lengthen.ensures.same;
}

pub loop-place-preserved : goal.loop-place-preserved
loop-place-preserved c =
    let within : c.loop-place.place < length c.args.other.now.words.items = omega arith in
    let inside : c.loop-place.place < length c.loop-place.self.words.items = omega (arith, c.loop-place.invariant.long) in record {
      long = omega (arith, length-set {A = ℕ}, c.loop-place.invariant.long);
      joined =
          joined_next c.args.self.now.words.items c.args.other.now.words.items c.loop-place.self.words.items c.loop-place.place c.index_mut.result.now c.index.result.now
          (c.index_mut.ensures.value ∙ get_or_default_zero c.loop-place.self.words.items c.loop-place.place c.index_mut.result.now inside)
          (c.index.ensures ∙ get_or_default_zero c.args.other.now.words.items c.loop-place.place c.index.result.now within) inside c.loop-place.invariant.joined;
    }

pub returns : goal.returns
returns c = joined_all c.args.self.now c.args.other.now c.loop-place.self c.loop-place.place c.loop-place.invariant.joined (omega arith)
