use Rattle.std.proofs.Common.{◌∙◌, ◌<◌, ℕ, length, bit_and, ap₂, sym, arith}
use Rattle.std.proofs.Math.ListN.{length-set}
use Rattle.std.proofs.lemmas.Grind.{get_or_default_zero}
use Rattle.number_sets.proofs.Bits.{joined_first, joined_next}
use Rattle.number_sets.proofs.Shared.{both_words, both_at, joined_both}
use Rattle.number_sets.proofs.words.NumberSet.insert_shared.Goals as goal

pub loop-place-init : goal.loop-place-init
loop-place-init c = record {
  long = omega (arith, c.in_ok-lengthen.ensures.long);
  joined = joined_first c.args.self.now.words.items (both_words c.args.first.now.words.items c.args.second.now.words.items) c.lengthen.new.self.words.items c.in_ok-lengthen.ensures.same;
}

pub loop-place-preserved : goal.loop-place-preserved
loop-place-preserved c =
    let place = c.loop-place.place in
    let one : place < length c.args.first.now.words.items = omega arith in
    let two : place < length c.args.second.now.words.items = omega arith in
    let inside : place < length c.loop-place.self.words.items = omega (arith, c.loop-place.invariant.long) in
    let first = c.index.ensures ∙ get_or_default_zero c.args.first.now.words.items place c.index.result.now one in
    let second = c.index-in-loop-place.ensures ∙ get_or_default_zero c.args.second.now.words.items place c.index-in-loop-place.result.now two in
    record {
      long = omega (arith, length-set {A = ℕ}, c.loop-place.invariant.long);
      joined =
          joined_next c.args.self.now.words.items (both_words c.args.first.now.words.items c.args.second.now.words.items) c.loop-place.self.words.items place c.index_mut.result.now
          (bit_and c.index.result.now c.index-in-loop-place.result.now)
          (c.index_mut.ensures.value ∙ get_or_default_zero c.loop-place.self.words.items place c.index_mut.result.now inside)
          (ap₂ bit_and first second ∙ sym (both_at c.args.first.now.words.items c.args.second.now.words.items place one two)) inside c.loop-place.invariant.joined;
    }

pub returns : goal.returns
returns c = joined_both c.args.self.now c.args.first.now c.args.second.now c.loop-place.self c.loop-place.place c.loop-place.invariant.joined (omega arith)
