use Rattle.std.proofs.Common.{◌∙◌, ◌<◌, ◌+◌, ◌*◌, ℕ, List, Vec, Global, length, ap, sym, arith}
use Rattle.std.proofs.lemmas.Grind.{get_or_default_zero}
use Rattle.number_sets.specs.Sets.{members_below}
use Rattle.number_sets.proofs.Bits.{word_skipped}
use Rattle.number_sets.proofs.words.NumberSet.numbers.Goals as goal
use Rattle.number_sets.proofs.words.NumberSet.numbers.Goals.{then-index-ne0+in_ok-put_word, else-index-ne0}

pub loop-place-preserved : goal.loop-place-preserved
loop-place-preserved c =
    elim c.if-index-ne0.branch [
      | then-index-ne0+in_ok-put_word w ↦
          ap (λ (v : Vec ℕ Global). v.items) w.numbers-is ∙ w.in_ok-put_word.ensures ∙ ap (λ (l : List ℕ). members_below l (64 * (c.loop-place.place + 1))) w.deref.ensures.value
      | else-index-ne0 w ↦
          let inside : c.loop-place.place < length c.args.self.now.words.items = omega arith in
          let read = get_or_default_zero c.args.self.now.words.items c.loop-place.place c.index.result.now inside in
          ap (λ (v : Vec ℕ Global). v.items) w.numbers-is ∙ c.loop-place.invariant
          ∙ sym (word_skipped c.args.self.now.words.items c.loop-place.place (sym read ∙ sym c.index.ensures ∙ w.if-index-ne0.false))
    ]
