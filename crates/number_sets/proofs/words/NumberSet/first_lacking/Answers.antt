use Rattle.std.proofs.Common.{◌+◌, ◌*◌, arith}
use Rattle.number_sets.proofs.Bits.{lacking_found, had_by, had_more, had_all}
use Rattle.number_sets.proofs.words.NumberSet.first_lacking.Goals as goal
use Rattle.number_sets.proofs.words.NumberSet.first_lacking.Goals.{then-word_at-others+in_default, else-word_at-others}

pub returns-in-Some : goal.returns-in-Some
returns-in-Some c =
    lacking_found c.args.self.now c.args.other.now c.deref-then-word_at-others.result.now c.deref-then-word_at-others-2.result.now c.deref-then-word_at-others.ensures.value
    c.deref-then-word_at-others-2.ensures.value (64 * (c.loop-place.place + 1)) c.in-Some.number c.in-Some.ensures

pub loop-place-preserved : goal.loop-place-preserved
loop-place-preserved c =
    elim c.if-word_at-others.branch [
      | then-word_at-others+in_default w ↦
          had_by c.args.self.now c.args.other.now w.deref-then-word_at-others.result.now w.deref-then-word_at-others-2.result.now w.deref-then-word_at-others.ensures.value
          w.deref-then-word_at-others-2.ensures.value (64 * (c.loop-place.place + 1)) w.in_default.ensures
      | else-word_at-others w ↦ had_more c.args.self.now.words.items c.args.other.now.words.items c.loop-place.place (cc) c.loop-place.invariant
    ]

pub returns : goal.returns
returns c = had_all c.args.self.now c.args.other.now c.loop-place.place c.loop-place.invariant (omega arith)
