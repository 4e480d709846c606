use Rattle.std.proofs.Common.{◌+◌, ◌∙◌, add-one, ap, length, refl, subst, sym}
use Rattle.critical_pairs.proofs.Numbers.{AreFirstNumbers, next_noted, number_fits, all_numbers}
use Rattle.critical_pairs.proofs.kept.numbers_now.Goals as goal

pub note-requires : goal.note-requires
note-requires c = number_fits c.args.earlier.now c.requires.origins.0 c.args.origins.now c.requires.origins.1 c.loop-place.now.items c.loop-place.place _ refl c.loop-place.invariant.long

pub loop-place-preserved : goal.loop-place-preserved
loop-place-preserved c =
    let next = next_noted c.args.earlier.now c.requires.origins.0 c.args.origins.now c.requires.origins.1 c.loop-place.now.items c.loop-place.place (c.loop-place.place + 1) _
    (add-one c.loop-place.place) refl c.loop-place.invariant.long c.loop-place.invariant.numbers in
    record { long = ap length c.note.ensures ∙ next.0; numbers = subst (λ z. AreFirstNumbers c.args.origins.now z (c.loop-place.place + 1)) (sym c.note.ensures) next.1 }

pub returns : goal.returns
returns c = all_numbers c.args.origins.now c.loop-place.now.items c.loop-place.place c.loop-place-test.false c.loop-place.invariant.numbers
