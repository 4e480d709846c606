use Rattle.std.proofs.Common.{◌+◌, ◌-◌, ◌/◌, ◌<◌, map, length, refl, arith}
use Rattle.std.proofs.lemmas.Bool.{false≢true}
use Rattle.term_core.specs.HeadView.{head_view}
use Rattle.lpo.proofs.HeadOrder.{behind_middle, up_to_middle}
use Rattle.lpo.proofs.Placing.{map_get}
use Rattle.lpo.proofs.symbols.place_of.Goals as goal

pub halves-preserved-then-is_head_before : goal.halves-preserved-then-is_head_before
halves-preserved-then-is_head_before c =
    let middle = c.halves.low + (c.halves.high - c.halves.low) / 2 in
    let inside : middle < length c.args.heads.now = omega arith in
    record {
      within = c.halves.invariant.within;
      between = λ f is.
          let more = behind_middle (map head_view c.args.heads.now) c.requires (head_view c.args.head) _ middle (map_get head_view c.args.heads.now middle _ inside)
          (c.if-is_head_before.ensures.0 refl) f is in
          (omega (arith, more), (c.halves.invariant.between f is).1);
    }

pub halves-preserved : goal.halves-preserved
halves-preserved c =
    let middle = c.halves.low + (c.halves.high - c.halves.low) / 2 in
    let inside : middle < length c.args.heads.now = omega arith in
    record {
      within = omega arith;
      between = λ f is. (
        (c.halves.invariant.between f is).0,
        up_to_middle (map head_view c.args.heads.now) c.requires (head_view c.args.head) _ middle (map_get head_view c.args.heads.now middle _ inside)
            (λ h. false≢true (c.if-is_head_before.ensures.1 h)) f is,
      );
    }
