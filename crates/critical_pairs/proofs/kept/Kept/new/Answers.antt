use Rattle.std.proofs.Common.{refl, subst, ◌≡◌, map, flat_map}
use Rattle.critical_pairs.specs.View.{overlap_view}
use Rattle.critical_pairs.specs.Kept.{renumbered}
use Rattle.critical_pairs.proofs.Taken.{all_kept}
use Rattle.critical_pairs.proofs.kept.Kept.new.Goals as goal

pub returns : goal.returns
returns c = λ sys known.
    all_kept c.args.earlier.now sys c.args.origins.now c.in_ok-now.now.items c.args.known.items _ known c.in_ok-now.ensures refl
    (subst (λ z. map overlap_view c.in_ok-all_renumbered.field-0.items ≡ flat_map (renumbered z) (map overlap_view c.args.known.items)) c.deref.ensures.value c.in_ok-all_renumbered.ensures)
