use Rattle.std.proofs.Common.{◌≡◌, sym, ap, subst}
use Rattle.rewriting.specs.Terms as math
use Rattle.rewriting.specs.Unraveling.{keeper}
use Rattle.term_core.specs.View.{view}
use Rattle.unravel.specs.SideView.{side_view}
use Rattle.unravel.proofs.Kept.{both_fit, fits_kept}
use Rattle.unravel.proofs.sides.Side.fits.Goals as goal

pub returns-in-Kept : goal.returns-in-Kept
returns-in-Kept c =
    let same : side_view c.args.self.now ≡ keeper c.in-Kept.symbol (view c.in-Kept.term.now) c.in-Kept.known.now = ap side_view c.in-Kept.is in
    let inner = c.kept_fits.ensures in (
      λ y. subst math.Fits (sym same) (both_fit c.in-Kept.symbol _ _ (inner.0 y)),
      λ f. inner.1 (fits_kept c.in-Kept.symbol _ _ (subst math.Fits same f)),
    )
