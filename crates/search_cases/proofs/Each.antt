-- Conditions and derivations of lists, one by one.
use Rattle.std.proofs.Common.{◌≡◌, ℕ, zero, suc, ◌<◌, List, [], ◌∷◌, map, length, get_or, sym, subst, arith}
use Rattle.rewriting.specs.Terms.{Fits}
use Rattle.certificates.specs.Sizes.{IsShort, DoConditionsFit}
use Rattle.reach_lists.specs.Laws.{EachOf}
use Rattle.term_core.specs.Prelude.{view, condition_view}
use Rattle.term_core.specs.declared.systems.Cond.{Cond}
use Rattle.cert_model.specs.DerivationView.{derivation_view}
use Rattle.cert_model.specs.declared.derivations.Derivation.{Derivation}

pub fit_at : (cs : List Cond) (i : ℕ) (c : Cond) → DoConditionsFit (map condition_view cs) → i < length cs → c ≡ get_or cs i c → Fits (view c.left) × Fits (view c.right)
fit_at [] i c h less e = absurd (omega (arith, less))
fit_at (x ∷ xs) zero c (l, r, h) less e = subst (λ (y : Cond). Fits (view y.left) × Fits (view y.right)) (sym e) (l, r)
fit_at (x ∷ xs) (suc i) c (l, r, h) less e = fit_at xs i c h (omega (arith, less)) e

pub short_at : (ds : List Derivation) (i : ℕ) (d : Derivation) → EachOf IsShort (map derivation_view ds) → i < length ds → d ≡ get_or ds i d → IsShort (derivation_view d)
short_at [] i d h less e = absurd (omega (arith, less))
short_at (x ∷ xs) zero d (s, h) less e = subst (λ (y : Derivation). IsShort (derivation_view y)) (sym e) s
short_at (x ∷ xs) (suc i) d (s, h) less e = short_at xs i d h (omega (arith, less)) e
