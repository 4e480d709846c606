-- A condition and its derivation, from what is found one after another.
use Rattle.std.proofs.Common.{◌≡◌, ℕ, List, [], sym, subst, inl, inr}
use Rattle.rewriting.specs.Terms as math
use Rattle.rewriting.specs.Prelude.{Bindings, apply, values_of, Condition, System, IsLeastMatch, HasNoMatch}
use Rattle.certificates.specs.Prelude.{Derivation, left_unbound, left_large, derivation_fails, right_differs, Derives, FailsFrom, StepReason, condition_fails}
use Rattle.derivation.specs.Judged.{IsInstance, HasNoInstance, Fulfils, Misses}

module _ (sys : System) (hyps : List Condition) (d : Derivation) (b : Bindings) (c : Condition) where
  pub no_start : (path : List ℕ) (reason : StepReason) → (path ≡ []) × HasNoInstance b c.left reason → Misses sys hyps d b c path reason
  no_start path reason (e, h) = subst (λ q. Misses sys hyps d b c q reason) (sym e) (go h)
    where
      go : HasNoInstance b c.left reason → Misses sys hyps d b c [] reason
      go (inl (f, free)) = subst (λ why. Misses sys hyps d b c [] why) (sym f) (left_unbound free)
      go (inr (f, covered, large)) = subst (λ why. Misses sys hyps d b c [] why) (sym f) (left_large covered large)

  module _ (from : math.Term) (i : IsInstance b c.left from) where
    fits : math.Fits (apply (values_of b) c.left)
    fits = subst math.Fits i.is i.fits

    pub bad_inside : (path : List ℕ) (reason : StepReason) → FailsFrom sys hyps 1 from d path reason → Misses sys hyps d b c path reason
    bad_inside path reason h = derivation_fails i.covered fits (subst (λ z. FailsFrom sys hyps 1 z d path reason) i.is h)

    module _ (end : math.Term) (h : Derives sys hyps from d end) where
      reached : Derives sys hyps (apply (values_of b) c.left) d end
      reached = subst (λ z. Derives sys hyps z d end) i.is h

      pub differs : (path : List ℕ) (reason : StepReason) → (path ≡ []) × (reason ≡ condition_fails) × HasNoMatch b c.right end → Misses sys hyps d b c path reason
      differs path reason (e, f, none) =
          subst (λ q. Misses sys hyps d b c q reason) (sym e) (subst (λ why. Misses sys hyps d b c [] why) (sym f) (right_differs end i.covered fits reached none))

      pub fulfilled : (after : Bindings) → IsLeastMatch b after c.right end → Fulfils sys hyps d b c after
      fulfilled after m = record { covered = i.covered; fits = fits; end = end; reached = reached; matches = m }
