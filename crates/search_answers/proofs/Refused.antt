-- Where the overlaps are refused, or none are handed in, they have no list.
use Rattle.std.proofs.Common.{ℕ, ◌≡◌, List, Option, Some, None, Vec, Global, Bor, Err, refl, subst}
use Rattle.rewriting.specs.Rules.{System}
use Rattle.unifier_run.specs.Overlaps.{Overlap, AreOverlaps}
use Rattle.valid_certificates.proofs.OneOverlaps.{overlaps_or_large, overlaps_or_many}
use Rattle.critical_pairs.specs.Answers.{OverlapsAnswers}
use Rattle.critical_pairs.specs.declared.Overlap as Made
use Rattle.critical_pairs.specs.declared.OverlapError.{OverlapError}
use Rattle.critical_pairs.specs.declared.OverlapError.TheVariants.{PairTooLarge, TooManyPairs}
use Rattle.search_answers.specs.Given.{IsOverlapList}

module _ (sys : System) (e : OverlapError) where
  pub large_none : (i : ℕ) (p : Vec ℕ Global) (j : ℕ) → e ≡ PairTooLarge i p j → OverlapsAnswers sys (Err e) → (os : List Overlap) → AreOverlaps sys os → ⊥
  large_none i p j is h os are = overlaps_or_large sys os i p.items j are (subst (λ z. OverlapsAnswers sys (Err z)) is h)

  pub many_none : e ≡ TooManyPairs → OverlapsAnswers sys (Err e) → (os : List Overlap) → AreOverlaps sys os → ⊥
  many_none is h os are = overlaps_or_many sys os are (subst (λ z. OverlapsAnswers sys (Err z)) is h)

pub unlisted : (sys : System) (o : Option (Bor (List Made.Overlap))) → IsOverlapList sys o → ((os : Bor (List Made.Overlap)) → o ≡ Some os → ⊥) → (os : List Overlap) → AreOverlaps sys os → ⊥
unlisted sys None h n = h
unlisted sys (Some os) h n = absurd (n os refl)
