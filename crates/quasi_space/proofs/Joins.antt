-- Listed terms of both sides of an overlap join them where they are one term.
use Rattle.std.proofs.Common.{◌≡◌, inl, inr, None, sym, ◌∙◌, subst}
use Rattle.rewriting.specs.Rules.{System}
use Rattle.unifier_run.specs.Overlaps.{Overlap}
use Rattle.certificates.specs.Prelude.{joined_pair, Derives}
use Rattle.certificates.proofs.Unique.{derives_unique}
use Rattle.valid_certificates.specs.Kinds.{quasi}
use Rattle.valid_certificates.specs.PairEvidence.{IsPairJudged}
use Rattle.reach_lists.specs.Solutions.{Reached}
use Rattle.reach_lists.proofs.Laws.{listed_derived}
use Rattle.reach_lists.proofs.Each.{each_one}
use Rattle.search_spaces.specs.Listings.{listing}
use Rattle.quasi_space.specs.Laws.{AreListedAt, JoinsAreSharedTerms}

module _ (sys : System) (o : Overlap) (x y : Reached) (listed : AreListedAt sys o x y) where
  left_derived : Derives sys o.pair.conditions o.pair.left x.by x.term
  left_derived =
      each_one (λ (r : Reached). Derives sys o.pair.conditions o.pair.left r.by r.term) (listing sys o.pair.conditions o.pair.left) x
      (listed_derived sys o.pair.conditions 5 2 o.pair.left) listed.left

  right_derived : Derives sys o.pair.conditions o.pair.right y.by y.term
  right_derived =
      each_one (λ (r : Reached). Derives sys o.pair.conditions o.pair.right r.by r.term) (listing sys o.pair.conditions o.pair.right) y
      (listed_derived sys o.pair.conditions 5 2 o.pair.right) listed.right

  one_term : IsPairJudged quasi sys o (joined_pair x.by y.by) None → x.term ≡ y.term
  one_term (inl (allowed, (w, d, e))) =
      derives_unique sys o.pair.conditions o.pair.left x.by x.term w left_derived d
      ∙ sym (derives_unique sys o.pair.conditions o.pair.right y.by y.term w right_derived e)
  one_term (inr (other, e)) = absurd (other tt)

  joined : x.term ≡ y.term → IsPairJudged quasi sys o (joined_pair x.by y.by) None
  joined e = inl (tt, (x.term, left_derived, subst (λ z. Derives sys o.pair.conditions o.pair.right y.by z) (sym e) right_derived))

pub joins_shared : JoinsAreSharedTerms
joins_shared sys o x y listed = (one_term sys o x y listed, joined sys o x y listed)
