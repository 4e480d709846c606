-- Two listed terms of the left side of a condition show that it is never met where they are absolutely irreducible and clash.
use Rattle.std.proofs.Common.{ℕ, ◌≡◌, inl, inr, Some, None, sym, subst}
use Rattle.rewriting.specs.Prelude.{Term, cons, nil, Condition, System}
use Rattle.unifier_run.specs.Run.{clash, IsOutcome}
use Rattle.unifier_run.specs.Irreducible.{DoAllClash}
use Rattle.unifier_run.specs.Overlaps.{Overlap}
use Rattle.certificates.specs.Prelude.{unfeasible_pair, Derives, hypothesis_at}
use Rattle.certificates.proofs.Unique.{derives_unique}
use Rattle.valid_certificates.specs.Kinds.{quasi}
use Rattle.valid_certificates.specs.PairEvidence.{IsPairJudged, DerivesTwo}
use Rattle.reach_lists.specs.Solutions.{Reached}
use Rattle.reach_lists.proofs.Laws.{listed_derived}
use Rattle.reach_lists.proofs.Each.{each_one}
use Rattle.search_spaces.specs.Listings.{listing}
use Rattle.quasi_space.specs.Laws.{IsReductAt, ClashingReductsAreUnfeasible}

-- the terms are absolutely irreducible, and their run ends in a clash
abbrev DoClash : System → Term → Term → Type 0
DoClash sys u v = DoAllClash sys u × DoAllClash sys v × IsOutcome (cons u nil) (cons v nil) clash

module _ (sys : System) (o : Overlap) (k : ℕ) where
  one_condition : (c d : Condition) → hypothesis_at o.pair.conditions k ≡ Some c → hypothesis_at o.pair.conditions k ≡ Some d → c ≡ d
  one_condition c d e f = cc

  -- a listed term is derived from the left side of the condition
  derived : (x : Reached) → IsReductAt sys o k x → (c : Condition) → hypothesis_at o.pair.conditions k ≡ Some c → Derives sys o.pair.conditions c.left x.by x.term
  derived x h c is =
      subst (λ (z : Condition). Derives sys o.pair.conditions z.left x.by x.term) (one_condition h.condition c h.is_condition is)
      (each_one (λ (r : Reached). Derives sys o.pair.conditions h.condition.left r.by r.term) (listing sys o.pair.conditions h.condition.left) x
      (listed_derived sys o.pair.conditions 5 2 h.condition.left) h.listed)

  -- and it is the only term that is derived so
  only : (x : Reached) → IsReductAt sys o k x → (c : Condition) → hypothesis_at o.pair.conditions k ≡ Some c → (u : Term) → Derives sys o.pair.conditions c.left x.by u → u ≡ x.term
  only x h c is u d = sym (derives_unique sys o.pair.conditions c.left x.by x.term u (derived x h c is) d)

  module _ (x y : Reached) (first : IsReductAt sys o k x) (second : IsReductAt sys o k y) where
    clashing : IsPairJudged quasi sys o (unfeasible_pair k x.by y.by) None → DoClash sys x.term y.term
    clashing (inl (allowed, (u, v, two, du, dv, run))) =
        subst (λ z. DoClash sys z y.term) (only x first two.condition two.is_condition u two.first)
        (subst (λ z. DoClash sys u z) (only y second two.condition two.is_condition v two.second) (du, dv, run))
    clashing (inr (other, e)) = absurd (other tt)

    unfeasible : DoClash sys x.term y.term → IsPairJudged quasi sys o (unfeasible_pair k x.by y.by) None
    unfeasible (dx, dy, run) =
        let two : DerivesTwo sys o k x.by y.by x.term y.term =
        record {
          condition = first.condition;
          is_condition = first.is_condition;
          first = derived x first first.condition first.is_condition;
          second = derived y second first.condition first.is_condition;
        } in
        inl (tt, (x.term, y.term, two, dx, dy, run))

pub reducts_unfeasible : ClashingReductsAreUnfeasible
reducts_unfeasible sys o k x y first second = (clashing sys o k x y first second, unfeasible sys o k x y first second)
