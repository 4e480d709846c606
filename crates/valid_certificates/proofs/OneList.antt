-- The list of redexes is one.
use Rattle.std.proofs.Common.{◌≡◌, inl, inr, List, subst, arith}
use Rattle.rewriting.specs.Prelude.{IsBefore, System, Term}
use Rattle.rewriting.proofs.Before.{before_not_same, before_not_both}
use Rattle.rewriting.proofs.Lists.{sorted_once}
use Rattle.valid_certificates.specs.Peaks.{RedexPlace, IsEarlierRedex, AreRedexes}

-- of two places at most one is earlier
earlier_once : (a b : RedexPlace) → IsEarlierRedex a b → IsEarlierRedex b a → ⊥
earlier_once a b (inl h) (inl k) = omega (arith, h, k)
earlier_once a b (inl h) (inr (e, k)) = omega (arith, h, e)
earlier_once a b (inr (e, h)) (inl k) = omega (arith, e, k)
earlier_once a b (inr (e, inl h)) (inr (f, inl k)) = before_not_both a.position b.position h k
earlier_once a b (inr (e, inl h)) (inr (f, inr (g, k))) = before_not_same a.position (subst (λ p. IsBefore a.position p) g h)
earlier_once a b (inr (e, inr (g, h))) (inr (f, inl k)) = before_not_same b.position (subst (λ p. IsBefore b.position p) g k)
earlier_once a b (inr (e, inr (g, h))) (inr (f, inr (d, k))) = omega (arith, h, k)

pub redexes_once : (sys : System) (u v : Term) (rs qs : List RedexPlace) → AreRedexes sys u v rs → AreRedexes sys u v qs → rs ≡ qs
redexes_once sys u v rs qs a b = sorted_once IsEarlierRedex earlier_once rs qs a.sorted b.sorted (λ r l. b.whole r (a.each r l)) (λ r l. a.whole r (b.each r l))
