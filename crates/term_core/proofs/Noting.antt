-- Variables that are noted one after another.
use Rattle.std.proofs.Common.{◌≡◌, ℕ, zero, suc, ◌+◌, ◌≤◌, ◌<◌, ◌⊎◌, inl, inr, List, [], ◌∷◌, take, get_or, length, arith, BTreeSet, nat_cmp, add-one}
use Rattle.std.specs.BTreeSet.{contains}
use Rattle.general_lemmas.proofs.Numbers.{le_or_lt}
use Rattle.rewriting.specs.Variables.{occurrences, occurrences_in}
use Rattle.term_core.specs.View.{view, views}
use Rattle.term_core.specs.declared.terms.Term.{Term}
use Rattle.term_core.specs.Noting.{among, AreNoted}
use Rattle.term_core.proofs.Counting.{bit_small}

pub nothing_noted : (s r : BTreeSet ℕ) → AreNoted (λ x. 0) s s r r
nothing_noted s r = record {
  seen = λ x h. omega (arith, h);
  kept = λ x. omega arith;
  twice = λ x h. absurd (omega (arith, h, bit_small (contains nat_cmp s x)));
}

pub noted_then : (f g h : ℕ → ℕ) (s t u r q p : BTreeSet ℕ) → ((x : ℕ) → h x ≡ f x + g x) → AreNoted f s t r q → AreNoted g t u q p → AreNoted h s u r p
noted_then f g h s t u r q p is a b = record {
  seen = λ x k. first x k (le_or_lt 1 (among s x + f x));
  kept = λ x. omega (arith, a.kept x, b.kept x);
  twice = λ x k. second x k (le_or_lt 2 (among s x + f x)) (le_or_lt 1 (among s x + f x));
}
  where
    first : (x : ℕ) → 1 ≤ among s x + h x → (1 ≤ among s x + f x) ⊎ (among s x + f x < 1) → 1 ≤ among u x
    first x k (inl l) = b.seen x (omega (arith, a.seen x l))
    first x k (inr l) = b.seen x (omega (arith, k, l, is x))

    second : (x : ℕ) → 2 ≤ among s x + h x → (2 ≤ among s x + f x) ⊎ (among s x + f x < 2) → (1 ≤ among s x + f x) ⊎ (among s x + f x < 1) → 1 ≤ among p x
    second x k (inl l) m = omega (arith, a.twice x l, b.kept x)
    second x k (inr l) (inl m) = b.twice x (omega (arith, a.seen x m, k, l, is x))
    second x k (inr l) (inr m) = b.twice x (omega (arith, k, m, is x))

pub counted_take : (ts : List Term) (i : ℕ) (t : Term) → i < length ts → t ≡ get_or ts i t → (x : ℕ)
    → occurrences_in x (views (take (i + 1) ts)) ≡ occurrences_in x (views (take i ts)) + occurrences x (view t)
counted_take ts i t h e x = rw add-one (go ts i h e)
  where
    go : (us : List Term) (k : ℕ) → k < length us → t ≡ get_or us k t → occurrences_in x (views (take (suc k) us)) ≡ occurrences_in x (views (take k us)) + occurrences x (view t)
    go [] k h e = absurd (omega (arith, h))
    go (u ∷ us) zero h e = rw (← e) (omega arith)
    go (u ∷ us) (suc k) h e = (let rest = go us k (omega (arith, h)) e in omega (arith, rest))
