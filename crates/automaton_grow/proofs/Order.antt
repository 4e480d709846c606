-- The order of transitions, and what keeps a list in it.
use Rattle.std.proofs.Common.{◌≡◌, ℕ, zero, suc, ◌<◌, ◌⊎◌, inl, inr, sym, ◌∙◌, subst, List, [], ◌∷◌, ◌++◌, take, drop, Option, Some, None, arith}
use Rattle.std.specs.Prelude.{slice_get}
use Rattle.rewriting.specs.Prelude.{IsBefore, IsBeforeAll, IsSorted}
use Rattle.rewriting.proofs.Before.{before_before}
use Rattle.certificates.specs.Evidence.{Transition}
use Rattle.automata.specs.Growth.{IsHeadBefore, IsTransitionBefore}
use Rattle.automaton_grow.specs.Placing.{AreBefore}

head_trans : (a b c : Option ℕ) → IsHeadBefore a b → IsHeadBefore b c → IsHeadBefore a c
head_trans (Some f) (Some g) (Some h) p q = omega arith
head_trans (Some f) (Some g) None p q = tt
head_trans (Some f) None c p q = absurd q
head_trans None b c p q = absurd p

pub before_trans : (a b c : Transition) → IsTransitionBefore a b → IsTransitionBefore b c → IsTransitionBefore a c
before_trans a b c (inl h) (inl k) = inl (head_trans a.symbol b.symbol c.symbol h k)
before_trans a b c (inl h) (inr (e, k)) = inl (subst (IsHeadBefore a.symbol) e h)
before_trans a b c (inr (e, h)) (inl k) = inl (subst (λ z. IsHeadBefore z c.symbol) (sym e) k)
before_trans a b c (inr (e, h)) (inr (f, k)) = inr (e ∙ f, go h k)
  where
    go : IsBefore a.arguments b.arguments ⊎ ((a.arguments ≡ b.arguments) × (a.target < b.target)) → IsBefore b.arguments c.arguments ⊎ ((b.arguments ≡ c.arguments) × (b.target < c.target))
        → IsBefore a.arguments c.arguments ⊎ ((a.arguments ≡ c.arguments) × (a.target < c.target))
    go (inl p) (inl q) = inl (before_before a.arguments b.arguments c.arguments p q)
    go (inl p) (inr (g, q)) = inl (subst (IsBefore a.arguments) g p)
    go (inr (g, p)) (inl q) = inl (subst (λ z. IsBefore z c.arguments) (sym g) q)
    go (inr (g, p)) (inr (i, q)) = inr (g ∙ i, omega arith)

pub before_all : (c d : Transition) (ds : List Transition) → IsTransitionBefore c d → IsBeforeAll IsTransitionBefore d ds → IsBeforeAll IsTransitionBefore c ds
before_all c d [] h k = tt
before_all c d (e ∷ ds) h (k, ks) = (before_trans c d e h k, before_all c d ds h ks)

-- one before all of a list in order comes before each of its members
before_at : (c : Transition) (ds : List Transition) (k : ℕ) (x : Transition) → IsBeforeAll IsTransitionBefore c ds → slice_get ds k ≡ Some x → IsTransitionBefore c x
before_at c [] k x h e = absurd (cc)
before_at c (d ∷ ds) zero x (h, hs) e = let same : d ≡ x = cc in subst (IsTransitionBefore c) same h
before_at c (d ∷ ds) (suc k) x (h, hs) e = before_at c ds k x hs e

-- in a list in order, those up to a smaller one are smaller, and those from a greater one on are greater
pub those_below : (ds : List Transition) (k : ℕ) (x d : Transition) → IsSorted IsTransitionBefore ds → slice_get ds k ≡ Some x → IsTransitionBefore x d → AreBefore (take (suc k) ds) d
those_below [] k x d sorted e h = tt
those_below (y ∷ ds) zero x d sorted e h = let same : x ≡ y = cc in (subst (λ z. IsTransitionBefore z d) same h, tt)
those_below (y ∷ ds) (suc k) x d (first, rest) e h = (before_trans y x d (before_at y ds k x first e) h, those_below ds k x d rest e h)

pub those_above : (ds : List Transition) (k : ℕ) (x d : Transition) → IsSorted IsTransitionBefore ds → slice_get ds k ≡ Some x → IsTransitionBefore d x → IsBeforeAll IsTransitionBefore d (drop k ds)
those_above [] k x d sorted e h = absurd (cc)
those_above (y ∷ ds) zero x d (first, rest) e h =
    let same : x ≡ y = cc in let less : IsTransitionBefore d y = subst (IsTransitionBefore d) same h in (less, before_all d y ds less first)
those_above (y ∷ ds) (suc k) x d (first, rest) e h = those_above ds k x d rest e h

before_inserted : (y d : Transition) (k : ℕ) (ds : List Transition) → IsBeforeAll IsTransitionBefore y ds → IsTransitionBefore y d → IsBeforeAll IsTransitionBefore y (take k ds ++ d ∷ drop k ds)
before_inserted y d zero ds h less = (less, h)
before_inserted y d (suc k) [] h less = (less, tt)
before_inserted y d (suc k) (x ∷ ds) (h, hs) less = (h, before_inserted y d k ds hs less)

-- put at its place it keeps the list in order
pub inserted_sorted : (d : Transition) (k : ℕ) (ds : List Transition) → IsSorted IsTransitionBefore ds → AreBefore (take k ds) d → IsBeforeAll IsTransitionBefore d (drop k ds)
    → IsSorted IsTransitionBefore (take k ds ++ d ∷ drop k ds)
inserted_sorted d zero ds sorted below above = (above, sorted)
inserted_sorted d (suc k) [] sorted below above = (tt, tt)
inserted_sorted d (suc k) (y ∷ ds) (first, rest) (below, belows) above = (before_inserted y d k ds first below, inserted_sorted d k ds rest belows above)
