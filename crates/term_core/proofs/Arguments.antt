-- Arguments as lists.
use Rattle.std.proofs.Common.{◌≡◌, ℕ, zero, suc, ◌<◌, List, [], ◌∷◌, ◌++◌, length, take, drop, None, refl, ap, arith}
use Rattle.rewriting.specs.Prelude.{Term, Terms, nil, cons, terms_of, argument, with_argument}

pub terms_of-injective : (ts us : List Term) → terms_of ts ≡ terms_of us → ts ≡ us
terms_of-injective [] [] e = refl
terms_of-injective [] (u ∷ us) e = cc
terms_of-injective (t ∷ ts) [] e = cc
terms_of-injective (t ∷ ts) (u ∷ us) e =
    let rest : ts ≡ us = terms_of-injective ts us cc in
    let first : t ≡ u = cc in
    cc

pub argument_past : (ts : List Term) (k : ℕ) → length ts < k → argument (terms_of ts) k ≡ None
argument_past [] k h = refl
argument_past (t ∷ ts) zero h = absurd (omega arith)
argument_past (t ∷ ts) (suc zero) h = absurd (omega arith)
argument_past (t ∷ ts) (suc (suc k)) h = argument_past ts (suc k) (omega arith)

pub argument_zero : (ts : Terms) → argument ts zero ≡ None
argument_zero nil = refl
argument_zero (cons t ts) = refl

pub with_argument-split : (ts : List Term) (i : ℕ) (u : Term) → i < length ts
    → with_argument (terms_of ts) (suc i) u ≡ terms_of (take i ts ++ u ∷ drop (suc i) ts)
with_argument-split [] i u h = absurd (omega arith)
with_argument-split (t ∷ ts) zero u h = refl
with_argument-split (t ∷ ts) (suc i) u h = ap (cons t) (with_argument-split ts i u (omega arith))
