-- What comparisons tell.
use Rattle.std.proofs.Common.{◌≡◌, ℕ, ◌<◌, true, List, [], ◌∷◌, Ordering, nat_cmp, refl, ap, sym, ◌∙◌}
use Rattle.std.specs.Ordering.{is_eq, ordering_then}
use Rattle.std.specs.Cmp.Lexicographic.{slice_cmp}
use Rattle.std.specs.declared.cmp.Ordering.TheVariants.{Less, Equal, Greater}
use Rattle.std.proofs.lemmas.Cmp.{ranked, by_ranked}

pub same_of : (xs ys : List ℕ) → slice_cmp nat_cmp xs ys ≡ Equal → xs ≡ ys
same_of [] [] e = refl
same_of [] (y ∷ ys) e = absurd (cc)
same_of (x ∷ xs) [] e = absurd (cc)
same_of (x ∷ xs) (y ∷ ys) e =
    by_ranked (x < y) (x ≡ y) (y < x) (nat_cmp x y) (ranked x y (nat_cmp x y) refl)
    (λ o p. let bad : Less ≡ Equal = sym (ap (λ (r : Ordering). ordering_then r (slice_cmp nat_cmp xs ys)) o) ∙ e in absurd (cc))
    (λ o p. let rest : xs ≡ ys = same_of xs ys (sym (ap (λ (r : Ordering). ordering_then r (slice_cmp nat_cmp xs ys)) o) ∙ e) in cc)
    (λ o p. let bad : Greater ≡ Equal = sym (ap (λ (r : Ordering). ordering_then r (slice_cmp nat_cmp xs ys)) o) ∙ e in absurd (cc))

pub equal_of : (p q : ℕ) → nat_cmp p q ≡ Equal → p ≡ q
equal_of p q e =
    by_ranked (p < q) (p ≡ q) (q < p) (nat_cmp p q) (ranked p q (nat_cmp p q) refl)
    (λ o h. let bad : Less ≡ Equal = sym o ∙ e in absurd (cc)) (λ o h. h)
    (λ o h. let bad : Greater ≡ Equal = sym o ∙ e in absurd (cc))

pub is_eq_of : (o : Ordering) → is_eq o ≡ true → o ≡ Equal
is_eq_of Less e = absurd (cc)
is_eq_of Equal e = refl
is_eq_of Greater e = absurd (cc)
