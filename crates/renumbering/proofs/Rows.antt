-- Rows of variables that grow.
use Rattle.std.proofs.Common.{zero, suc, ◌≡◌, refl, ap, eq-eqb, eqb-true, arith}
use Rattle.std.proofs.Common.{ℕ, ◌<◌, ◌≤◌, ◌^◌, ◌⊎◌, inl, inr, Bool, true, false, if◌then◌else◌, nat_eq, List, [], ◌∷◌, ◌++◌, length, get_or, sym, subst}
use Rattle.std.specs.List.{IsDistinct, list_any}
use Rattle.std.proofs.lemmas.Map.Steps.{length-le_from_distinct_below}
use Rattle.rewriting.specs.Prelude.{with_new, IsAmong, AreDistinct, index_in}
use Rattle.rewriting.proofs.Lists.{among_either}
use Rattle.rewriting.proofs.Variables.{among_of_any, new_distinct}
use Rattle.renumbering.specs.Rows.{IsRow}

-- a row with one more variable is a row
pub row_new : (xs : List ℕ) (y : ℕ) → y < 2 ^ 32 → IsRow xs → IsRow (with_new xs y)
row_new xs y low row = record { distinct = new_distinct xs y row.distinct; small = go (list_any (nat_eq y) xs) }
  where
    last : (x : ℕ) → IsAmong x xs ⊎ IsAmong x (y ∷ []) → x < 2 ^ 32
    last x (inl a) = row.small x a
    last x (inr (inl e)) = subst (λ z. z < 2 ^ 32) (sym e) low
    last x (inr (inr a)) = absurd a

    go : (b : Bool) (x : ℕ) → IsAmong x (if b then xs else (xs ++ y ∷ [])) → x < 2 ^ 32
    go true x a = row.small x a
    go false x a = last x (among_either x xs (y ∷ []) a)

-- so its places have 32 bits
pub row_length : (xs : List ℕ) → IsRow xs → IsDistinct nat_eq xs → length xs ≤ 2 ^ 32
row_length xs row unique = length-le_from_distinct_below xs (2 ^ 32) unique (λ q h. row.small q (among_of_any q xs h))

-- the place of a number of the row
pub index_at : (row : List ℕ) → AreDistinct row → (m : ℕ) → m < length row → index_in row (get_or row m 0) ≡ m
index_at [] d m h = absurd (omega (arith, h))
index_at (x ∷ row) d zero h = rw (eq-eqb x x refl) refl
index_at (x ∷ row) d (suc m) h = go (nat_eq (get_or row m 0) x) refl (index_at row d.1 m (omega (arith, h)))
  where
    there : (ys : List ℕ) (k : ℕ) → k < length ys → IsAmong (get_or ys k 0) ys
    there [] k l = absurd (omega (arith, l))
    there (y ∷ ys) zero l = inl refl
    there (y ∷ ys) (suc k) l = inr (there ys k (omega (arith, l)))

    go : (b : Bool) → nat_eq (get_or row m 0) x ≡ b → index_in row (get_or row m 0) ≡ m → index_in (x ∷ row) (get_or row m 0) ≡ suc m
    go true e later = absurd (d.0 (subst (λ z. IsAmong z row) (eqb-true (get_or row m 0) x e) (there row m (omega (arith, h)))))
    go false e later = rw e (ap suc later)
