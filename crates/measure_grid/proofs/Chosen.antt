-- Lists that have a member of each of some first lists.
use Rattle.std.proofs.Common.{◌≡◌, ◌+◌, List, [], ◌∷◌, ◌++◌, length, slice_get, Some, subst, arith}
use Rattle.rewriting.specs.Lists.{IsAmong}

-- a member of each list but of those that are left behind
abbrev pub AreChosen : {X : Type 0} → List X → List (List X) → List (List X) → Type 0
AreChosen [] lists behind = behind ≡ lists
AreChosen (x ∷ xs) [] behind = ⊥
AreChosen (x ∷ xs) (l ∷ lists) behind = IsAmong x l × AreChosen xs lists behind

module _ {X : Type 0} where
  pub chosen_last : (xs : List X) (lists : List (List X)) (l : List X) (behind : List (List X)) (x : X) → AreChosen xs lists (l ∷ behind) → IsAmong x l → AreChosen (xs ++ x ∷ []) lists behind
  chosen_last [] [] l behind x e a = absurd (cc)
  chosen_last [] (m ∷ lists) l behind x e a = let same : l ≡ m = cc in (subst (IsAmong x) same a, cc)
  chosen_last (y ∷ xs) [] l behind x h a = absurd h
  chosen_last (y ∷ xs) (m ∷ lists) l behind x (h, hs) a = (h, chosen_last xs lists l behind x hs a)

  pub chosen_next : (xs : List X) (lists : List (List X)) (l : List X) (behind : List (List X)) → AreChosen xs lists (l ∷ behind) → slice_get lists (length xs) ≡ Some l
  chosen_next [] [] l behind e = absurd (cc)
  chosen_next [] (m ∷ lists) l behind e = cc
  chosen_next (y ∷ xs) [] l behind h = absurd h
  chosen_next (y ∷ xs) (m ∷ lists) l behind (h, hs) = chosen_next xs lists l behind hs

  pub chosen_length : (xs : List X) (lists behind : List (List X)) → AreChosen xs lists behind → length xs + length behind ≡ length lists
  chosen_length [] lists behind e = subst (λ (z : List (List X)). 0 + length behind ≡ length z) e (omega arith)
  chosen_length (x ∷ xs) [] behind h = absurd h
  chosen_length (x ∷ xs) (l ∷ lists) behind (h, hs) = let rest = chosen_length xs lists behind hs in omega (arith, rest)
