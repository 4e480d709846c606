-- The place of the first member that passes a test, and lists that begin with a list.
use Prim.Native.Nat.compare
use lib.Dec.{is_le}
use Rattle.std.proofs.Common.{◌≡◌, ℕ, suc, Bool, true, false, cond, List, [], ◌∷◌, ◌++◌, length, Option, Some, None, refl, sym, ap, ◌∙◌, arith, append_assoc, append-nil, lt-ltb}
use Rattle.std.specs.Prelude.{position, option_map, nat_lt, slice_get, if◌then◌else◌}
use Rattle.std.specs.List.{position_or_len, list_any}
use Rattle.general_lemmas.proofs.Places.{slice_get_longer}

-- the second list begins with the first
pub record Extends {A : Type 0} (xs ys : List A) : Type 0 where
  pub rest : List A
  pub split : ys ≡ xs ++ rest

lt_suc : (m n : ℕ) → nat_lt (suc m) (suc n) ≡ nat_lt m n
lt_suc m n = ap is_le (compare.suc-suc (suc m) n)

module _ {A : Type 0} (p : A → Bool) where
  or_len_here : (x : A) (xs : List A) → p x ≡ true → position_or_len p (x ∷ xs) ≡ 0
  or_len_here x xs h = rw h refl

  or_len_later : (x : A) (xs : List A) → p x ≡ false → position_or_len p (x ∷ xs) ≡ suc (position_or_len p xs)
  or_len_later x xs h = rw h (omega arith)

  pub position_here : (x : A) (xs : List A) → p x ≡ true → position p (x ∷ xs) ≡ Some 0
  position_here x xs h =
      ap (λ (m : ℕ). cond (nat_lt m (suc (length xs))) (Some m) None) (or_len_here x xs h)
      ∙ ap (λ (b : Bool). cond b (Some 0) None) (lt-ltb 0 (suc (length xs)) (omega arith))

  pub position_later : (x : A) (xs : List A) → p x ≡ false → position p (x ∷ xs) ≡ option_map (λ i. suc i) (position p xs)
  position_later x xs h =
      ap (λ (m : ℕ). cond (nat_lt m (suc (length xs))) (Some m) None) (or_len_later x xs h)
      ∙ ap (λ (b : Bool). cond b (Some (suc (position_or_len p xs))) None) (lt_suc (position_or_len p xs) (length xs))
      ∙ by (nat_lt (position_or_len p xs) (length xs))
    where
      by : (b : Bool) → cond b (Some (suc (position_or_len p xs))) None ≡ option_map (λ i. suc i) (cond b (Some (position_or_len p xs)) None)
      by true = refl
      by false = refl

  -- a member that is found is found in a longer list
  pub position_append : (xs ys : List A) (i : ℕ) → position p xs ≡ Some i → position p (xs ++ ys) ≡ Some i
  position_append [] ys i e = cc
  position_append (x ∷ xs) ys i e = by (λ j o. position_append xs ys j o) (p x) refl
    where
      later : ((j : ℕ) → position p xs ≡ Some j → position p (xs ++ ys) ≡ Some j) → (o : Option ℕ) → position p xs ≡ o → p x ≡ false
          → option_map (λ i. suc i) o ≡ Some i → position p ((x ∷ xs) ++ ys) ≡ Some i
      later again None o h f = cc
      later again (Some j) o h f = position_later x (xs ++ ys) h ∙ ap (option_map (λ (i : ℕ). suc i)) (again j o) ∙ f

      by : ((j : ℕ) → position p xs ≡ Some j → position p (xs ++ ys) ≡ Some j) → (b : Bool) → p x ≡ b → position p ((x ∷ xs) ++ ys) ≡ Some i
      by again true h = position_here x (xs ++ ys) h ∙ sym (position_here x xs h) ∙ e
      by again false h = later again (position p xs) refl h (sym (position_later x xs h) ∙ e)

  -- a member that passes behind members that do not is found at its place
  pub position_end : (xs : List A) (x : A) (ys : List A) → list_any p xs ≡ false → p x ≡ true → position p (xs ++ x ∷ ys) ≡ Some (length xs)
  position_end [] x ys n h = position_here x ys h
  position_end (z ∷ xs) x ys n h = by (λ m. position_end xs x ys m h) (p z) refl
    where
      by : (list_any p xs ≡ false → position p (xs ++ x ∷ ys) ≡ Some (length xs)) → (b : Bool) → p z ≡ b → position p ((z ∷ xs) ++ x ∷ ys) ≡ Some (suc (length xs))
      by again true g = absurd (let wrong = rw g at n in cc)
      by again false g = position_later z (xs ++ x ∷ ys) g ∙ ap (option_map (λ (i : ℕ). suc i)) (again (rw g at n))

  pub position_of_any : (xs : List A) → list_any p xs ≡ true → position p xs ≡ Some (position_or_len p xs)
  position_of_any [] n = cc
  position_of_any (z ∷ xs) n = by (λ m. position_of_any xs m) (p z) refl
    where
      by : (list_any p xs ≡ true → position p xs ≡ Some (position_or_len p xs)) → (b : Bool) → p z ≡ b → position p (z ∷ xs) ≡ Some (position_or_len p (z ∷ xs))
      by again true g = position_here z xs g ∙ ap Some (sym (or_len_here z xs g))
      by again false g = position_later z xs g ∙ ap (option_map (λ (i : ℕ). suc i)) (again (rw g at n)) ∙ ap Some (sym (or_len_later z xs g))

  pub or_len_of_none : (xs : List A) → list_any p xs ≡ false → position_or_len p xs ≡ length xs
  or_len_of_none [] n = refl
  or_len_of_none (z ∷ xs) n = by (λ m. or_len_of_none xs m) (p z) refl
    where
      by : (list_any p xs ≡ false → position_or_len p xs ≡ length xs) → (b : Bool) → p z ≡ b → position_or_len p (z ∷ xs) ≡ suc (length xs)
      by again true g = absurd (let wrong = rw g at n in cc)
      by again false g = or_len_later z xs g ∙ ap suc (again (rw g at n))

pub extends_refl : {A : Type 0} (xs : List A) → Extends xs xs
extends_refl xs = record { rest = []; split = sym (append-nil xs) }

pub extends_trans : {A : Type 0} (xs ys zs : List A) → Extends xs ys → Extends ys zs → Extends xs zs
extends_trans xs ys zs e f = record { rest = e.rest ++ f.rest; split = f.split ∙ ap (λ (ws : List _). ws ++ f.rest) e.split ∙ append_assoc xs e.rest f.rest }

pub extends_one : {A : Type 0} (b : Bool) (xs : List A) (x : A) → Extends xs (if b then xs else (xs ++ x ∷ []))
extends_one true xs x = extends_refl xs
extends_one false xs x = record { rest = x ∷ []; split = refl }

pub extends_position : {A : Type 0} (p : A → Bool) (xs ys : List A) (i : ℕ) → Extends xs ys → position p xs ≡ Some i → position p ys ≡ Some i
extends_position p xs ys i e h = ap (position p) e.split ∙ position_append p xs e.rest i h

pub extends_get : {A : Type 0} (xs ys : List A) (i : ℕ) (x : A) → Extends xs ys → slice_get xs i ≡ Some x → slice_get ys i ≡ Some x
extends_get xs ys i x e h = ap (λ (ws : List _). slice_get ws i) e.split ∙ slice_get_longer xs e.rest i x h
