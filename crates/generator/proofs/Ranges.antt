-- Lists that are made number by number.
use Rattle.std.proofs.Common.{◌≡◌, ℕ, zero, suc, ◌+◌, List, ◌++◌, sym, ap, ◌∙◌, arith, append_assoc, append-nil}
use Rattle.std.specs.Prelude.{flat_map}
use Rattle.std.specs.List.{range_with_len}

range_behind : {A : Type 0} (f : ℕ → List A) (a n j : ℕ) → a + n ≡ j → flat_map f (range_with_len a (suc n)) ≡ flat_map f (range_with_len a n) ++ f j
range_behind f a zero j e = let same : a ≡ j = omega arith in append-nil (f a) ∙ ap f same
range_behind f a (suc n) j e =
    ap (λ (xs : List _). f a ++ xs) (range_behind f (a + 1) n j (omega arith)) ∙ sym (append_assoc (f a) (flat_map f (range_with_len (a + 1) n)) (f j))

pub one_number_more : {A : Type 0} (f : ℕ → List A) (a n j m : ℕ) → a + n ≡ j → suc n ≡ m → flat_map f (range_with_len a m) ≡ flat_map f (range_with_len a n) ++ f j
one_number_more f a n j m e g = ap (λ (i : ℕ). flat_map f (range_with_len a i)) (sym g) ∙ range_behind f a n j e
