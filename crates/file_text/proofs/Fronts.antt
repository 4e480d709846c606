-- What follows from the kind of a token at the front.
use Rattle.std.proofs.Common.{◌≡◌, ℕ, ◌<◌, ◌≤◌, Bool, true, false, cond, eqb, List, [], ◌∷◌, length, Option, Some, None, refl, sym, arith}
use Rattle.file_text.specs.declared.Kind.{Kind}
use Rattle.file_text.specs.declared.Kind.TheVariants.{Id, LeftParen, RightParen, Comma, Bar, Arrow, Equal}
use Rattle.file_text.specs.Bytes.{is_id, begins_arrow, begins_equal}
use Rattle.file_text.proofs.Names.{id_runs, run_within}
use Rattle.file_text.specs.Tokens.{kind_at, len_at}

pub kind_some : (bytes : List ℕ) (k : Kind) → kind_at bytes ≡ Some k → 0 < length bytes
kind_some [] k e = absurd cc
kind_some (b ∷ bs) k e = omega arith

abbrev sign : Bool → Bool → Bool → Option Kind
sign a e i = cond a (Some Arrow) (cond e (Some Equal) (cond i (Some Id) None))

abbrev chosen : Bool → Bool → Bool → Bool → Option Kind → Option Kind
chosen p q r s k = cond p (Some LeftParen) (cond q (Some RightParen) (cond r (Some Comma) (cond s (Some Bar) k)))

-- a kind of none of the first four
chosen_last : (p q r s : Bool) (k : Option Kind) (l : Kind) → (Some l ≡ Some LeftParen → ⊥) → (Some l ≡ Some RightParen → ⊥) → (Some l ≡ Some Comma → ⊥) → (Some l ≡ Some Bar → ⊥)
    → chosen p q r s k ≡ Some l → k ≡ Some l
chosen_last true q r s k l a b c d e = absurd (a (sym e))
chosen_last false true r s k l a b c d e = absurd (b (sym e))
chosen_last false false true s k l a b c d e = absurd (c (sym e))
chosen_last false false false true k l a b c d e = absurd (d (sym e))
chosen_last false false false false k l a b c d e = e

sign_arrow : (a e i : Bool) → sign a e i ≡ Some Arrow → a ≡ true
sign_arrow true e i h = refl
sign_arrow false true i h = absurd cc
sign_arrow false false true h = absurd cc
sign_arrow false false false h = absurd cc

sign_equal : (a e i : Bool) → sign a e i ≡ Some Equal → e ≡ true
sign_equal true e i h = absurd cc
sign_equal false true i h = refl
sign_equal false false true h = absurd cc
sign_equal false false false h = absurd cc

two_arrow : (bytes : List ℕ) → begins_arrow bytes ≡ true → 2 ≤ length bytes
two_arrow [] e = absurd cc
two_arrow (a ∷ []) e = absurd cc
two_arrow (a ∷ b ∷ bs) e = omega arith

two_equal : (bytes : List ℕ) → begins_equal bytes ≡ true → 2 ≤ length bytes
two_equal [] e = absurd cc
two_equal (a ∷ []) e = absurd cc
two_equal (a ∷ b ∷ bs) e = omega arith

pub arrow_two : (bytes : List ℕ) → kind_at bytes ≡ Some Arrow → 2 ≤ length bytes
arrow_two [] e = absurd cc
arrow_two (b ∷ bs) e =
    let k = sign (begins_arrow (b ∷ bs)) (begins_equal (b ∷ bs)) (is_id b) in
    two_arrow (b ∷ bs) (sign_arrow (begins_arrow (b ∷ bs)) (begins_equal (b ∷ bs)) (is_id b)
    (chosen_last (eqb b 40) (eqb b 41) (eqb b 44) (eqb b 124) k Arrow (λ h. cc) (λ h. cc) (λ h. cc) (λ h. cc) e))

pub equal_two : (bytes : List ℕ) → kind_at bytes ≡ Some Equal → 2 ≤ length bytes
equal_two [] e = absurd cc
equal_two (b ∷ bs) e =
    let k = sign (begins_arrow (b ∷ bs)) (begins_equal (b ∷ bs)) (is_id b) in
    two_equal (b ∷ bs) (sign_equal (begins_arrow (b ∷ bs)) (begins_equal (b ∷ bs)) (is_id b)
    (chosen_last (eqb b 40) (eqb b 41) (eqb b 44) (eqb b 124) k Equal (λ h. cc) (λ h. cc) (λ h. cc) (λ h. cc) e))

-- a token has some bytes, and they are there
pub kind_fits : (bytes : List ℕ) (k : Kind) → kind_at bytes ≡ Some k → (0 < len_at k bytes) × (len_at k bytes ≤ length bytes)
kind_fits bytes Id e = (id_runs bytes e, run_within bytes)
kind_fits bytes LeftParen e = (omega arith, omega (arith, kind_some bytes LeftParen e))
kind_fits bytes RightParen e = (omega arith, omega (arith, kind_some bytes RightParen e))
kind_fits bytes Comma e = (omega arith, omega (arith, kind_some bytes Comma e))
kind_fits bytes Bar e = (omega arith, omega (arith, kind_some bytes Bar e))
kind_fits bytes Arrow e = (omega arith, arrow_two bytes e)
kind_fits bytes Equal e = (omega arith, equal_two bytes e)
