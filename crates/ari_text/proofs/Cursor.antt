-- The next word of a list.
use Rattle.std.proofs.Common.{◌≡◌, ℕ, zero, suc, ◌+◌, ◌<◌, List, [], ◌∷◌, length, get_or, drop, refl, ap, arith, add-one, subst}
use Rattle.ari_text.specs.declared.words.Word.{Word}
use Rattle.ari_text.specs.Signs.{sign_of, signs_of}

taken : (ws : List Word) (at : ℕ) (w : Word) → at < length ws → w ≡ get_or ws at w → drop at (signs_of ws) ≡ sign_of w ∷ drop (suc at) (signs_of ws)
taken [] at w lt e = absurd (omega arith)
taken (x ∷ xs) zero w lt e = ap (λ (y : Word). sign_of y ∷ signs_of xs) (sym_of e)
  where
    sym_of : {a b : Word} → a ≡ b → b ≡ a
    sym_of h = rw h refl
taken (x ∷ xs) (suc at) w lt e = taken xs at w (omega arith) e

pub next_word : (ws vs : List Word) (at : ℕ) (w : Word) → vs ≡ ws → at < length vs → w ≡ get_or vs at w → drop at (signs_of ws) ≡ sign_of w ∷ drop (at + 1) (signs_of ws)
next_word ws vs at w q lt e = subst (λ (us : List Word). drop at (signs_of us) ≡ sign_of w ∷ drop (at + 1) (signs_of us)) q (rw add-one (taken vs at w lt e))
