-- What is found can be written.
use Rattle.std.proofs.Common.{ℕ, List, [], ◌∷◌, inl, inr}
use Rattle.rewriting.specs.Rules.{System}
use Rattle.certificates.specs.Certificates.{Simplification, Certificate}
use Rattle.cops_names.specs.NameTable.{NameTable}
use Rattle.search_spaces.specs.Texts.{HasText}
use Rattle.search_spaces.specs.PeakItems.{PeakItem, make_listing, try_ends, GivesPeak}
use Rattle.quasi_space.specs.Measures.{each_measure}
use Rattle.quasi_space.specs.AllSpaces.{all_spaces}
use Rattle.proof_spaces.specs.Proofs.{if_some}
use Rattle.proof_spaces.specs.Laws.{ProofsHaveTexts}

module _ (names : NameTable) where
  peak_text : (sys : System) (item : PeakItem) (c : Certificate) → GivesPeak names sys item c → HasText names c
  peak_text sys (make_listing n) c h = absurd h.0
  peak_text sys (try_ends t x y) c h = h.0.1

  own_text : (sys : System) (c : Certificate) (n : ℕ) → (all_spaces names sys).Finds c n → HasText names c
  own_text sys c n (inl (inl f)) = f.text
  own_text sys c n (inl (inr (b, (i, j, x, f, e)))) = peak_text sys f.first.item c f.first.gives
  own_text sys c n (inr (b, (i, j, x, f, e))) = f.text

  text_if : (steps : List Simplification) (last : System) (c : Certificate) (n : ℕ) → (if_some each_measure names steps last).Finds c n → HasText names c
  text_if [] last c n f = absurd f
  text_if (s ∷ steps) last c n (inl (inl f)) = f.3
  text_if (s ∷ steps) last c n (inl (inr (b, (i, j, x, f, e)))) = f.3
  text_if (s ∷ steps) last c n (inr (b, (i, j, x, f, e))) = f.3

pub proofs_have_texts : ProofsHaveTexts
proofs_have_texts names sys c n (inl f) = own_text names sys c n f
proofs_have_texts names sys c n (inr (b, (i, j, x, (y, a, k, is, f, g), e))) = text_if names y.steps y.last c k f
