-- Two to five words, some of which are known.
use Rattle.std.proofs.Common.{◌≡◌, ℕ, ◌<◌, ◌≤◌, Bool, true, false, List, [], ◌∷◌, length, get_or, refl, sym, ap, ap₂, ◌∙◌, arith}
use Rattle.std.specs.Borrow.{Bor}
use Rattle.std.specs.Prelude.{not}
use Rattle.std.specs.Str.{bytes_eq}
use Rattle.std.proofs.lemmas.Slice.Eq.{bytes_eq-Decides}
use Rattle.std.proofs.lemmas.List.{get_or-map}
use Rattle.run_parts.specs.Words.{texts}

is_true : (b : Bool) → false ≡ not b → b ≡ true
is_true true h = refl
is_true false h = cc

is_false : (b : Bool) → true ≡ not b → b ≡ true → ⊥
is_false true h k = cc
is_false false h k = cc

same_word : (word known : List ℕ) → false ≡ not (bytes_eq word known) → word ≡ known
same_word word known h = (bytes_eq-Decides word known).0 (is_true (bytes_eq word known) h)

-- where the word at a place is another one, the words are none with the known one there
pub other_word : (ws : List (Bor (List ℕ))) (d : Bor (List ℕ)) (i : ℕ) (known : List ℕ) (all : List (List ℕ)) → i < length ws
    → true ≡ not (bytes_eq (get_or ws i d).now known) → get_or all i [] ≡ known → texts ws ≡ all → ⊥
other_word ws d i known all lt h at e =
    is_false (bytes_eq (get_or ws i d).now known) h
    ((bytes_eq-Decides (get_or ws i d).now known).1 (sym (get_or-map (λ (w : Bor (List ℕ)). w.now) ws i d [] lt) ∙ ap (λ (l : List (List ℕ)). get_or l i []) e ∙ at))

pub two_words : (ws : List (Bor (List ℕ))) (d : Bor (List ℕ)) (command : List ℕ) → 2 ≤ length ws → length ws < 3 → false ≡ not (bytes_eq (get_or ws 0 d).now command)
    → texts ws ≡ command ∷ (get_or ws 1 d).now ∷ []
two_words (a ∷ b ∷ []) d command le lt h = ap (λ (w : List ℕ). w ∷ b.now ∷ []) (same_word a.now command h)
two_words _ d command le lt h = absurd (omega arith)

pub three_words : (ws : List (Bor (List ℕ))) (d : Bor (List ℕ)) (command : List ℕ) → 3 ≤ length ws → length ws < 4 → false ≡ not (bytes_eq (get_or ws 0 d).now command)
    → texts ws ≡ command ∷ (get_or ws 1 d).now ∷ (get_or ws 2 d).now ∷ []
three_words (a ∷ b ∷ c ∷ []) d command le lt h = ap (λ (w : List ℕ). w ∷ b.now ∷ c.now ∷ []) (same_word a.now command h)
three_words _ d command le lt h = absurd (omega arith)

-- of four words the third, or the last, is known too
module _ (d : Bor (List ℕ)) (command option : List ℕ) where
  pub four_words : (ws : List (Bor (List ℕ))) → 4 ≤ length ws → length ws < 5 → false ≡ not (bytes_eq (get_or ws 0 d).now command)
      → false ≡ not (bytes_eq (get_or ws 2 d).now option) → texts ws ≡ command ∷ (get_or ws 1 d).now ∷ option ∷ (get_or ws 3 d).now ∷ []
  four_words (a ∷ b ∷ c ∷ e ∷ []) le lt h k = ap₂ (λ (w v : List ℕ). w ∷ b.now ∷ v ∷ e.now ∷ []) (same_word a.now command h) (same_word c.now option k)
  four_words _ le lt h k = absurd (omega arith)

  pub four_words_last : (ws : List (Bor (List ℕ))) → 4 ≤ length ws → length ws < 5 → false ≡ not (bytes_eq (get_or ws 0 d).now command)
      → false ≡ not (bytes_eq (get_or ws 3 d).now option) → texts ws ≡ command ∷ (get_or ws 1 d).now ∷ (get_or ws 2 d).now ∷ option ∷ []
  four_words_last (a ∷ b ∷ c ∷ e ∷ []) le lt h k = ap₂ (λ (w v : List ℕ). w ∷ b.now ∷ c.now ∷ v ∷ []) (same_word a.now command h) (same_word e.now option k)
  four_words_last _ le lt h k = absurd (omega arith)

  -- of five words the fourth is known too
  pub five_words : (ws : List (Bor (List ℕ))) → 5 ≤ length ws → length ws < 6 → false ≡ not (bytes_eq (get_or ws 0 d).now command)
      → false ≡ not (bytes_eq (get_or ws 3 d).now option) → texts ws ≡ command ∷ (get_or ws 1 d).now ∷ (get_or ws 2 d).now ∷ option ∷ (get_or ws 4 d).now ∷ []
  five_words (a ∷ b ∷ c ∷ e ∷ f ∷ []) le lt h k = ap₂ (λ (w v : List ℕ). w ∷ b.now ∷ c.now ∷ v ∷ f.now ∷ []) (same_word a.now command h) (same_word e.now option k)
  five_words _ le lt h k = absurd (omega arith)
