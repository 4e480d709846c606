-- Which words the bytes of a text spell.
use Rattle.std.specs.Prelude.{◌≡◌, ℕ, Bool, true, false, List, [], ◌∷◌, ◌++◌, ◌==◌, ◌&&◌, ◌||◌, not, nat_lt}
use Rattle.file_text.specs.Bytes.{is_white}
use Rattle.ari_text.specs.Signs.{Sign, opening, closing, name, odd, IsSpelt}

-- printable, and none of ( ) ; | "
abbrev pub is_bare : ℕ → Bool
is_bare b = nat_lt 32 b && nat_lt b 127 && not ((b == 40) || (b == 41) || (b == 59) || (b == 124) || (b == 34))

abbrev pub AreBare : List ℕ → Type 0
AreBare [] = Unit {0}
AreBare (b ∷ bs) = (is_bare b ≡ true) × AreBare bs

abbrev pub begins_bare : List ℕ → Bool
begins_bare [] = false
begins_bare (b ∷ bs) = is_bare b

-- none of these bytes is that one
abbrev pub AreNot : ℕ → List ℕ → Type 0
AreNot a [] = Unit {0}
AreNot a (b ∷ bs) = (b ≡ a → ⊥) × AreNot a bs

-- a line or the text ends here
abbrev pub ends_line : List ℕ → Bool
ends_line [] = true
ends_line (b ∷ bs) = b == 10

-- a name that the other text can spell is itself; any may be passed as another word, which stands in no rule
abbrev pub IsSignOf : List ℕ → Sign → Type 0
IsSignOf f opening = ⊥
IsSignOf f closing = ⊥
IsSignOf f (name g) = (g ≡ f) × IsSpelt f
IsSignOf f odd = Unit {0}

-- The bytes spell these words: white space, ; with the rest of its line, brackets, names, |..|, and ".." stand one behind the other.
pub data Spell : List ℕ → List Sign → Type 0 where
  end_of_text : Spell [] []
  white_byte : (b : ℕ) (bs : List ℕ) (ws : List Sign) → is_white b ≡ true → Spell bs ws → Spell (b ∷ bs) ws
  line_comment : (cs bs : List ℕ) (ws : List Sign) → AreNot 10 cs → ends_line bs ≡ true → Spell bs ws → Spell (59 ∷ (cs ++ bs)) ws
  left_bracket : (bs : List ℕ) (ws : List Sign) → Spell bs ws → Spell (40 ∷ bs) (opening ∷ ws)
  right_bracket : (bs : List ℕ) (ws : List Sign) → Spell bs ws → Spell (41 ∷ bs) (closing ∷ ws)
  bare_name : (f bs : List ℕ) (w : Sign) (ws : List Sign) → AreBare f → begins_bare bs ≡ false → IsSignOf f w → Spell bs ws → Spell (f ++ bs) (w ∷ ws)
  barred_name : (f bs : List ℕ) (w : Sign) (ws : List Sign) → AreNot 124 f → IsSignOf f w → Spell bs ws → Spell (124 ∷ (f ++ 124 ∷ bs)) (w ∷ ws)
  quoted_text : (cs bs : List ℕ) (ws : List Sign) → AreNot 34 cs → Spell bs ws → Spell (34 ∷ (cs ++ 34 ∷ bs)) (odd ∷ ws)
