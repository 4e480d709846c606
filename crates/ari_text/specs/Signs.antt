-- Words of a text without their places.
use Rattle.std.specs.Prelude.{◌≡◌, ◌<◌, ◌≤◌, ℕ, List, [], ◌∷◌, map, length}
use Rattle.file_text.specs.Bytes.{run_len}
use Rattle.file_text.specs.Tokens.{longest}
use Rattle.ari_text.specs.declared.words.Word.{Word}
use Rattle.ari_text.specs.declared.words.Word.TheVariants.{Open, Close, Id, Odd, Quoted}

-- a bracket, a name that the other text can spell, or another word
pub data Sign : Type 0 where
  opening : Sign
  closing : Sign
  name : List ℕ → Sign
  odd : Sign

abbrev pub sign_of : Word → Sign
sign_of (Open at) = opening
sign_of (Close at) = closing
sign_of (Id n) = name n.text.now
sign_of (Odd at) = odd
sign_of (Quoted at) = odd

abbrev pub signs_of : List Word → List Sign
signs_of ws = map sign_of ws

-- the bytes are one identifier of the other text
pub record IsSpelt (name : List ℕ) : Type 0 where
  pub some : 0 < length name
  pub whole : run_len name ≡ length name
  pub short : length name ≤ longest

abbrev pub IsSpeltSign : Sign → Type 0
IsSpeltSign opening = Unit {0}
IsSpeltSign closing = Unit {0}
IsSpeltSign (name f) = IsSpelt f
IsSpeltSign odd = Unit {0}

abbrev pub AreSpelt : List Sign → Type 0
AreSpelt [] = Unit {0}
AreSpelt (w ∷ ws) = IsSpeltSign w × AreSpelt ws
