-- What stands at the front of bytes.
use Rattle.std.specs.Prelude.{◌≡◌, ◌<◌, ◌≤◌, ℕ, true, false, List, ◌∷◌, ◌++◌, drop, length, slice_index, Option, Some, None}
use Rattle.ari_text.specs.declared.words.Word.{Word}
use Rattle.ari_text.specs.Signs.{Sign, sign_of, signs_of}
use Rattle.ari_text.specs.Spelling.{is_bare, AreNot, Spell}

-- so many bytes of a name, and no more
pub record IsBareRun (bytes : List ℕ) (n : ℕ) : Type 0 where
  pub within : n ≤ length bytes
  pub bare : (k : ℕ) → k < n → is_bare (slice_index bytes k) ≡ true
  pub ends : n < length bytes → is_bare (slice_index bytes n) ≡ false

-- the first place of the byte, or the length
pub record IsFirstPlace (bytes : List ℕ) (byte n : ℕ) : Type 0 where
  pub within : n ≤ length bytes
  pub before : (k : ℕ) → k < n → slice_index bytes k ≡ byte → ⊥
  pub there : n < length bytes → slice_index bytes n ≡ byte

-- a text without the byte, and behind it the byte
pub record IsEnclosed (bytes : List ℕ) (byte : ℕ) (text : List ℕ) : Type 0 where
  pub rest : List ℕ
  pub split : bytes ≡ text ++ byte ∷ rest
  pub without : AreNot byte text

-- the word, and behind it these
abbrev pub word_signs : Option Word → List Sign → List Sign
word_signs None ws = ws
word_signs (Some w) ws = sign_of w ∷ ws

-- so many bytes are white space, a comment or this word
pub record IsPiece (bytes : List ℕ) (word : Option Word) (len : ℕ) : Type 0 where
  pub some : 0 < len
  pub within : len ≤ length bytes
  pub goes_on : (ws : List Sign) → Spell (drop len bytes) ws → Spell bytes (word_signs word ws)

-- the word was put last
pub record IsPushed (before after : List Word) (word : Option Word) : Type 0 where
  pub words : (ws : List Sign) → signs_of after ++ ws ≡ signs_of before ++ word_signs word ws
