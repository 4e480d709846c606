-- Where, and for which cause, a list of words is no file.
use Rattle.std.specs.Prelude.{◌≡◌, ◌⊎◌, ℕ, Bool, true, false, List, [], ◌∷◌, ◌++◌, length, take, slice_get, Some, None, codes, ◌||◌}
use Rattle.std.specs.Str.{bytes_eq}
use Rattle.file_text.specs.Syntax.{Name}
use Rattle.file_text.specs.declared.ConditionType.TheVariants.{Oriented, Join}
use Rattle.file_text.specs.Grammar.{Word, id, left_paren, id_at, Block, type_text, has_block, spelled_blocks, rules_in}

pub data SyntaxCause : Type 0 where
  unknown_block : SyntaxCause
  repeated_block : SyntaxCause
  other_condition_type : SyntaxCause
  wrong_syntax : SyntaxCause
  missing_rules : SyntaxCause

-- these words begin a list of blocks
abbrev pub Begins : List Word → Type 0
Begins ws = (rest : List Word) × (bs : List Block) × (ws ++ rest ≡ spelled_blocks bs)

-- the three titles
abbrev pub is_title : List ℕ → Bool
is_title text = bytes_eq text (codes "CONDITIONTYPE") || bytes_eq text (codes "VAR") || bytes_eq text (codes "RULES")

-- an identifier stands behind whole blocks and a bracket, and is no title
abbrev pub IsUnknownBlock : List Word → Word → Type 0
IsUnknownBlock front w = (bs : List Block) × (name : Name) × (front ≡ spelled_blocks bs ++ left_paren ∷ []) × (w ≡ id name) × (is_title name.text ≡ false)

-- the same where it is the title of one of these blocks
abbrev pub IsRepeatedBlock : List Word → Word → Type 0
IsRepeatedBlock front w = (bs : List Block) × (name : Name) × (front ≡ spelled_blocks bs ++ left_paren ∷ []) × (w ≡ id name) × (has_block bs name.text ≡ true)

-- the two condition types
abbrev pub is_type : List ℕ → Bool
is_type text = bytes_eq text (type_text Oriented) || bytes_eq text (type_text Join)

-- behind the title of a condition type stands an identifier that tells none
abbrev pub IsOtherConditionType : List Word → Word → Type 0
IsOtherConditionType front w =
    (bs : List Block) × (p : ℕ) × (name : Name) × (front ≡ spelled_blocks bs ++ left_paren ∷ id_at p (codes "CONDITIONTYPE") ∷ []) × (w ≡ id name)
    × (is_type name.text ≡ false)

-- a word that goes on with no list of blocks, for none of these causes
pub record IsWrongSyntax (front : List Word) (w : Word) : Type 0 where
  pub stuck : Begins (front ++ w ∷ []) → ⊥
  pub known : IsUnknownBlock front w → ⊥
  pub new : IsRepeatedBlock front w → ⊥
  pub typed : IsOtherConditionType front w → ⊥

-- the word behind the front calls for a refusal
abbrev pub Calls : SyntaxCause → List Word → Word → Type 0
Calls unknown_block front w = IsUnknownBlock front w
Calls repeated_block front w = IsRepeatedBlock front w
Calls other_condition_type front w = IsOtherConditionType front w
Calls wrong_syntax front w = IsWrongSyntax front w
Calls missing_rules front w = ⊥

-- the end of the words calls for a refusal
abbrev pub EndCalls : SyntaxCause → List Word → Type 0
EndCalls unknown_block ws = ⊥
EndCalls repeated_block ws = ⊥
EndCalls other_condition_type ws = ⊥
EndCalls wrong_syntax ws = (bs : List Block) → ws ≡ spelled_blocks bs → ⊥
EndCalls missing_rules ws = (bs : List Block) × (ws ≡ spelled_blocks bs) × (rules_in bs ≡ None)

-- no word calls for a refusal
abbrev pub AreClear : List Word → Type 0
AreClear ws = (cause : SyntaxCause) (front : List Word) (w : Word) (rest : List Word) → ws ≡ front ++ w ∷ rest → Calls cause front w → ⊥

-- the first word that calls for a refusal, or the end of the words, by its number from 0
abbrev pub AreRefused : List Word → SyntaxCause → ℕ → Type 0
AreRefused ws cause number =
    AreClear (take number ws)
    × (((w : Word) × (slice_get ws number ≡ Some w) × Calls cause (take number ws) w) ⊎ ((number ≡ length ws) × EndCalls cause ws))
