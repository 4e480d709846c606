-- The identifiers of a text's tree are identifiers of the text.
use Rattle.std.proofs.Common.{ℕ, List, [], ◌∷◌, All}
use Rattle.std.specs.Prelude.{slice_range}
use Rattle.std.proofs.lemmas.List.Elements.{All-head, All-tail}
use Rattle.file_text.specs.declared.Token.{Token}
use Rattle.file_text.specs.Syntax.{FileTree}
use Rattle.file_text.specs.Texts.{words_of, IsText}
use Rattle.file_text.proofs.Lexemes.{IsNamed, spelled_names}
use Rattle.file_text.proofs.TreeWords.{OfWords, of_kind, of_file}
use Rattle.cops_write.proofs.Trees.{IsOfText, AnyPlace, RulesHaveNames}

words_have : (bytes : List ℕ) (ts : List Token) → All (IsNamed bytes) ts → OfWords IsOfText AnyPlace (words_of bytes ts)
words_have bytes [] h = tt
words_have bytes (t ∷ ts) h =
    (of_kind IsOfText AnyPlace t.kind (record { at = t.from; text = slice_range bytes t.from t.to }) (All-head (IsNamed bytes) t ts h) (λ _. tt), words_have bytes ts (All-tail (IsNamed bytes) t ts h))

pub text_has : (bytes : List ℕ) (file : FileTree) → IsText bytes file → RulesHaveNames file.rules
text_has bytes file h = of_file IsOfText AnyPlace (words_of bytes h.tokens) file h.whole (words_have bytes h.tokens (spelled_names bytes h.tokens h.spelled))
