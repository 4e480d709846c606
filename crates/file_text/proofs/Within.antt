-- A refusal stands within the text, and so do the identifiers and bars of its tree.
use Rattle.std.proofs.Common.{◌≡◌, ℕ, zero, suc, ◌<◌, ◌≤◌, List, [], ◌∷◌, length, drop, Some, subst, arith}
use Rattle.std.specs.Prelude.{slice_range}
use Rattle.std.proofs.lemmas.List.{length-drop}
use Rattle.file_text.specs.declared.Kind.{Kind}
use Rattle.file_text.specs.declared.Kind.TheVariants.{Id}
use Rattle.file_text.specs.declared.Token.{Token}
use Rattle.file_text.specs.Syntax.{Name, FileTree}
use Rattle.file_text.specs.Refusals.{SyntaxCause}
use Rattle.file_text.specs.Tokens.{kind_at, open_after, Piece, token, comment, tokens_of, StandInTurn, TokenCause, bad_byte, long_id, open_comment, HasNoTokens}
use Rattle.file_text.specs.Texts.{words_of, place_of_token, IsText, IsNoText}
use Rattle.file_text.proofs.Fronts.{kind_fits}
use Rattle.file_text.proofs.TreeWords.{OfWords, OfRules, of_kind, of_file}

module _ (bytes : List ℕ) where
  -- a token begins before the end
  begins_within : (place : ℕ) (k : Kind) → kind_at (drop place bytes) ≡ Some k → place < length bytes
  begins_within place k e =
      let fits = kind_fits (drop place bytes) k e in
      let left = length-drop place bytes in
      omega (arith, fits.0, fits.1)

  pub no_tokens_within : (cause : TokenCause) (at : ℕ) → HasNoTokens bytes cause at → at ≤ length bytes
  no_tokens_within bad_byte at h = omega (arith, h.2)
  no_tokens_within long_id at h = omega (arith, begins_within at Id h.2)
  no_tokens_within open_comment at h = omega (arith, h.5)

  -- the token with a number, or the end
  pub token_within : (at count : ℕ) (ps : List Piece) (end number : ℕ) → StandInTurn bytes at count ps end → place_of_token bytes (tokens_of ps) number ≤ length bytes
  token_within at count [] end number l = omega arith
  token_within at count (token t ∷ ps) end zero l = omega (arith, begins_within t.from t.kind l.0.kind)
  token_within at count (token t ∷ ps) end (suc n) l = token_within t.to (open_after count t.kind) ps end n l.1
  token_within at count (comment to ∷ ps) end number l = token_within to count ps end number l.1

  pub no_text_within : (cause : SyntaxCause) (at : ℕ) → IsNoText bytes cause at → at ≤ length bytes
  no_text_within cause at h =
      let s = h.spelled in
      let there = subst (λ (ts : List Token). place_of_token bytes ts h.number ≤ length bytes) s.tokens (token_within 0 0 s.pieces s.end h.number s.leads) in
      omega (arith, there, h.place)

  -- ---- the words of the text

  abbrev pub NameWithin : Name → Type 0
  NameWithin n = n.at ≤ length bytes

  abbrev pub PlaceWithin : ℕ → Type 0
  PlaceWithin at = at ≤ length bytes

  pub words_within : (at count : ℕ) (ps : List Piece) (end : ℕ) → StandInTurn bytes at count ps end → OfWords NameWithin PlaceWithin (words_of bytes (tokens_of ps))
  words_within at count [] end l = tt
  words_within at count (token t ∷ ps) end l =
      let here : t.from ≤ length bytes = omega (arith, begins_within t.from t.kind l.0.kind) in
      (of_kind NameWithin PlaceWithin t.kind (record { at = t.from; text = slice_range bytes t.from t.to }) (λ _. here) (λ _. here), words_within t.to (open_after count t.kind) ps end l.1)
  words_within at count (comment to ∷ ps) end l = words_within to count ps end l.1

  pub tree_within : (file : FileTree) → IsText bytes file → OfRules NameWithin PlaceWithin file.rules
  tree_within file h =
      let s = h.spelled in
      of_file NameWithin PlaceWithin (words_of bytes h.tokens) file h.whole
      (subst (λ (ts : List Token). OfWords NameWithin PlaceWithin (words_of bytes ts)) s.tokens (words_within 0 0 s.pieces s.end s.leads))
