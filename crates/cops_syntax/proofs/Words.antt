-- What a reader of words says of the text.
use Rattle.std.proofs.Common.{◌≡◌, ℕ, List, [], ◌∷◌, ◌++◌, length, Option, Some, None, Result, Ok, Err, option_map, refl, sym, ap, subst, subst₂, ◌∙◌}
use Rattle.std.proofs.lemmas.List.{map-append, length-map}
use Rattle.std.proofs.Math.Seq.{append_snoc}
use Rattle.std.specs.Prelude.{unwrap_or}
use Rattle.general_lemmas.proofs.Places.{slice_get_seam}
use Rattle.file_text.specs.declared.Token.{Token}
use Rattle.file_text.specs.Tokens.{Spells}
use Rattle.file_text.specs.Grammar.{Word}
use Rattle.file_text.specs.Texts.{word_of, words_of, place_of_token}
use Rattle.cops_lex.specs.Reading.{Reading, HasRead, ReadsOn, IsAtEnd, HasRest}
use Rattle.cops_syntax.specs.Reader.{TakeAnswers, EndAnswers, HasNoTree}

words_then : (bytes : List ℕ) (ts us : List Token) → words_of bytes (ts ++ us) ≡ words_of bytes ts ++ words_of bytes us
words_then bytes ts us = map-append (word_of bytes) ts us

place_at : (bytes : List ℕ) (ts us : List Token) (t : Token) → place_of_token bytes (ts ++ t ∷ us) (length ts) ≡ t.from
place_at bytes ts us t = ap (λ (o : Option Token). unwrap_or (option_map (λ u. u.from) o) (length bytes)) (slice_get_seam ts t us)

place_end : (bytes : List ℕ) (ts : List Token) → place_of_token bytes ts (length ts) ≡ length bytes
place_end bytes [] = refl
place_end bytes (t ∷ ts) = place_end bytes ts

-- The reader has taken the words of the tokens that a lexer has read.
pub record IsReadUpTo {R : Type 0} (taken : R → List Word → Type 0) (bytes : List ℕ) (r : Reading) (b : R) : Type 0 where
  pub text : r.bytes ≡ bytes
  pub tokens : List Token
  pub read : HasRead r tokens
  pub words : taken b (words_of bytes tokens)

pub reads_none : {R : Type 0} (taken : R → List Word → Type 0) (bytes : List ℕ) (r : Reading) (b : R) → r.bytes ≡ bytes → HasRead r [] → taken b [] → IsReadUpTo taken bytes r b
reads_none taken bytes r b text read h = record { text = text; tokens = []; read = read; words = h }

all_spelled : {R : Type 0} (taken : R → List Word → Type 0) (bytes : List ℕ) (r : Reading) (b : R) (i : IsReadUpTo taken bytes r b) → IsAtEnd r → Spells bytes i.tokens
all_spelled taken bytes r b i end = subst (λ (bs : List ℕ). Spells bs i.tokens) i.text (end i.tokens i.read)

module _ {R T C : Type 0} (taken : R → List Word → Type 0) (spells : List Word → T → Type 0) (refuses : List Word → C → ℕ → Type 0) (bytes : List ℕ) where
  module _ (old new : Reading) (t : Token) (before after : R) (w : Word) (o : Option C) (i : IsReadUpTo taken bytes old before) (on : ReadsOn old t new)
      (text : new.bytes ≡ old.bytes) (is : w ≡ word_of bytes t)
      (answer : (ws : List Word) → taken before ws → TakeAnswers (taken after) refuses ws w o) where
    answered : TakeAnswers (taken after) refuses (words_of bytes i.tokens) (word_of bytes t) o
    answered = subst (λ (v : Word). TakeAnswers (taken after) refuses (words_of bytes i.tokens) v o) is (answer (words_of bytes i.tokens) i.words)

    pub reads_next : o ≡ None → IsReadUpTo taken bytes new after
    reads_next none =
        let h = subst (TakeAnswers (taken after) refuses (words_of bytes i.tokens) (word_of bytes t)) none answered in
        record {
          text = text ∙ i.text;
          tokens = i.tokens ++ t ∷ [];
          read = on i.tokens i.read;
          words = subst (taken after) (sym (words_then bytes i.tokens (t ∷ []))) h;
        }

    pub reads_refused : (cause : C) → o ≡ Some cause → HasRest new → HasNoTree refuses bytes cause t.from
    reads_refused cause some rest =
        let ts = i.tokens in
        let all = rest (ts ++ t ∷ []) (on ts i.read) in
        let h = subst (TakeAnswers (taken after) refuses (words_of bytes ts) (word_of bytes t)) some answered (words_of bytes all.0) in
        record {
          tokens = ts ++ t ∷ all.0;
          spelled = subst₂ Spells (text ∙ i.text) (append_snoc ts t all.0) all.1;
          number = length ts;
          refused = subst₂ (λ (ws : List Word) (n : ℕ). refuses ws cause n) (sym (words_then bytes ts (t ∷ all.0))) (length-map ts (word_of bytes)) h;
          place = sym (place_at bytes ts all.0 t);
        }

  module _ (last : Reading) (b : R) (r : Result T C) (i : IsReadUpTo taken bytes last b) (end : IsAtEnd last) (answer : (ws : List Word) → taken b ws → EndAnswers spells refuses ws r) where
    pub reads_whole : (tree : T) → r ≡ Ok tree → (ts : List Token) × Spells bytes ts × spells (words_of bytes ts) tree
    reads_whole tree ok = (i.tokens, all_spelled taken bytes last b i end, subst (EndAnswers spells refuses (words_of bytes i.tokens)) ok (answer (words_of bytes i.tokens) i.words))

    pub reads_early : (cause : C) → r ≡ Err cause → HasNoTree refuses bytes cause (length bytes)
    reads_early cause err = record {
      tokens = i.tokens;
      spelled = all_spelled taken bytes last b i end;
      number = length i.tokens;
      refused = subst (refuses (words_of bytes i.tokens) cause) (length-map i.tokens (word_of bytes))
          (subst (EndAnswers spells refuses (words_of bytes i.tokens)) err (answer (words_of bytes i.tokens) i.words));
      place = sym (place_end bytes i.tokens);
    }
