-- A lexer that goes on, and what it tells of the text.
use Rattle.std.proofs.Common.{◌≡◌, ℕ, List, [], ◌∷◌, ◌++◌, true, false, Option, Some, None, is_some, Ok, subst, ◌∙◌}
use Rattle.std.proofs.lemmas.List.{append_assoc}
use Rattle.file_text.specs.declared.Token.{Token}
use Rattle.file_text.specs.Tokens.{Spells}
use Rattle.cops_lex.specs.Reading.{Reading, HasRead, HasRest}
use Rattle.cops_lex.specs.Answers.{NextAnswers}

-- behind what is read first stand some more tokens, to the place of a later reading
pub record LeadsTo (first later : Reading) : Type 0 where
  pub text : later.bytes ≡ first.bytes
  pub reads : (ts : List Token) → HasRead first ts → (us : List Token) × HasRead later (ts ++ us)

pub leads_on : (first old new : Reading) (found : Option Token) → NextAnswers old new (Ok found) → new.bytes ≡ old.bytes → is_some found ≡ true → LeadsTo first old → LeadsTo first new
leads_on first old new (Some t) on text some l = record {
  text = text ∙ l.text;
  reads = λ ts h.
      let before = l.reads ts h in
      (before.0 ++ t ∷ [], subst (HasRead new) (append_assoc ts before.0 (t ∷ [])) (on (ts ++ before.0) before.1));
}
leads_on first old new None on text some l = absurd cc

pub leads_to_end : (first old new : Reading) (found : Option Token) → NextAnswers old new (Ok found) → is_some found ≡ false → LeadsTo first old → HasRest first
leads_to_end first old new (Some t) end none l ts h = absurd cc
leads_to_end first old new None end none l ts h =
    let before = l.reads ts h in
    (before.0, subst (λ (bytes : List ℕ). Spells bytes (ts ++ before.0)) l.text (end (ts ++ before.0) before.1))
