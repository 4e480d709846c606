-- A text of tokens has one tree or one refusal.
use Rattle.std.proofs.Common.{◌≡◌, ◌⊎◌, inl, inr, ℕ, List, Result, Ok, Err, refl, sym, ap, subst, ◌∙◌}
use Rattle.file_text.specs.declared.Token.{Token}
use Rattle.file_text.specs.Tokens.{Spells}
use Rattle.file_text.specs.Syntax.{FileTree}
use Rattle.file_text.specs.Grammar.{SpellTree}
use Rattle.file_text.specs.Refusals.{SyntaxCause, AreRefused}
use Rattle.file_text.specs.Texts.{words_of, place_of_token, IsText, IsNoText}
use Rattle.file_text.proofs.Machine.{read_file}
use Rattle.file_text.proofs.OneReading.{one_list}
use Rattle.file_text.proofs.Files.{one_file, file_sound}
use Rattle.file_text.proofs.RefusedFiles.{one_refusal, never_refused, refused_sound}

pub one_tree_of : (bytes : List ℕ) (file other : FileTree) → IsText bytes file → IsText bytes other → file ≡ other
one_tree_of bytes file other p q =
    one_file (words_of bytes q.tokens) file other (subst (λ (ts : List Token). SpellTree (words_of bytes ts) file) (one_list bytes p.tokens q.tokens p.spelled q.spelled) p.whole) q.whole

pub one_refusal_of : (bytes : List ℕ) (cause other : SyntaxCause) (at place : ℕ) → IsNoText bytes cause at → IsNoText bytes other place → (cause ≡ other) × (at ≡ place)
one_refusal_of bytes cause other at place p q =
    let tokens = one_list bytes p.tokens q.tokens p.spelled q.spelled in
    let same = one_refusal (words_of bytes q.tokens) cause other p.number q.number (subst (λ (ts : List Token). AreRefused (words_of bytes ts) cause p.number) tokens p.refused) q.refused in
    (same.0, p.place ∙ ap (λ (ts : List Token). place_of_token bytes ts p.number) tokens ∙ ap (place_of_token bytes q.tokens) same.1 ∙ sym q.place)

pub never_tree_and_refusal : (bytes : List ℕ) (file : FileTree) (cause : SyntaxCause) (at : ℕ) → IsText bytes file → IsNoText bytes cause at → ⊥
never_tree_and_refusal bytes file cause at p q =
    never_refused (words_of bytes q.tokens) file cause q.number
    (subst (λ (ts : List Token). SpellTree (words_of bytes ts) file) (one_list bytes p.tokens q.tokens p.spelled q.spelled) p.whole) q.refused

-- ---- what the reader says of the text

pub text_read : (bytes : List ℕ) (ts : List Token) (file : FileTree) → Spells bytes ts → read_file (words_of bytes ts) ≡ Ok file → IsText bytes file
text_read bytes ts file s e = record { tokens = ts; spelled = s; whole = file_sound (words_of bytes ts) file e }

pub text_refused : (bytes : List ℕ) (ts : List Token) (cause : SyntaxCause) (number : ℕ) → Spells bytes ts → read_file (words_of bytes ts) ≡ Err (cause, number)
    → IsNoText bytes cause (place_of_token bytes ts number)
text_refused bytes ts cause number s e = record { tokens = ts; spelled = s; number = number; refused = refused_sound (words_of bytes ts) cause number e; place = refl }

pub tree_or_refusal : (bytes : List ℕ) (ts : List Token) → Spells bytes ts → ((file : FileTree) × IsText bytes file) ⊎ ((cause : SyntaxCause) × (at : ℕ) × IsNoText bytes cause at)
tree_or_refusal bytes ts s = go (read_file (words_of bytes ts)) refl
  where
    go : (r : Result FileTree (SyntaxCause × ℕ)) → read_file (words_of bytes ts) ≡ r → ((file : FileTree) × IsText bytes file) ⊎ ((cause : SyntaxCause) × (at : ℕ) × IsNoText bytes cause at)
    go (Ok file) e = inl (file, text_read bytes ts file s e)
    go (Err p) e = inr (p.0, place_of_token bytes ts p.1, text_refused bytes ts p.0 p.1 s e)
