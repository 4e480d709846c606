-- A text spells one system or has one refusal, and never both.
use Rattle.std.proofs.Common.{◌≡◌, ℕ, List, Option, Some, None, refl, ap, subst, ◌∙◌, ◌⊎◌, inl, inr}
use Rattle.file_text.specs.Syntax.{FileTree}
use Rattle.file_text.specs.declared.Token.{Token}
use Rattle.file_text.specs.Tokens.{Spells, TokenCause, HasNoTokens}
use Rattle.file_text.specs.Refusals.{SyntaxCause}
use Rattle.file_text.specs.Texts.{IsText, IsNoText}
use Rattle.file_text.proofs.OneReading.{one_bad_place, never_both as never_tokens_and_refusal}
use Rattle.file_text.proofs.SomeReading.{tokens_or_refusal}
use Rattle.file_text.proofs.TextLaws.{one_tree_of, one_refusal_of, never_tree_and_refusal, tree_or_refusal}
use Rattle.rewriting.specs.Rules.{System}
use Rattle.cops_names.specs.NameTable.{NameTable}
use Rattle.cops_read.specs.Refusals.{MeaningCause, refusal_of}
use Rattle.cops_read.specs.File.{IsFile, IsMeant, FileCause, no_tokens, no_tree, no_meaning, IsNoFile}
use Rattle.cops_read.specs.Answers.{OneSystem, OneRefusal, NeverSystemAndRefusal, SystemOrRefusal}
use Rattle.cops_read.proofs.Firsts.{same_refusal}
use Rattle.cops_read.proofs.Meant.{one_meaning, meant_accepted, some_meaning}

pub one_reading : OneSystem
one_reading bytes sys other names others h g =
    let again = subst (λ (t : FileTree). IsMeant t other others) (one_tree_of bytes g.tree h.tree g.spelled h.spelled) g.meant in
    one_meaning h.tree sys other names others h.meant again

pub one_refusal : OneRefusal
one_refusal bytes (no_tokens c) (no_tokens d) at by h g = let e = one_bad_place bytes c d at by h g in (ap no_tokens e.0, e.1)
one_refusal bytes (no_tokens c) (no_tree d) at by h g = absurd (never_tokens_and_refusal bytes g.tokens c at g.spelled h)
one_refusal bytes (no_tokens c) (no_meaning d) at by h g = absurd (never_tokens_and_refusal bytes g.spelled.tokens c at g.spelled.spelled h)
one_refusal bytes (no_tree c) (no_tokens d) at by h g = absurd (never_tokens_and_refusal bytes h.tokens d by h.spelled g)
one_refusal bytes (no_tree c) (no_tree d) at by h g = let e = one_refusal_of bytes c d at by h g in (ap no_tree e.0, e.1)
one_refusal bytes (no_tree c) (no_meaning d) at by h g = absurd (never_tree_and_refusal bytes g.tree c at g.spelled h)
one_refusal bytes (no_meaning c) (no_tokens d) at by h g = absurd (never_tokens_and_refusal bytes h.spelled.tokens d by h.spelled.spelled g)
one_refusal bytes (no_meaning c) (no_tree d) at by h g = absurd (never_tree_and_refusal bytes h.tree d by h.spelled g)
one_refusal bytes (no_meaning c) (no_meaning d) at by h g =
    same_refusal no_meaning (refusal_of h.tree) c d at by h.refused (ap refusal_of (one_tree_of bytes h.tree g.tree h.spelled g.spelled) ∙ g.refused)

pub never_both : NeverSystemAndRefusal
never_both bytes sys names (no_tokens c) at f h = never_tokens_and_refusal bytes f.spelled.tokens c at f.spelled.spelled h
never_both bytes sys names (no_tree c) at f h = never_tree_and_refusal bytes f.tree c at f.spelled h
never_both bytes sys names (no_meaning c) at f h =
    let same = ap refusal_of (one_tree_of bytes h.tree f.tree h.spelled f.spelled) in
    let none = meant_accepted f.tree sys names f.meant in
    let some = h.refused in
    cc

module _ (bytes : List ℕ) where
  abbrev Either : Type 0
  Either = ((sys : System) × (names : NameTable) × IsFile bytes sys names) ⊎ ((cause : FileCause) × (at : ℕ) × IsNoFile bytes cause at)

  of_tree : (file : FileTree) → IsText bytes file → (o : Option (MeaningCause × ℕ)) → refusal_of file ≡ o → Either
  of_tree file spelled None e = let m = some_meaning file e in inl (m.system, m.names, record { tree = file; spelled = spelled; meant = m.is })
  of_tree file spelled (Some (cause, at)) e = inr (no_meaning cause, at, record { tree = file; spelled = spelled; refused = e })

  of_syntax : ((file : FileTree) × IsText bytes file) ⊎ ((cause : SyntaxCause) × (at : ℕ) × IsNoText bytes cause at) → Either
  of_syntax (inl (file, spelled)) = of_tree file spelled (refusal_of file) refl
  of_syntax (inr (cause, at, h)) = inr (no_tree cause, at, h)

  of_tokens : ((ts : List Token) × Spells bytes ts) ⊎ ((cause : TokenCause) × (at : ℕ) × HasNoTokens bytes cause at) → Either
  of_tokens (inl (ts, spelled)) = of_syntax (tree_or_refusal bytes ts spelled)
  of_tokens (inr (cause, at, h)) = inr (no_tokens cause, at, h)

pub some_reading : SystemOrRefusal
some_reading bytes = of_tokens bytes (tokens_or_refusal bytes)
