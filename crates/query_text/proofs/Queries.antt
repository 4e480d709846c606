-- A text is one query or has one refusal, and never both.
use Rattle.std.proofs.Common.{◌≡◌, ◌⊎◌, inl, inr, ℕ, ◌<◌, ◌≤◌, List, length, Option, Some, None, refl, sym, ap, subst, ◌∙◌, arith}
use Rattle.general_lemmas.proofs.Numbers.{le_or_lt}
use Rattle.file_text.specs.declared.Token.{Token}
use Rattle.file_text.specs.Tokens.{Spells, TokenCause, HasNoTokens}
use Rattle.file_text.proofs.OneReading.{one_bad_place, never_both as never_tokens_and_refusal}
use Rattle.file_text.proofs.SomeReading.{tokens_or_refusal}
use Rattle.file_text.proofs.Within.{no_tokens_within}
use Rattle.rewriting.specs.Rules.{Condition, System}
use Rattle.cops_read.proofs.Firsts.{same_refusal}
use Rattle.query_text.specs.Grammar.{QueryTree}
use Rattle.query_text.specs.Texts.{IsQueryText, IsNoQueryText}
use Rattle.query_text.specs.Meaning.{QueryCause, refusal_of, IsMeantBy}
use Rattle.query_text.specs.Query.{HasOwnSymbols, IsQuery, Refusal, join_system, no_tokens, wrong_syntax, no_meaning, IsNoQuery}
use Rattle.query_text.specs.Laws.{OneQuery, OneRefusal, NeverQueryAndRefusal, QueryOrRefusal, RefusalsAreWithin, QueriesAreWithinLimits}
use Rattle.query_text.proofs.Trees.{one_query_tree, one_syntax_place, never_tree_and_place, tree_or_place}
use Rattle.query_text.proofs.Meant.{meaning, one_meaning, within_limits}
use Rattle.query_text.proofs.Places.{syntax_within, meaning_within}

pub one_query : OneQuery
one_query sys symbols bytes cs ds names others h g =
    one_meaning symbols h.tree cs ds names others h.meant (subst (λ (t : QueryTree). IsMeantBy symbols t ds others) (one_query_tree bytes g.tree h.tree g.spelled h.spelled) g.meant)

never_own : {P : Type 0} (sys : System) → sys.own < length sys.arities → HasOwnSymbols sys → P
never_own sys less own = absurd (omega (arith, less, own))

-- those behind the first
behind_own : (sys : System) (symbols : List (List ℕ × ℕ)) (bytes : List ℕ) (cause other : Refusal) (at place : ℕ) → HasOwnSymbols sys → IsNoQuery sys symbols bytes cause at
    → IsNoQuery sys symbols bytes other place → (cause ≡ other) × (at ≡ place)
behind_own sys symbols bytes join_system other at place own (less, h) g = never_own sys less own
behind_own sys symbols bytes (no_tokens c) join_system at place own h (less, g) = never_own sys less own
behind_own sys symbols bytes (no_tokens c) (no_tokens d) at place own h g = let e = one_bad_place bytes c d at place h.1 g.1 in (ap no_tokens e.0, e.1)
behind_own sys symbols bytes (no_tokens c) wrong_syntax at place own h g = absurd (never_tokens_and_refusal bytes g.1.tokens c at g.1.spelled h.1)
behind_own sys symbols bytes (no_tokens c) (no_meaning d) at place own h g = absurd (never_tokens_and_refusal bytes g.1.spelled.tokens c at g.1.spelled.spelled h.1)
behind_own sys symbols bytes wrong_syntax join_system at place own h (less, g) = never_own sys less own
behind_own sys symbols bytes wrong_syntax (no_tokens d) at place own h g = absurd (never_tokens_and_refusal bytes h.1.tokens d place h.1.spelled g.1)
behind_own sys symbols bytes wrong_syntax wrong_syntax at place own h g = (refl, one_syntax_place bytes at place h.1 g.1)
behind_own sys symbols bytes wrong_syntax (no_meaning d) at place own h g = absurd (never_tree_and_place bytes g.1.tree at g.1.spelled h.1)
behind_own sys symbols bytes (no_meaning c) join_system at place own h (less, g) = never_own sys less own
behind_own sys symbols bytes (no_meaning c) (no_tokens d) at place own h g = absurd (never_tokens_and_refusal bytes h.1.spelled.tokens d place h.1.spelled.spelled g.1)
behind_own sys symbols bytes (no_meaning c) wrong_syntax at place own h g = absurd (never_tree_and_place bytes h.1.tree place h.1.spelled g.1)
behind_own sys symbols bytes (no_meaning c) (no_meaning d) at place own h g =
    same_refusal no_meaning (refusal_of symbols h.1.tree) c d at place h.1.refused (ap (refusal_of symbols) (one_query_tree bytes h.1.tree g.1.tree h.1.spelled g.1.spelled) ∙ g.1.refused)

is_join : (sys : System) (symbols : List (List ℕ × ℕ)) (bytes : List ℕ) (cause : Refusal) (at : ℕ) → sys.own < length sys.arities → IsNoQuery sys symbols bytes cause at
    → (cause ≡ join_system) × (at ≡ 0)
is_join sys symbols bytes join_system at less h = (refl, h.1)
is_join sys symbols bytes (no_tokens c) at less h = never_own sys less h.0
is_join sys symbols bytes wrong_syntax at less h = never_own sys less h.0
is_join sys symbols bytes (no_meaning c) at less h = never_own sys less h.0

pub one_refusal : OneRefusal
one_refusal sys symbols bytes cause other at place h g = go (le_or_lt (length sys.arities) sys.own)
  where
    go : (length sys.arities ≤ sys.own) ⊎ (sys.own < length sys.arities) → (cause ≡ other) × (at ≡ place)
    go (inl own) = behind_own sys symbols bytes cause other at place own h g
    go (inr less) =
        let one = is_join sys symbols bytes cause at less h in
        let two = is_join sys symbols bytes other place less g in
        (one.0 ∙ sym two.0, one.1 ∙ sym two.1)

pub never_both : NeverQueryAndRefusal
never_both sys symbols bytes cs names join_system at f h = never_own sys h.0 f.own
never_both sys symbols bytes cs names (no_tokens c) at f h = never_tokens_and_refusal bytes f.spelled.tokens c at f.spelled.spelled h.1
never_both sys symbols bytes cs names wrong_syntax at f h = never_tree_and_place bytes f.tree at f.spelled h.1
never_both sys symbols bytes cs names (no_meaning c) at f h =
    let same = ap (refusal_of symbols) (one_query_tree bytes h.1.tree f.tree h.1.spelled f.spelled) in
    let none = f.meant.accepted in
    let some = h.1.refused in
    cc

module _ (sys : System) (symbols : List (List ℕ × ℕ)) (bytes : List ℕ) where
  abbrev Either : Type 0
  Either = ((cs : List Condition) × (names : List (List ℕ)) × IsQuery sys symbols bytes cs names) ⊎ ((cause : Refusal) × (at : ℕ) × IsNoQuery sys symbols bytes cause at)

  module _ (own : HasOwnSymbols sys) where
    of_tree : (tree : QueryTree) → IsQueryText bytes tree → (o : Option (QueryCause × ℕ)) → refusal_of symbols tree ≡ o → Either
    of_tree tree spelled None e = let m = meaning symbols tree e in inl (m.conditions, m.names, record { own = own; tree = tree; spelled = spelled; meant = m.is })
    of_tree tree spelled (Some (cause, at)) e = inr (no_meaning cause, at, (own, record { tree = tree; spelled = spelled; refused = e }))

    of_syntax : ((tree : QueryTree) × IsQueryText bytes tree) ⊎ ((at : ℕ) × IsNoQueryText bytes at) → Either
    of_syntax (inl (tree, spelled)) = of_tree tree spelled (refusal_of symbols tree) refl
    of_syntax (inr (at, h)) = inr (wrong_syntax, at, (own, h))

    of_tokens : ((ts : List Token) × Spells bytes ts) ⊎ ((cause : TokenCause) × (at : ℕ) × HasNoTokens bytes cause at) → Either
    of_tokens (inl (ts, spelled)) = of_syntax (tree_or_place bytes ts spelled)
    of_tokens (inr (cause, at, h)) = inr (no_tokens cause, at, (own, h))

  either : (length sys.arities ≤ sys.own) ⊎ (sys.own < length sys.arities) → Either
  either (inl own) = of_tokens own (tokens_or_refusal bytes)
  either (inr less) = inr (join_system, 0, (less, refl))

pub some_query : QueryOrRefusal
some_query sys symbols bytes = either sys symbols bytes (le_or_lt (length sys.arities) sys.own)

pub refusals_within : RefusalsAreWithin
refusals_within sys symbols bytes join_system at h = let e = h.1 in omega (arith, e)
refusals_within sys symbols bytes (no_tokens cause) at h = no_tokens_within bytes cause at h.1
refusals_within sys symbols bytes wrong_syntax at h = syntax_within bytes at h.1
refusals_within sys symbols bytes (no_meaning cause) at h = meaning_within bytes symbols cause at h.1

pub queries_within_limits : QueriesAreWithinLimits
queries_within_limits sys symbols bytes cs names h = within_limits symbols h.tree cs names h.meant
