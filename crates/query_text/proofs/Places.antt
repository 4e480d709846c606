-- The place of a refusal is within the text.
use Rattle.std.proofs.Common.{◌≡◌, ℕ, ◌≤◌, List, [], ◌∷◌, ◌++◌, length, Some, None, refl, sym, ap, subst, ◌∙◌, arith, codes}
use Rattle.std.proofs.lemmas.List.{append-nil}
use Rattle.file_text.specs.declared.Token.{Token}
use Rattle.file_text.specs.Syntax.{RuleTree, FileTree}
use Rattle.file_text.specs.Texts.{words_of, place_of_token}
use Rattle.file_text.specs.Grammar.{Word, left_paren, right_paren, id_at, rules, spelled_blocks}
use Rattle.file_text.proofs.TreeWords.{OfWords, OfConditions, of_file}
use Rattle.file_text.proofs.Within.{token_within, NameWithin, PlaceWithin, words_within}
use Rattle.cops_read.specs.Uses.{Event, place}
use Rattle.cops_read.proofs.Places.{EventsWithin, conditions_within, here_or_later}
use Rattle.query_text.specs.Grammar.{QueryTree, QueryParts, conditions_of, spelled_block, spelled_conditions, spelled_query}
use Rattle.query_text.specs.Texts.{IsQueryText, IsNoQueryText}
use Rattle.query_text.specs.Meaning.{QueryCause, variables_of, query_events, event_cause, first_refusal}
use Rattle.query_text.specs.Query.{MeansNothing}
use Rattle.query_text.proofs.Machine.{dummy, header}

module _ (bytes : List ℕ) where
  pub syntax_within : (at : ℕ) → IsNoQueryText bytes at → at ≤ length bytes
  syntax_within at h =
      let s = h.spelled in
      let there = subst (λ (ts : List Token). place_of_token bytes ts h.number ≤ length bytes) s.tokens (token_within bytes 0 0 s.pieces s.end h.number s.leads) in
      omega (arith, there, h.place)

  -- ---- the words of the text

  abbrev Inside : List Word → Type 0
  Inside = OfWords (NameWithin bytes) (PlaceWithin bytes)

  behind : (xs ys : List Word) → Inside (xs ++ ys) → Inside ys
  behind [] ys h = h
  behind (x ∷ xs) ys h = behind xs ys h.1

  -- the conditions stand in the words of a file whose one rule is a dummy's with them
  of_query : (q : QueryParts) → Inside (spelled_query q) → OfConditions (NameWithin bytes) (PlaceWithin bytes) (q.first ∷ q.others)
  of_query q h =
      let inner = (behind (spelled_block q.block) (left_paren ∷ id_at q.at (codes "CONDITION") ∷ (spelled_conditions q.first q.others ++ right_paren ∷ [])) h).1.1 in
      let conditions = spelled_conditions q.first q.others in
      let rule : RuleTree = record { left = dummy; right = dummy; guard = Some record { at = 0; first = q.first; others = q.others } } in
      let file : FileTree = record { condition_type = None; variables = []; rules = rule ∷ [] } in
      let none : 0 ≤ length bytes = omega arith in
      let same : left_paren ∷ id_at 0 (codes "RULES") ∷ (header ++ (conditions ++ right_paren ∷ [])) ≡ spelled_blocks (rules 0 (rule ∷ []) ∷ []) =
      ap (λ (ws : List Word). left_paren ∷ id_at 0 (codes "RULES") ∷ (ws ++ right_paren ∷ [])) (sym (append-nil (header ++ conditions)))
      ∙ sym (append-nil (left_paren ∷ id_at 0 (codes "RULES") ∷ (((header ++ conditions) ++ []) ++ right_paren ∷ []))) in
      let words : Inside (spelled_blocks (rules 0 (rule ∷ []) ∷ [])) = subst Inside same (tt, (none, (none, (tt, (none, (none, inner)))))) in
      let all = of_file (NameWithin bytes) (PlaceWithin bytes) (spelled_blocks (rules 0 (rule ∷ []) ∷ [])) file
      record { blocks = rules 0 (rule ∷ []) ∷ []; spelled = refl; distinct = refl; condition_type = refl; variables = refl; rules = refl } words in
      all.2.1

  tree_within : (tree : QueryTree) → IsQueryText bytes tree → OfConditions (NameWithin bytes) (PlaceWithin bytes) (conditions_of tree)
  tree_within tree h =
      let s = h.spelled in
      let ws = subst (λ (ts : List Token). Inside (words_of bytes ts)) s.tokens (words_within bytes 0 0 s.pieces s.end s.leads) in
      let w = h.whole in
      subst (λ (t : QueryTree). OfConditions (NameWithin bytes) (PlaceWithin bytes) (conditions_of t)) (sym w.2) (of_query w.0 (subst Inside w.1 ws))

  -- ---- the identifiers

  -- the first refusal is at an event
  refusal_within : (block : List (List ℕ)) (table : List (List ℕ × ℕ)) (front es : List Event) (cause : QueryCause) (at : ℕ) → EventsWithin bytes es
      → first_refusal block table front es ≡ Some (cause, at) → at ≤ length bytes
  refusal_within block table front [] cause at h e = absurd cc
  refusal_within block table front (x ∷ es) cause at h e =
      here_or_later bytes (event_cause block table front x) (place x) (first_refusal block table (front ++ x ∷ []) es) cause at h.0 (refusal_within block table (front ++ x ∷ []) es cause at h.1) e

  pub meaning_within : (symbols : List (List ℕ × ℕ)) (cause : QueryCause) (at : ℕ) → MeansNothing symbols bytes cause at → at ≤ length bytes
  meaning_within symbols cause at h =
      refusal_within (variables_of h.tree) symbols [] (query_events h.tree) cause at (conditions_within bytes 1 1 (conditions_of h.tree) (tree_within h.tree h.spelled)) h.refused
