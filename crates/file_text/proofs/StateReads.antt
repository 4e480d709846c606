-- What the reader of files has read is spelled so.
use Rattle.std.proofs.Common.{◌≡◌, ℕ, Bool, true, false, if◌then◌else◌, List, [], ◌∷◌, ◌++◌, map, Option, Some, None, Result, Ok, Err, refl, sym, ap, subst, ◌∙◌, append_assoc, codes, bytes_eq}
use Rattle.std.proofs.lemmas.List.{map-append}
use Rattle.std.proofs.lemmas.Slice.Eq.{bytes_eq-Decides}
use Rattle.file_text.specs.declared.ConditionType.{ConditionType}
use Rattle.file_text.specs.declared.ConditionType.TheVariants.{Oriented, Join}
use Rattle.file_text.specs.Syntax.{Name, RuleTree}
use Rattle.file_text.specs.Grammar.{Word, id, left_paren, right_paren, id_at, type_text, Block, condition_type, variables, rules, spelled_blocks}
use Rattle.file_text.specs.Refusals.{SyntaxCause, unknown_block, other_condition_type}
use Rattle.file_text.proofs.Machine.{Reading, no_rule, closing, step_term, State, outside, behind_bracket, behind_type, behind_type_word, in_variables, in_rules, step_outside}
use Rattle.file_text.proofs.Machine.{titled, step_bracket, step_type, step_type_word, step_variables, rules_go_on, rules_or, step_rules, step_any}
use Rattle.file_text.proofs.ReadingWords.{reading_words, term_reads, closing_reads}
use Rattle.file_text.proofs.Closing.{state_words, blocks-last}

abbrev pub made : State → Result State SyntaxCause
made s = Ok s

pub made_is : (m t : State) → made m ≡ Ok t → m ≡ t
made_is m t e = cc

-- the state is the one that is made, and its words are these
made_reads : (m t : State) (ws : List Word) → made m ≡ Ok t → state_words m ≡ ws → state_words t ≡ ws
made_reads m t ws e h = subst (λ (s : State). state_words s ≡ ws) (made_is m t e) h

pub same_text : (name : Name) (text : List ℕ) → bytes_eq name.text text ≡ true → id name ≡ id_at name.at text
same_text name text e = ap (id_at name.at) ((bytes_eq-Decides name.text text).0 e)

-- one of two
abbrev pub one_or : Bool → State → Result State SyntaxCause → Result State SyntaxCause
one_or b s r = if b then Ok s else r

pub one_of : {P : Type 0} (b : Bool) (s : State) (r : Result State SyntaxCause) (t : State) → one_or b s r ≡ Ok t → (b ≡ true → made s ≡ Ok t → P) → (r ≡ Ok t → P) → P
one_of true s r t e f g = f refl e
one_of false s r t e f g = g e

title_reads : (bs : List Block) (name : Name) (t : State) → titled bs name ≡ Ok t → state_words t ≡ spelled_blocks bs ++ left_paren ∷ id name ∷ []
title_reads bs name t e =
    one_of (bytes_eq name.text (codes "CONDITIONTYPE")) (behind_type bs name.at)
    (one_or (bytes_eq name.text (codes "VAR")) (in_variables bs name.at []) (one_or (bytes_eq name.text (codes "RULES")) (in_rules bs name.at no_rule) (Err unknown_block))) t e
    (λ is h. made_reads (behind_type bs name.at) t _ h (word (codes "CONDITIONTYPE") is))
    (λ e. one_of (bytes_eq name.text (codes "VAR")) (in_variables bs name.at []) (one_or (bytes_eq name.text (codes "RULES")) (in_rules bs name.at no_rule) (Err unknown_block)) t e
    (λ is h. made_reads (in_variables bs name.at []) t _ h (word (codes "VAR") is))
    (λ e. one_of (bytes_eq name.text (codes "RULES")) (in_rules bs name.at no_rule) (Err unknown_block) t e
    (λ is h. made_reads (in_rules bs name.at no_rule) t _ h (word (codes "RULES") is))
    (λ e. absurd cc)))
  where
    word : (text : List ℕ) → bytes_eq name.text text ≡ true → spelled_blocks bs ++ left_paren ∷ id_at name.at text ∷ [] ≡ spelled_blocks bs ++ left_paren ∷ id name ∷ []
    word text is = ap (λ (w : Word). spelled_blocks bs ++ left_paren ∷ w ∷ []) (sym (same_text name text is))

outside_reads : (bs : List Block) (w : Word) (t : State) → step_outside bs w ≡ Ok t → state_words t ≡ spelled_blocks bs ++ w ∷ []
outside_reads bs left_paren t e = made_reads (behind_bracket bs) t _ e refl
outside_reads bs _ t e = absurd cc

bracket_reads : (bs : List Block) (w : Word) (t : State) → step_bracket bs w ≡ Ok t → state_words t ≡ spelled_blocks bs ++ left_paren ∷ w ∷ []
bracket_reads bs (id name) t e = title_reads bs name t e
bracket_reads bs _ t e = absurd cc

type_reads : (bs : List Block) (at : ℕ) (w : Word) (t : State) → step_type bs at w ≡ Ok t → state_words t ≡ spelled_blocks bs ++ left_paren ∷ id_at at (codes "CONDITIONTYPE") ∷ w ∷ []
type_reads bs at (id name) t e =
    one_of (bytes_eq name.text (codes "ORIENTED")) (behind_type_word bs at name.at Oriented)
    (one_or (bytes_eq name.text (codes "JOIN")) (behind_type_word bs at name.at Join) (Err other_condition_type)) t e
    (λ is h. made_reads (behind_type_word bs at name.at Oriented) t _ h (word (codes "ORIENTED") is))
    (λ e. one_of (bytes_eq name.text (codes "JOIN")) (behind_type_word bs at name.at Join) (Err other_condition_type) t e
    (λ is h. made_reads (behind_type_word bs at name.at Join) t _ h (word (codes "JOIN") is))
    (λ e. absurd cc))
  where
    word : (text : List ℕ) → bytes_eq name.text text ≡ true
        → spelled_blocks bs ++ left_paren ∷ id_at at (codes "CONDITIONTYPE") ∷ id_at name.at text ∷ [] ≡ spelled_blocks bs ++ left_paren ∷ id_at at (codes "CONDITIONTYPE") ∷ id name ∷ []
    word text is = ap (λ (w : Word). spelled_blocks bs ++ left_paren ∷ id_at at (codes "CONDITIONTYPE") ∷ w ∷ []) (sym (same_text name text is))
type_reads bs at _ t e = absurd cc

type_word_reads : (bs : List Block) (at place : ℕ) (kind : ConditionType) (w : Word) (t : State) → step_type_word bs at place kind w ≡ Ok t
    → state_words t ≡ spelled_blocks bs ++ left_paren ∷ id_at at (codes "CONDITIONTYPE") ∷ id_at place (type_text kind) ∷ w ∷ []
type_word_reads bs at place kind right_paren t e = made_reads (outside (bs ++ condition_type at place kind ∷ [])) t _ e (blocks-last bs (condition_type at place kind))
type_word_reads bs at place kind _ t e = absurd cc

variables_read : (bs : List Block) (at : ℕ) (names : List Name) (w : Word) (t : State) → step_variables bs at names w ≡ Ok t
    → state_words t ≡ spelled_blocks bs ++ left_paren ∷ id_at at (codes "VAR") ∷ (map (λ n. id n) names ++ w ∷ [])
variables_read bs at names (id name) t e =
    made_reads (in_variables bs at (names ++ name ∷ [])) t _ e (ap (λ (ws : List Word). spelled_blocks bs ++ left_paren ∷ id_at at (codes "VAR") ∷ ws)
    (map-append (λ (n : Name). id n) names (name ∷ [])))
variables_read bs at names right_paren t e = made_reads (outside (bs ++ variables at names ∷ [])) t _ e (blocks-last bs (variables at names))
variables_read bs at names _ t e = absurd cc

rules_read : (bs : List Block) (at : ℕ) (r : Reading) (w : Word) (t : State) → step_rules bs at r w ≡ Ok t
    → state_words t ≡ spelled_blocks bs ++ left_paren ∷ id_at at (codes "RULES") ∷ (reading_words r ++ w ∷ [])
rules_read bs at r w t e = ends (closing r w) refl e
  where
    on : (m : Option Reading) → step_term r.rules r.part r.opens r.last w ≡ m → rules_go_on bs at m ≡ Ok t
        → state_words t ≡ spelled_blocks bs ++ left_paren ∷ id_at at (codes "RULES") ∷ (reading_words r ++ w ∷ [])
    on None is e = absurd cc
    on (Some q) is e = made_reads (in_rules bs at q) t _ e (ap (λ (ws : List Word). spelled_blocks bs ++ left_paren ∷ id_at at (codes "RULES") ∷ ws) (term_reads r w q is))

    ends : (m : Option (List RuleTree)) → closing r w ≡ m → rules_or bs at m (step_term r.rules r.part r.opens r.last w) ≡ Ok t
        → state_words t ≡ spelled_blocks bs ++ left_paren ∷ id_at at (codes "RULES") ∷ (reading_words r ++ w ∷ [])
    ends (Some rs) is e =
        made_reads (outside (bs ++ rules at rs ∷ [])) t _ e
        (blocks-last bs (rules at rs) ∙ ap (λ (ws : List Word). spelled_blocks bs ++ left_paren ∷ id_at at (codes "RULES") ∷ ws) (sym (closing_reads r w rs is)))
    ends None is e = on (step_term r.rules r.part r.opens r.last w) refl e

-- a step adds its word
pub any_reads : (s t : State) (w : Word) → step_any s w ≡ Ok t → state_words t ≡ state_words s ++ w ∷ []
any_reads (outside bs) t w e = outside_reads bs w t e
any_reads (behind_bracket bs) t w e = bracket_reads bs w t e ∙ sym (append_assoc (spelled_blocks bs) (left_paren ∷ []) (w ∷ []))
any_reads (behind_type bs at) t w e = type_reads bs at w t e ∙ sym (append_assoc (spelled_blocks bs) (left_paren ∷ id_at at (codes "CONDITIONTYPE") ∷ []) (w ∷ []))
any_reads (behind_type_word bs at place kind) t w e =
    type_word_reads bs at place kind w t e ∙ sym (append_assoc (spelled_blocks bs) (left_paren ∷ id_at at (codes "CONDITIONTYPE") ∷ id_at place (type_text kind) ∷ []) (w ∷ []))
any_reads (in_variables bs at names) t w e = variables_read bs at names w t e ∙ sym (append_assoc (spelled_blocks bs) (left_paren ∷ id_at at (codes "VAR") ∷ map (λ n. id n) names) (w ∷ []))
any_reads (in_rules bs at r) t w e = rules_read bs at r w t e ∙ sym (append_assoc (spelled_blocks bs) (left_paren ∷ id_at at (codes "RULES") ∷ reading_words r) (w ∷ []))
