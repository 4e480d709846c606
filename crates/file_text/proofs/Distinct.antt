-- No title stands twice in what the reader of files has read.
use Rattle.std.proofs.Common.{◌≡◌, ℕ, Bool, true, false, ◌&&◌, ◌||◌, not, if◌then◌else◌, List, [], ◌∷◌, ◌++◌, Option, Some, None, Result, Ok, Err, refl, sym, subst, ◌∙◌, append_assoc, codes, bytes_eq}
use Rattle.std.proofs.lemmas.List.Folds.{list_any-append}
use Rattle.std.proofs.lemmas.Slice.Eq.{bytes_eq-Decides}
use Rattle.std.proofs.lemmas.Bool.{not-true, and_parts, or_from, or_parts, and_left}
use Rattle.file_text.specs.declared.ConditionType.{ConditionType}
use Rattle.file_text.specs.declared.ConditionType.TheVariants.{Oriented, Join}
use Rattle.file_text.specs.Syntax.{Name, RuleTree}
use Rattle.file_text.specs.Grammar.{Word, id, left_paren, right_paren, Block, condition_type, variables, rules, title, has_block, are_distinct}
use Rattle.file_text.specs.Refusals.{SyntaxCause, unknown_block, other_condition_type}
use Rattle.file_text.proofs.Machine.{Reading, no_rule, closing, step_term, State, outside, behind_bracket, behind_type, behind_type_word, in_variables, in_rules, step_outside}
use Rattle.file_text.proofs.Machine.{titled, step_bracket, step_type, step_type_word, step_variables, rules_or, step_any, repeats}
use Rattle.file_text.proofs.Goes.{taken, goes, goes_word}
use Rattle.file_text.proofs.StateReads.{made, made_is, one_or, one_of}
use Rattle.file_text.proofs.BlockRuns.{AreFree}

both_true : (a b : Bool) → a ≡ false → b ≡ true → (not a && b) ≡ true
both_true true b e h = absurd cc
both_true false b e h = h

apart_sym : (xs ys : List ℕ) → bytes_eq xs ys ≡ false → bytes_eq ys xs ≡ false
apart_sym xs ys e = go (bytes_eq ys xs) refl
  where
    go : (b : Bool) → bytes_eq ys xs ≡ b → b ≡ false
    go false h = refl
    go true h =
        let same : ys ≡ xs = (bytes_eq-Decides ys xs).0 h in
        let again : bytes_eq xs ys ≡ true = (bytes_eq-Decides xs ys).1 (sym same) in
        absurd cc

has-append : (bs cs : List Block) (text : List ℕ) → has_block (bs ++ cs) text ≡ (has_block bs text || has_block cs text)
has-append bs cs text = list_any-append (λ b. bytes_eq text (title b)) bs cs

distinct_push : (bs : List Block) (b : Block) → are_distinct bs ≡ true → has_block bs (title b) ≡ false → are_distinct (bs ++ b ∷ []) ≡ true
distinct_push [] b d h = refl
distinct_push (c ∷ cs) b d h =
    let here = and_parts (not (has_block cs (title c))) (are_distinct cs) d in
    let apart = or_parts (bytes_eq (title b) (title c)) (has_block cs (title b)) h in
    let there : has_block (b ∷ []) (title c) ≡ false = or_from (bytes_eq (title c) (title b)) false (apart_sym (title b) (title c) apart.0) refl in
    both_true (has_block (cs ++ b ∷ []) (title c)) (are_distinct (cs ++ b ∷ []))
    (has-append cs (b ∷ []) (title c) ∙ or_from (has_block cs (title c)) (has_block (b ∷ []) (title c)) (not-true (has_block cs (title c)) here.0) there)
    (distinct_push cs b here.1 apart.1)

distinct_before : (bs : List Block) (c : Block) (cs : List Block) → are_distinct (bs ++ c ∷ cs) ≡ true → has_block bs (title c) ≡ false
distinct_before [] c cs d = refl
distinct_before (b ∷ bs) c cs d =
    let here = and_parts (not (has_block (bs ++ c ∷ cs) (title b))) (are_distinct (bs ++ c ∷ cs)) d in
    let apart = or_parts (has_block bs (title b)) (has_block (c ∷ cs) (title b)) (sym (has-append bs (c ∷ cs) (title b)) ∙ not-true (has_block (bs ++ c ∷ cs) (title b)) here.0) in
    let first = or_parts (bytes_eq (title b) (title c)) (has_block cs (title b)) apart.1 in
    or_from (bytes_eq (title c) (title b)) (has_block bs (title c)) (apart_sym (title b) (title c) first.0) (distinct_before bs c cs here.1)

pub distinct_free : (cs bs : List Block) → are_distinct (bs ++ cs) ≡ true → AreFree true bs cs
distinct_free [] bs d = tt
distinct_free (c ∷ cs) bs d =
    (and_left (has_block bs (title c)) true (distinct_before bs c cs d), distinct_free cs (bs ++ c ∷ []) (subst (λ (ds : List Block). are_distinct ds ≡ true) (sym (append_assoc bs (c ∷ []) cs)) d))

-- the blocks are distinct, and the one that is begun has a new title
abbrev pub HasNew : List Block → List ℕ → Type 0
HasNew bs text = (are_distinct bs ≡ true) × (has_block bs text ≡ false)

abbrev pub IsNew : State → Type 0
IsNew (outside bs) = are_distinct bs ≡ true
IsNew (behind_bracket bs) = are_distinct bs ≡ true
IsNew (behind_type bs at) = HasNew bs (codes "CONDITIONTYPE")
IsNew (behind_type_word bs at place kind) = HasNew bs (codes "CONDITIONTYPE")
IsNew (in_variables bs at names) = HasNew bs (codes "VAR")
IsNew (in_rules bs at r) = HasNew bs (codes "RULES")

made_new : (m t : State) → made m ≡ Ok t → IsNew m → IsNew t
made_new m t e h = subst IsNew (made_is m t e) h

ended_new : (bs : List Block) (b : Block) (t : State) → made (outside (bs ++ b ∷ [])) ≡ Ok t → HasNew bs (title b) → IsNew t
ended_new bs b t e h = made_new (outside (bs ++ b ∷ [])) t e (distinct_push bs b h.0 h.1)

title_new : (bs : List Block) (name : Name) (t : State) → titled bs name ≡ Ok t → are_distinct bs ≡ true → has_block bs name.text ≡ false → IsNew t
title_new bs name t e d free =
    one_of (bytes_eq name.text (codes "CONDITIONTYPE")) (behind_type bs name.at)
    (one_or (bytes_eq name.text (codes "VAR")) (in_variables bs name.at []) (one_or (bytes_eq name.text (codes "RULES")) (in_rules bs name.at no_rule) (Err unknown_block))) t e
    (λ is h. made_new (behind_type bs name.at) t h (begun (codes "CONDITIONTYPE") is))
    (λ e. one_of (bytes_eq name.text (codes "VAR")) (in_variables bs name.at []) (one_or (bytes_eq name.text (codes "RULES")) (in_rules bs name.at no_rule) (Err unknown_block)) t e
    (λ is h. made_new (in_variables bs name.at []) t h (begun (codes "VAR") is))
    (λ e. one_of (bytes_eq name.text (codes "RULES")) (in_rules bs name.at no_rule) (Err unknown_block) t e
    (λ is h. made_new (in_rules bs name.at no_rule) t h (begun (codes "RULES") is))
    (λ e. absurd cc)))
  where
    begun : (text : List ℕ) → bytes_eq name.text text ≡ true → HasNew bs text
    begun text is = (d, subst (λ (t : List ℕ). has_block bs t ≡ false) ((bytes_eq-Decides name.text text).0 is) free)

outside_new : (bs : List Block) (w : Word) (t : State) → step_outside bs w ≡ Ok t → are_distinct bs ≡ true → IsNew t
outside_new bs left_paren t e d = made_new (behind_bracket bs) t e d
outside_new bs _ t e d = absurd cc

bracket_new : (bs : List Block) (w : Word) (t : State) → step_bracket bs w ≡ Ok t → are_distinct bs ≡ true → repeats (behind_bracket bs) w ≡ false → IsNew t
bracket_new bs (id name) t e d free = title_new bs name t e d free
bracket_new bs _ t e d free = absurd cc

type_new : (bs : List Block) (at : ℕ) (w : Word) (t : State) → step_type bs at w ≡ Ok t → HasNew bs (codes "CONDITIONTYPE") → IsNew t
type_new bs at (id name) t e h =
    one_of (bytes_eq name.text (codes "ORIENTED")) (behind_type_word bs at name.at Oriented)
    (one_or (bytes_eq name.text (codes "JOIN")) (behind_type_word bs at name.at Join) (Err other_condition_type)) t e
    (λ is same. made_new (behind_type_word bs at name.at Oriented) t same h)
    (λ e. one_of (bytes_eq name.text (codes "JOIN")) (behind_type_word bs at name.at Join) (Err other_condition_type) t e
    (λ is same. made_new (behind_type_word bs at name.at Join) t same h) (λ e. absurd cc))
type_new bs at _ t e h = absurd cc

type_word_new : (bs : List Block) (at place : ℕ) (kind : ConditionType) (w : Word) (t : State) → step_type_word bs at place kind w ≡ Ok t → HasNew bs (codes "CONDITIONTYPE") → IsNew t
type_word_new bs at place kind right_paren t e h = ended_new bs (condition_type at place kind) t e h
type_word_new bs at place kind _ t e h = absurd cc

variables_new : (bs : List Block) (at : ℕ) (names : List Name) (w : Word) (t : State) → step_variables bs at names w ≡ Ok t → HasNew bs (codes "VAR") → IsNew t
variables_new bs at names (id name) t e h = made_new (in_variables bs at (names ++ name ∷ [])) t e h
variables_new bs at names right_paren t e h = ended_new bs (variables at names) t e h
variables_new bs at names _ t e h = absurd cc

rules_new : (bs : List Block) (at : ℕ) (m : Option (List RuleTree)) (r : Option Reading) (t : State) → rules_or bs at m r ≡ Ok t → HasNew bs (codes "RULES") → IsNew t
rules_new bs at (Some rs) r t e h = ended_new bs (rules at rs) t e h
rules_new bs at None None t e h = absurd cc
rules_new bs at None (Some r) t e h = made_new (in_rules bs at r) t e h

any_new : (s t : State) (w : Word) → step_any s w ≡ Ok t → repeats s w ≡ false → IsNew s → IsNew t
any_new (outside bs) t w e free h = outside_new bs w t e h
any_new (behind_bracket bs) t w e free h = bracket_new bs w t e h free
any_new (behind_type bs at) t w e free h = type_new bs at w t e h
any_new (behind_type_word bs at place kind) t w e free h = type_word_new bs at place kind w t e h
any_new (in_variables bs at names) t w e free h = variables_new bs at names w t e h
any_new (in_rules bs at r) t w e free h = rules_new bs at (closing r w) (step_term r.rules r.part r.opens r.last w) t e h

pub taken_is : (r : Result State SyntaxCause) (t : State) → taken r ≡ Some t → r ≡ Ok t
taken_is (Ok s) t e = cc
taken_is (Err c) t e = absurd cc

one_parts : (b : Bool) (r : Result State SyntaxCause) (t : State) → (if b && true then None else taken r) ≡ Some t → (b ≡ false) × (r ≡ Ok t)
one_parts true r t e = absurd cc
one_parts false r t e = (refl, taken_is r t e)

pub goes_new : (ws : List Word) (s t : State) → goes true s ws ≡ Some t → IsNew s → IsNew t
goes_new [] s t e h = let same : s ≡ t = cc in subst IsNew same h
goes_new (w ∷ ws) s t e h =
    let step = goes_word true w ws s t e in
    let one = one_parts (repeats s w) (step_any s w) step.0 step.1 in
    goes_new ws step.0 t step.2 (any_new s step.0 w one.1 one.0 h)
