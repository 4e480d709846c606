-- Where the reader of files refuses a word, this word calls for the refusal, and the other way round.
use Rattle.std.proofs.Common.{◌≡◌, ℕ, Bool, true, false, ◌||◌, if◌then◌else◌, List, [], ◌∷◌, ◌++◌, Option, Some, None, Result, Ok, Err, refl, sym, ap, subst, ◌∙◌, codes, bytes_eq}
use Rattle.std.proofs.Math.Bool.{and-false}
use Rattle.std.proofs.lemmas.Bool.{or_left, or_right}
use Rattle.std.proofs.lemmas.Option.{same_Some}
use Rattle.file_text.specs.declared.ConditionType.{ConditionType}
use Rattle.file_text.specs.declared.ConditionType.TheVariants.{Oriented, Join}
use Rattle.file_text.specs.Syntax.{Name, RuleTree}
use Rattle.file_text.specs.Grammar.{Word, id, left_paren, right_paren, id_at, Block, condition_type, variables, rules, title, has_block, spelled_blocks}
use Rattle.file_text.specs.Refusals.{SyntaxCause, unknown_block, repeated_block, other_condition_type, wrong_syntax, missing_rules, Begins, is_title, IsUnknownBlock}
use Rattle.file_text.specs.Refusals.{IsRepeatedBlock, IsOtherConditionType, IsWrongSyntax, Calls}
use Rattle.file_text.proofs.Machine.{Reading, no_rule, closing, step_term, State, outside, behind_bracket, behind_type, behind_type_word, in_variables, in_rules, step_outside}
use Rattle.file_text.proofs.Machine.{titled, step_bracket, step_type, step_type_word, step_variables, rules_or, step_any, repeats_block, repeats, step}
use Rattle.file_text.proofs.Closing.{state_words, state_closes}
use Rattle.file_text.proofs.Goes.{goes_one, goes, goes_then, goes_front, goes_word, goes_one_end, goes_any, step_goes}
use Rattle.file_text.proofs.StateReads.{made}
use Rattle.file_text.proofs.BlockRuns.{title_goes, any_go}
use Rattle.file_text.proofs.Files.{any_step, goes_words}

abbrev pub refuse : SyntaxCause → Result State SyntaxCause
refuse c = Err c

pub cause_is : (c d : SyntaxCause) → refuse c ≡ Err d → c ≡ d
cause_is c d e = cc

-- ---- a word that calls for one of the three causes is refused

has_title_one : (text : List ℕ) (b : Block) → bytes_eq text (title b) ≡ true → is_title text ≡ true
has_title_one text (condition_type p q kind) e = or_left (bytes_eq text (codes "CONDITIONTYPE") || bytes_eq text (codes "VAR")) (bytes_eq text (codes "RULES"))
    (or_left (bytes_eq text (codes "CONDITIONTYPE")) (bytes_eq text (codes "VAR")) e)
has_title_one text (variables p names) e = or_left (bytes_eq text (codes "CONDITIONTYPE") || bytes_eq text (codes "VAR")) (bytes_eq text (codes "RULES"))
    (or_right (bytes_eq text (codes "CONDITIONTYPE")) (bytes_eq text (codes "VAR")) e)
has_title_one text (rules p rs) e = or_right (bytes_eq text (codes "CONDITIONTYPE") || bytes_eq text (codes "VAR")) (bytes_eq text (codes "RULES")) e

-- a title of a block is one of the three
has_title : (bs : List Block) (text : List ℕ) → is_title text ≡ false → has_block bs text ≡ false
has_title [] text e = refl
has_title (b ∷ bs) text e = go (bytes_eq text (title b)) refl (has_title bs text e)
  where
    go : (x : Bool) → bytes_eq text (title b) ≡ x → has_block bs text ≡ false → (x || has_block bs text) ≡ false
    go true is h = let h = has_title_one text b is in absurd cc
    go false is h = h

no_title : (a b c : Bool) (x y z e : Result State SyntaxCause) → (a || b || c) ≡ false → (if a then x else if b then y else if c then z else e) ≡ e
no_title true b c x y z e h = absurd cc
no_title false true c x y z e h = absurd cc
no_title false false true x y z e h = absurd cc
no_title false false false x y z e h = refl

same_state : (front ws : List Word) (s t : State) → goes true (outside []) front ≡ Some s → front ≡ ws → goes false (outside []) ws ≡ Some t → s ≡ t
same_state front ws s t e is h = same_Some s t (sym (goes_any front (outside []) s e) ∙ ap (goes false (outside [])) is ∙ h)

bracket_go : (bs : List Block) → goes false (outside []) (spelled_blocks bs ++ left_paren ∷ []) ≡ Some (behind_bracket bs)
bracket_go bs = goes_then false (spelled_blocks bs) (left_paren ∷ []) (outside []) (outside bs) (any_go bs)

type_go : (bs : List Block) (p : ℕ) → goes false (outside []) (spelled_blocks bs ++ left_paren ∷ id_at p (codes "CONDITIONTYPE") ∷ []) ≡ Some (behind_type bs p)
type_go bs p =
    goes_then false (spelled_blocks bs) (left_paren ∷ id_at p (codes "CONDITIONTYPE") ∷ []) (outside []) (outside bs) (any_go bs)
    ∙ title_goes false bs p (codes "CONDITIONTYPE") (behind_type bs p) [] (and-false (has_block bs (codes "CONDITIONTYPE"))) refl

pub refuses_unknown : (front : List Word) (w : Word) (s : State) → goes true (outside []) front ≡ Some s → IsUnknownBlock front w → step s w ≡ Err unknown_block
refuses_unknown front w s e (bs, name, split, is, new) =
    ap (λ (s : State). step s w) (same_state front _ s (behind_bracket bs) e split (bracket_go bs)) ∙ ap (step (behind_bracket bs)) is
    ∙ ap (λ (b : Bool). if b then refuse repeated_block else titled bs name) (has_title bs name.text new)
    ∙ no_title (bytes_eq name.text (codes "CONDITIONTYPE")) (bytes_eq name.text (codes "VAR")) (bytes_eq name.text (codes "RULES")) (made (behind_type bs name.at))
    (made (in_variables bs name.at [])) (made (in_rules bs name.at no_rule))
    (refuse unknown_block) new

pub refuses_repeated : (front : List Word) (w : Word) (s : State) → goes true (outside []) front ≡ Some s → IsRepeatedBlock front w → step s w ≡ Err repeated_block
refuses_repeated front w s e (bs, name, split, is, there) =
    ap (λ (s : State). step s w) (same_state front _ s (behind_bracket bs) e split (bracket_go bs)) ∙ ap (step (behind_bracket bs)) is
    ∙ ap (λ (b : Bool). if b then refuse repeated_block else titled bs name) there

no_type : {A : Type 0} (a b : Bool) (x y z : A) → (a || b) ≡ false → (if a then x else if b then y else z) ≡ z
no_type true b x y z e = absurd cc
no_type false true x y z e = absurd cc
no_type false false x y z e = refl

pub refuses_other : (front : List Word) (w : Word) (s : State) → goes true (outside []) front ≡ Some s → IsOtherConditionType front w → step s w ≡ Err other_condition_type
refuses_other front w s e (bs, p, name, split, is, other) =
    ap (λ (s : State). step s w) (same_state front _ s (behind_type bs p) e split (type_go bs p)) ∙ ap (step (behind_type bs p)) is
    ∙ no_type (bytes_eq name.text (codes "ORIENTED")) (bytes_eq name.text (codes "JOIN"))
    (made (behind_type_word bs p name.at Oriented)) (made (behind_type_word bs p name.at Join)) (refuse other_condition_type) other

-- ---- the cause of a step that is refused

-- what the causes say of the words before and the word itself, of a step that lets blocks repeat
abbrev Blames : List Word → Word → SyntaxCause → Type 0
Blames front w unknown_block = IsUnknownBlock front w
Blames front w repeated_block = ⊥
Blames front w other_condition_type = IsOtherConditionType front w
Blames front w wrong_syntax = Unit {0}
Blames front w missing_rules = ⊥

wrong_blames : (front : List Word) (w : Word) (c : SyntaxCause) → refuse wrong_syntax ≡ Err c → Blames front w c
wrong_blames front w c e = subst (Blames front w) (cause_is wrong_syntax c e) tt

outside_blames : (bs : List Block) (w : Word) (c : SyntaxCause) → step_outside bs w ≡ Err c → Blames (spelled_blocks bs) w c
outside_blames bs left_paren c e = absurd cc
outside_blames bs _ c e = wrong_blames _ _ c e

unknown_of : (a b c : Bool) (x y z : State) (d : SyntaxCause) → (if a then made x else if b then made y else if c then made z else refuse unknown_block) ≡ Err d
    → (unknown_block ≡ d) × ((a || b || c) ≡ false)
unknown_of true b c x y z d e = absurd cc
unknown_of false true c x y z d e = absurd cc
unknown_of false false true x y z d e = absurd cc
unknown_of false false false x y z d e = (cause_is unknown_block d e, refl)

title_blames : (bs : List Block) (name : Name) (c : SyntaxCause) → titled bs name ≡ Err c → Blames (spelled_blocks bs ++ left_paren ∷ []) (id name) c
title_blames bs name c e =
    let h = unknown_of (bytes_eq name.text (codes "CONDITIONTYPE")) (bytes_eq name.text (codes "VAR")) (bytes_eq name.text (codes "RULES")) (behind_type bs name.at)
    (in_variables bs name.at []) (in_rules bs name.at no_rule) c e in
    subst (Blames (spelled_blocks bs ++ left_paren ∷ []) (id name)) h.0 (bs, name, refl, refl, h.1)

bracket_blames : (bs : List Block) (w : Word) (c : SyntaxCause) → step_bracket bs w ≡ Err c → Blames (spelled_blocks bs ++ left_paren ∷ []) w c
bracket_blames bs (id name) c e = title_blames bs name c e
bracket_blames bs _ c e = wrong_blames _ _ c e

other_of : (a b : Bool) (x y : State) (d : SyntaxCause) → (if a then made x else if b then made y else refuse other_condition_type) ≡ Err d → (other_condition_type ≡ d) × ((a || b) ≡ false)
other_of true b x y d e = absurd cc
other_of false true x y d e = absurd cc
other_of false false x y d e = (cause_is other_condition_type d e, refl)

type_blames : (bs : List Block) (at : ℕ) (w : Word) (c : SyntaxCause) → step_type bs at w ≡ Err c → Blames (spelled_blocks bs ++ left_paren ∷ id_at at (codes "CONDITIONTYPE") ∷ []) w c
type_blames bs at (id name) c e =
    let h = other_of (bytes_eq name.text (codes "ORIENTED")) (bytes_eq name.text (codes "JOIN")) (behind_type_word bs at name.at Oriented) (behind_type_word bs at name.at Join) c e in
    subst (Blames (spelled_blocks bs ++ left_paren ∷ id_at at (codes "CONDITIONTYPE") ∷ []) (id name)) h.0 (bs, at, name, refl, refl, h.1)
type_blames bs at _ c e = wrong_blames _ _ c e

type_word_blames : (front : List Word) (bs : List Block) (at place : ℕ) (kind : ConditionType) (w : Word) (c : SyntaxCause) → step_type_word bs at place kind w ≡ Err c → Blames front w c
type_word_blames front bs at place kind right_paren c e = absurd cc
type_word_blames front bs at place kind _ c e = wrong_blames _ _ c e

variables_blame : (front : List Word) (bs : List Block) (at : ℕ) (names : List Name) (w : Word) (c : SyntaxCause) → step_variables bs at names w ≡ Err c → Blames front w c
variables_blame front bs at names right_paren c e = absurd cc
variables_blame front bs at names (id f) c e = absurd cc
variables_blame front bs at names _ c e = wrong_blames _ _ c e

rules_blame : (front : List Word) (w : Word) (bs : List Block) (at : ℕ) (m : Option (List RuleTree)) (r : Option Reading) (c : SyntaxCause) → rules_or bs at m r ≡ Err c → Blames front w c
rules_blame front w bs at (Some rs) r c e = absurd cc
rules_blame front w bs at None (Some r) c e = absurd cc
rules_blame front w bs at None None c e = wrong_blames front w c e

any_blames : (s : State) (w : Word) (c : SyntaxCause) → step_any s w ≡ Err c → Blames (state_words s) w c
any_blames (outside bs) w c e = outside_blames bs w c e
any_blames (behind_bracket bs) w c e = bracket_blames bs w c e
any_blames (behind_type bs at) w c e = type_blames bs at w c e
any_blames (behind_type_word bs at place kind) w c e = type_word_blames _ bs at place kind w c e
any_blames (in_variables bs at names) w c e = variables_blame _ bs at names w c e
any_blames (in_rules bs at r) w c e = rules_blame _ w bs at (closing r w) (step_term r.rules r.part r.opens r.last w) c e

repeats_words : (s : State) (w : Word) → repeats s w ≡ true → IsRepeatedBlock (state_words s) w
repeats_words (outside bs) w e = absurd cc
repeats_words (behind_bracket bs) w e = go w e
  where
    go : (w : Word) → repeats_block bs w ≡ true → IsRepeatedBlock (spelled_blocks bs ++ left_paren ∷ []) w
    go (id name) e = (bs, name, refl, refl, e)
    go _ e = absurd cc
repeats_words (behind_type bs at) w e = absurd cc
repeats_words (behind_type_word bs at place kind) w e = absurd cc
repeats_words (in_variables bs at names) w e = absurd cc
repeats_words (in_rules bs at r) w e = absurd cc

-- ---- a word that is wrong goes on with no list of blocks

-- words that go on are taken
begins_go : (front : List Word) (w : Word) (s : State) → goes true (outside []) front ≡ Some s → Begins (front ++ w ∷ []) → (t : State) × (step_any s w ≡ Ok t)
begins_go front w s e (rest, bs, is) =
    let all = goes_front false (front ++ w ∷ []) rest (outside []) (outside bs) (ap (goes false (outside [])) is ∙ any_go bs) in
    let here = goes_front false front (w ∷ []) (outside []) all.0 all.1 in
    let same = same_Some here.0 s (sym here.1 ∙ goes_any front (outside []) s e) in
    let one = goes_word false w [] here.0 all.0 here.2 in
    (one.0, any_step (repeats s w) (step_any s w) one.0 (subst (λ (q : State). goes_one false q w ≡ Some one.0) same one.1))

not_taken : (b : Bool) (r : Result State SyntaxCause) (t : State) → r ≡ Ok t → (if b then refuse repeated_block else r) ≡ Err wrong_syntax → ⊥
not_taken true r t e h = cc
not_taken false r t e h = cc

wrong_calls : (front : List Word) (w : Word) (s : State) → goes true (outside []) front ≡ Some s → step s w ≡ Err wrong_syntax → IsWrongSyntax front w
wrong_calls front w s e is =
    record {
      stuck = λ b. let h = begins_go front w s e b in not_taken (repeats s w) (step_any s w) h.0 h.1 is;
      known = λ h. let other = refuses_unknown front w s e h in cc;
      new = λ h. let other = refuses_repeated front w s e h in cc;
      typed = λ h. let other = refuses_other front w s e h in cc;
    }

-- ---- both ways

-- a word that is refused calls for it
pub refused_calls : (front : List Word) (w : Word) (s : State) (c : SyntaxCause) → goes true (outside []) front ≡ Some s → step s w ≡ Err c → Calls c front w
refused_calls front w s c e is = go (repeats s w) refl is
  where
    words : state_words s ≡ front
    words = goes_words front s e

    blamed : (c : SyntaxCause) → step s w ≡ Err c → Blames (state_words s) w c → Calls c front w
    blamed unknown_block is h = subst (λ (v : List Word). IsUnknownBlock v w) words h
    blamed repeated_block is h = absurd h
    blamed other_condition_type is h = subst (λ (v : List Word). IsOtherConditionType v w) words h
    blamed wrong_syntax is h = wrong_calls front w s e is
    blamed missing_rules is h = absurd h

    go : (b : Bool) → repeats s w ≡ b → (if b then refuse repeated_block else step_any s w) ≡ Err c → Calls c front w
    go true r h = subst (λ (c : SyntaxCause). Calls c front w) (cause_is repeated_block c h) (subst (λ (v : List Word). IsRepeatedBlock v w) words (repeats_words s w r))
    go false r h = blamed c is (any_blames s w c h)

-- a word that calls for a refusal is refused
pub calls_refused : (front : List Word) (w : Word) (s : State) (c : SyntaxCause) → goes true (outside []) front ≡ Some s → Calls c front w → step s w ≡ Err c
calls_refused front w s unknown_block e h = refuses_unknown front w s e h
calls_refused front w s repeated_block e h = refuses_repeated front w s e h
calls_refused front w s other_condition_type e h = refuses_other front w s e h
calls_refused front w s wrong_syntax e h = go (step s w) refl
  where
    other : (c : SyntaxCause) → step s w ≡ Err c → Calls c front w → step s w ≡ Err wrong_syntax
    other unknown_block is calls = absurd (h.known calls)
    other repeated_block is calls = absurd (h.new calls)
    other other_condition_type is calls = absurd (h.typed calls)
    other wrong_syntax is calls = is
    other missing_rules is calls = absurd calls

    go : (r : Result State SyntaxCause) → step s w ≡ r → step s w ≡ Err wrong_syntax
    go (Ok t) is =
        let read = goes_words (front ++ w ∷ []) t (goes_then true front (w ∷ []) (outside []) s e ∙ goes_one_end true w s t (step_goes s t w is)) in
        let closed = state_closes t in
        absurd (h.stuck (closed.0, closed.1, ap (λ (v : List Word). v ++ closed.0) (sym read) ∙ closed.2))
    go (Err c) is = other c is (refused_calls front w s c e is)
calls_refused front w s missing_rules e h = absurd h
