-- What the reader of rules has read is spelled so.
use Rattle.std.proofs.Common.{◌≡◌, ℕ, List, [], ◌∷◌, ◌++◌, Option, Some, None, refl, sym, ap, subst, ◌∙◌, append_assoc}
use Rattle.std.proofs.lemmas.List.{append-nil}
use Rattle.std.specs.Option.{option_map}
use Rattle.std.proofs.lemmas.Option.{same_Some}
use Rattle.file_text.specs.Syntax.{Name, Phrase, Phrases, word, call, none, more, with_last, ConditionTree, RuleTree}
use Rattle.file_text.specs.Grammar.{Word, id, left_paren, right_paren, comma, bar, arrow, equal, spelled, spelled_arguments, spelled_further, spelled_condition, spelled_others}
use Rattle.file_text.specs.Grammar.{spelled_guard, spelled_rule, spelled_rules}
use Rattle.file_text.proofs.Machine.{Last, want, first, bare, done, Opens, Part, left, right, condition_left, condition_right, Reading, reading, with_condition, guard_with, ended}
use Rattle.file_text.proofs.Machine.{next_part, behind_side, behind_argument, behind, step_term, unbegun, with_ended, whole, closing}

-- terms with a comma behind each
abbrev pub commaed : Phrases → List Word
commaed none = []
commaed (more t ts) = spelled t ++ comma ∷ commaed ts

-- the words up to the inmost open bracket, and the arguments behind it
abbrev pub open_words : Opens → List Word
open_words [] = []
open_words (o ∷ os) = open_words os ++ (id o.0 ∷ left_paren ∷ commaed o.1)

abbrev pub last_words : Last → List Word
last_words want = []
last_words (first g) = id g ∷ left_paren ∷ []
last_words (bare f) = id f ∷ []
last_words (done t) = spelled t

-- a bar, and conditions with a comma behind each
abbrev pub begun : ℕ → List ConditionTree → List Word
begun at [] = bar at ∷ []
begun at (c ∷ cs) = bar at ∷ (spelled_condition c ++ (spelled_others cs ++ comma ∷ []))

abbrev pub part_words : Part → List Word
part_words left = []
part_words (right l) = spelled l ++ arrow ∷ []
part_words (condition_left l r at cs) = spelled l ++ arrow ∷ (spelled r ++ begun at cs)
part_words (condition_right l r at cs s) = spelled l ++ arrow ∷ (spelled r ++ (begun at cs ++ (spelled s ++ equal ∷ [])))

-- the words of a reading, with these instead of what was read last and what is open
abbrev pub with_words : List RuleTree → Part → List Word → List Word
with_words rs p ws = spelled_rules rs ++ (part_words p ++ ws)

abbrev pub reading_words : Reading → List Word
reading_words s = with_words s.rules s.part (open_words s.opens ++ last_words s.last)

commaed-last : (ts : Phrases) (t : Phrase) → commaed (with_last ts t) ≡ commaed ts ++ (spelled t ++ comma ∷ [])
commaed-last none t = refl
commaed-last (more u us) t = ap (λ (w : List Word). spelled u ++ comma ∷ w) (commaed-last us t) ∙ sym (append_assoc (spelled u) (comma ∷ commaed us) (spelled t ++ comma ∷ []))

further-last : (ts : Phrases) (t : Phrase) → comma ∷ (commaed ts ++ spelled t) ≡ spelled_further (with_last ts t)
further-last none t = ap (λ (w : List Word). comma ∷ w) (sym (append-nil (spelled t)))
further-last (more u us) t =
    ap (λ (w : List Word). comma ∷ w) (append_assoc (spelled u) (comma ∷ commaed us) (spelled t)) ∙ ap (λ (w : List Word). comma ∷ (spelled u ++ w)) (further-last us t)

pub arguments-last : (ts : Phrases) (t : Phrase) → commaed ts ++ spelled t ≡ spelled_arguments (with_last ts t)
arguments-last none t = sym (append-nil (spelled t))
arguments-last (more u us) t = append_assoc (spelled u) (comma ∷ commaed us) (spelled t) ∙ ap (λ (w : List Word). spelled u ++ w) (further-last us t)

others-last : (cs : List ConditionTree) (c : ConditionTree) → spelled_others (cs ++ c ∷ []) ≡ spelled_others cs ++ comma ∷ spelled_condition c
others-last [] c = ap (λ (w : List Word). comma ∷ w) (append-nil (spelled_condition c))
others-last (d ∷ ds) c =
    ap (λ (w : List Word). comma ∷ (spelled_condition d ++ w)) (others-last ds c)
    ∙ ap (λ (w : List Word). comma ∷ w) (sym (append_assoc (spelled_condition d) (spelled_others ds) (comma ∷ spelled_condition c)))

guard-last : (at : ℕ) (cs : List ConditionTree) (c : ConditionTree) → spelled_guard (Some (guard_with at cs c)) ≡ begun at cs ++ spelled_condition c
guard-last at [] c = ap (λ (w : List Word). bar at ∷ w) (append-nil (spelled_condition c))
guard-last at (d ∷ ds) c = ap (λ (w : List Word). bar at ∷ (spelled_condition d ++ w)) (others-last ds c) ∙ simp append_assoc

begun-last : (at : ℕ) (cs : List ConditionTree) (c : ConditionTree) → begun at (cs ++ c ∷ []) ≡ begun at cs ++ (spelled_condition c ++ comma ∷ [])
begun-last at [] c = refl
begun-last at (d ∷ ds) c = ap (λ (w : List Word). bar at ∷ (spelled_condition d ++ (w ++ comma ∷ []))) (others-last ds c) ∙ simp append_assoc

pub rules-last : (rs : List RuleTree) (r : RuleTree) → spelled_rules (rs ++ r ∷ []) ≡ spelled_rules rs ++ spelled_rule r
rules-last [] r = append-nil (spelled_rule r)
rules-last (q ∷ qs) r = ap (λ (w : List Word). spelled_rule q ++ w) (rules-last qs r) ∙ sym (append_assoc (spelled_rule q) (spelled_rules qs) (spelled_rule r))

abbrev rule_to : Phrase → Phrase → RuleTree
rule_to l t = record { left = l; right = t; guard = None }

abbrev pub rule_if : Phrase → Phrase → ℕ → List ConditionTree → Phrase → Phrase → RuleTree
rule_if l r at cs s t = record { left = l; right = r; guard = Some (guard_with at cs record { left = s; right = t }) }

pub ended_reads : (p : Part) (t : Phrase) (r : RuleTree) → ended p t ≡ Some r → spelled_rule r ≡ part_words p ++ spelled t
ended_reads left t r e = absurd cc
ended_reads (right l) t r e =
    subst (λ (q : RuleTree). spelled_rule q ≡ part_words (right l) ++ spelled t) (same_Some (rule_to l t) r e)
    (ap (λ (w : List Word). spelled l ++ arrow ∷ w) (append-nil (spelled t)) ∙ simp append_assoc)
ended_reads (condition_left l r at cs) t q e = absurd cc
ended_reads (condition_right l r at cs s) t q e =
    subst (λ (q : RuleTree). spelled_rule q ≡ part_words (condition_right l r at cs s) ++ spelled t) (same_Some (rule_if l r at cs s t) q e)
    (ap (λ (w : List Word). spelled l ++ arrow ∷ (spelled r ++ w)) (guard-last at cs record { left = s; right = t }) ∙ simp append_assoc)

next_reads : (p : Part) (t : Phrase) (w : Word) (q : Part) → next_part p t w ≡ Some q → part_words q ≡ part_words p ++ (spelled t ++ w ∷ [])
next_reads left t arrow q e = subst (λ (v : Part). part_words v ≡ spelled t ++ arrow ∷ []) (same_Some (right t) q e) refl
next_reads left t _ q e = absurd cc
next_reads (right l) t (bar at) q e =
    subst (λ (v : Part). part_words v ≡ part_words (right l) ++ (spelled t ++ bar at ∷ [])) (same_Some (condition_left l t at []) q e) (simp append_assoc)
next_reads (right l) t _ q e = absurd cc
next_reads (condition_left l r at cs) t equal q e =
    subst (λ (v : Part). part_words v ≡ part_words (condition_left l r at cs) ++ (spelled t ++ equal ∷ [])) (same_Some (condition_right l r at cs t) q e) (simp append_assoc)
next_reads (condition_left l r at cs) t _ q e = absurd cc
next_reads (condition_right l r at cs s) t comma q e =
    subst (λ (v : Part). part_words v ≡ part_words (condition_right l r at cs s) ++ (spelled t ++ comma ∷ [])) (same_Some (condition_left l r at (with_condition cs s t)) q e)
    (ap (λ (w : List Word). spelled l ++ arrow ∷ (spelled r ++ w)) (begun-last at cs record { left = s; right = t }) ∙ simp append_assoc)
next_reads (condition_right l r at cs s) t _ q e = absurd cc

pub map_some : {A B P : Type 0} (f : A → B) (o : Option A) (y : B) → option_map f o ≡ Some y → ((x : A) → o ≡ Some x → f x ≡ y → P) → P
map_some f None y e k = absurd cc
map_some f (Some x) y e k = k x refl (same_Some (f x) y e)

sign_reads : (rs : List RuleTree) (p : Part) (t : Phrase) (w : Word) (s : Reading) → option_map (λ q. reading rs q [] want) (next_part p t w) ≡ Some s
    → reading_words s ≡ with_words rs p (spelled t ++ w ∷ [])
sign_reads rs p t w s e =
    map_some (λ q. reading rs q [] want) (next_part p t w) s e
    (λ q is same. subst (λ (v : Reading). reading_words v ≡ with_words rs p (spelled t ++ w ∷ [])) same
    (ap (λ (v : List Word). spelled_rules rs ++ v) (append-nil (part_words q) ∙ next_reads p t w q is)))

rule_reads : (rs : List RuleTree) (p : Part) (t : Phrase) (f : Name) (s : Reading) → option_map (λ r. reading (rs ++ r ∷ []) left [] (bare f)) (ended p t) ≡ Some s
    → reading_words s ≡ with_words rs p (spelled t ++ id f ∷ [])
rule_reads rs p t f s e =
    map_some (λ r. reading (rs ++ r ∷ []) left [] (bare f)) (ended p t) s e
    (λ r is same. subst (λ (v : Reading). reading_words v ≡ with_words rs p (spelled t ++ id f ∷ [])) same
    (ap (λ (v : List Word). v ++ id f ∷ []) (rules-last rs r ∙ ap (λ (v : List Word). spelled_rules rs ++ v) (ended_reads p t r is)) ∙ simp append_assoc))

side_reads : (rs : List RuleTree) (p : Part) (t : Phrase) (w : Word) (s : Reading) → behind_side rs p t w ≡ Some s → reading_words s ≡ with_words rs p (spelled t ++ w ∷ [])
side_reads rs p t (id f) s e = rule_reads rs p t f s e
side_reads rs p t left_paren s e = sign_reads rs p t left_paren s e
side_reads rs p t right_paren s e = sign_reads rs p t right_paren s e
side_reads rs p t comma s e = sign_reads rs p t comma s e
side_reads rs p t (bar at) s e = sign_reads rs p t (bar at) s e
side_reads rs p t arrow s e = sign_reads rs p t arrow s e
side_reads rs p t equal s e = sign_reads rs p t equal s e

-- the reading is the one that is made, and its words are these
made_reads : (m s : Reading) (ws : List Word) → Some m ≡ Some s → reading_words m ≡ ws → reading_words s ≡ ws
made_reads m s ws e h = subst (λ (v : Reading). reading_words v ≡ ws) (same_Some m s e) h

argument_reads : (rs : List RuleTree) (p : Part) (g : Name) (ts : Phrases) (os : Opens) (t : Phrase) (w : Word) (s : Reading) → behind_argument rs p g ts os t w ≡ Some s
    → reading_words s ≡ with_words rs p ((open_words os ++ (id g ∷ left_paren ∷ commaed ts)) ++ (spelled t ++ w ∷ []))
argument_reads rs p g ts os t right_paren s e =
    made_reads (reading rs p os (done (call g (with_last ts t)))) s _ e
    (ap (λ (v : List Word). with_words rs p (open_words os ++ (id g ∷ left_paren ∷ (v ++ right_paren ∷ [])))) (sym (arguments-last ts t)) ∙ simp append_assoc)
argument_reads rs p g ts os t comma s e =
    made_reads (reading rs p ((g, with_last ts t) ∷ os) want) s _ e
    (ap (with_words rs p) (append-nil (open_words os ++ (id g ∷ left_paren ∷ commaed (with_last ts t))))
    ∙ ap (λ (v : List Word). with_words rs p (open_words os ++ (id g ∷ left_paren ∷ v))) (commaed-last ts t) ∙ simp append_assoc)
argument_reads rs p g ts os t _ s e = absurd cc

behind_reads : (rs : List RuleTree) (p : Part) (os : Opens) (t : Phrase) (w : Word) (s : Reading) → behind rs p os t w ≡ Some s
    → reading_words s ≡ with_words rs p (open_words os ++ (spelled t ++ w ∷ []))
behind_reads rs p [] t w s e = side_reads rs p t w s e
behind_reads rs p (o ∷ os) t w s e = argument_reads rs p o.0 o.1 os t w s e

step_reads : (rs : List RuleTree) (p : Part) (os : Opens) (l : Last) (w : Word) (s : Reading) → step_term rs p os l w ≡ Some s
    → reading_words s ≡ with_words rs p (open_words os ++ (last_words l ++ w ∷ []))
step_reads rs p os want (id f) s e = made_reads (reading rs p os (bare f)) s _ e refl
step_reads rs p os want _ s e = absurd cc
step_reads rs p os (first g) (id f) s e = made_reads (reading rs p ((g, none) ∷ os) (bare f)) s _ e (ap (with_words rs p) (append_assoc (open_words os) (id g ∷ left_paren ∷ []) (id f ∷ [])))
step_reads rs p os (first g) right_paren s e = made_reads (reading rs p os (done (call g none))) s _ e refl
step_reads rs p os (first g) _ s e = absurd cc
step_reads rs p os (bare f) left_paren s e = made_reads (reading rs p os (first f)) s _ e refl
step_reads rs p os (bare f) (id g) s e = behind_reads rs p os (word f) (id g) s e
step_reads rs p os (bare f) right_paren s e = behind_reads rs p os (word f) right_paren s e
step_reads rs p os (bare f) comma s e = behind_reads rs p os (word f) comma s e
step_reads rs p os (bare f) (bar at) s e = behind_reads rs p os (word f) (bar at) s e
step_reads rs p os (bare f) arrow s e = behind_reads rs p os (word f) arrow s e
step_reads rs p os (bare f) equal s e = behind_reads rs p os (word f) equal s e
step_reads rs p os (done t) w s e = behind_reads rs p os t w s e

-- a step adds its word
pub term_reads : (r : Reading) (w : Word) (s : Reading) → step_term r.rules r.part r.opens r.last w ≡ Some s → reading_words s ≡ reading_words r ++ w ∷ []
term_reads r w s e = step_reads r.rules r.part r.opens r.last w s e ∙ regroup (spelled_rules r.rules) (part_words r.part) (open_words r.opens) (last_words r.last)
  where
    regroup : (a b c d : List Word) → a ++ (b ++ (c ++ (d ++ w ∷ []))) ≡ (a ++ (b ++ (c ++ d))) ++ w ∷ []
    regroup a b c d = simp append_assoc

unbegun_reads : (p : Part) (rs qs : List RuleTree) → unbegun p rs ≡ Some qs → spelled_rules qs ≡ with_words rs p []
unbegun_reads left rs qs e = subst (λ (v : List RuleTree). spelled_rules v ≡ with_words rs left []) (same_Some rs qs e) (sym (append-nil (spelled_rules rs)))
unbegun_reads (right l) rs qs e = absurd cc
unbegun_reads (condition_left l r at cs) rs qs e = absurd cc
unbegun_reads (condition_right l r at cs s) rs qs e = absurd cc

with_ended_reads : (rs : List RuleTree) (p : Part) (t : Phrase) (qs : List RuleTree) → with_ended rs p t ≡ Some qs → spelled_rules qs ≡ with_words rs p (spelled t)
with_ended_reads rs p t qs e =
    map_some (λ r. rs ++ r ∷ []) (ended p t) qs e
    (λ r is same. subst (λ (v : List RuleTree). spelled_rules v ≡ with_words rs p (spelled t)) same (rules-last rs r ∙ ap (λ (v : List Word). spelled_rules rs ++ v) (ended_reads p t r is)))

-- the words of rules that are whole
pub whole_reads : (rs : List RuleTree) (p : Part) (os : Opens) (l : Last) (qs : List RuleTree) → whole rs p os l ≡ Some qs → spelled_rules qs ≡ with_words rs p (open_words os ++ last_words l)
whole_reads rs p (o ∷ os) l qs e = absurd cc
whole_reads rs p [] want qs e = unbegun_reads p rs qs e
whole_reads rs p [] (first g) qs e = absurd cc
whole_reads rs p [] (bare f) qs e = with_ended_reads rs p (word f) qs e
whole_reads rs p [] (done t) qs e = with_ended_reads rs p t qs e

pub closing_reads : (r : Reading) (w : Word) (qs : List RuleTree) → closing r w ≡ Some qs → reading_words r ++ w ∷ [] ≡ spelled_rules qs ++ right_paren ∷ []
closing_reads r right_paren qs e = ap (λ (v : List Word). v ++ right_paren ∷ []) (sym (whole_reads r.rules r.part r.opens r.last qs e))
closing_reads r _ qs e = absurd cc
