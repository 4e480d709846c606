-- The blocks over lists that a reader of trees stands for.
use Rattle.std.proofs.Common.{◌≡◌, ℕ, Bool, true, false, cond, ◌&&◌, ◌||◌, List, [], ◌∷◌, ◌++◌, Option, Some, None, Result, Ok, Err, option_map, is_some, refl, sym, ap, subst, ◌∙◌, codes}
use Rattle.std.proofs.lemmas.Slice.Eq.{bytes_eq-Decides}
use Rattle.std.specs.Str.{bytes_eq}
use Rattle.std.proofs.Math.Bool.{and-false}
use Rattle.file_text.specs.declared.ConditionType.{ConditionType}
use Rattle.file_text.specs.declared.ConditionType.TheVariants.{Oriented, Join}
use Rattle.file_text.specs.Syntax.{Name, RuleTree, FileTree}
use Rattle.file_text.specs.Grammar.{Word, id, left_paren, right_paren, Block, condition_type, variables, rules, has_block, type_in, variables_in, rules_in}
use Rattle.file_text.specs.Refusals.{SyntaxCause, repeated_block, unknown_block, other_condition_type}
use Rattle.file_text.proofs.Machine as machine
use Rattle.cops_syntax.specs.Flat as lists
use Rattle.cops_syntax.proofs.FlatTrees.{rules_of, reading_of, shown, no_sign, step_of, close_of, can_step}

-- the identifiers of the first block of variables
abbrev pub held : List Block → Option (List Name)
held [] = None
held (condition_type p q kind ∷ bs) = held bs
held (variables p names ∷ bs) = Some names
held (rules p rs ∷ bs) = held bs

abbrev pub holding : List Block → lists.Stage → lists.Blocks
holding bs s = record { condition_type = type_in bs; variables = held bs; rules = option_map rules_of (rules_in bs); stage = s }

abbrev pub stage_of : machine.State → lists.Stage
stage_of (machine.outside bs) = lists.outside
stage_of (machine.behind_bracket bs) = lists.at_title
stage_of (machine.behind_type bs at) = lists.at_type
stage_of (machine.behind_type_word bs at q kind) = lists.at_type_end kind
stage_of (machine.in_variables bs at names) = lists.variables names
stage_of (machine.in_rules bs at r) = lists.rules (reading_of r)

abbrev pub before : machine.State → List Block
before (machine.outside bs) = bs
before (machine.behind_bracket bs) = bs
before (machine.behind_type bs at) = bs
before (machine.behind_type_word bs at q kind) = bs
before (machine.in_variables bs at names) = bs
before (machine.in_rules bs at r) = bs

abbrev pub blocks_of : machine.State → lists.Blocks
blocks_of s = holding (before s) (stage_of s)

abbrev pub mapped : Result machine.State SyntaxCause → Result lists.Blocks SyntaxCause
mapped (Ok s) = Ok (blocks_of s)
mapped (Err c) = Err c

-- no block before this one is of its kind
abbrev pub IsFresh : machine.State → Type 0
IsFresh (machine.outside bs) = Unit {0}
IsFresh (machine.behind_bracket bs) = Unit {0}
IsFresh (machine.behind_type bs at) = type_in bs ≡ None
IsFresh (machine.behind_type_word bs at q kind) = type_in bs ≡ None
IsFresh (machine.in_variables bs at names) = held bs ≡ None
IsFresh (machine.in_rules bs at r) = rules_in bs ≡ None

-- ---- one more block

same_blocks : (k k2 : Option ConditionType) (v v2 : Option (List Name)) (r r2 : Option (List lists.Rule)) (s : lists.Stage) → k ≡ k2 → v ≡ v2 → r ≡ r2
    → (let b : lists.Blocks = record { condition_type = k; variables = v; rules = r; stage = s } in b) ≡ record { condition_type = k2; variables = v2; rules = r2; stage = s }
same_blocks k k2 v v2 r r2 s e f g = rw (e, f, g) refl

type_push : (bs : List Block) (p q : ℕ) (kind : ConditionType) → type_in bs ≡ None → type_in (bs ++ condition_type p q kind ∷ []) ≡ Some kind
type_push [] p q kind e = refl
type_push (condition_type a b c ∷ bs) p q kind e = absurd cc
type_push (variables a names ∷ bs) p q kind e = type_push bs p q kind e
type_push (rules a rs ∷ bs) p q kind e = type_push bs p q kind e

type_keeps : (bs : List Block) (p q : ℕ) (kind : ConditionType) → (held (bs ++ condition_type p q kind ∷ []) ≡ held bs) × (rules_in (bs ++ condition_type p q kind ∷ []) ≡ rules_in bs)
type_keeps [] p q kind = (refl, refl)
type_keeps (condition_type a b c ∷ bs) p q kind = type_keeps bs p q kind
type_keeps (variables a names ∷ bs) p q kind = (refl, (type_keeps bs p q kind).1)
type_keeps (rules a rs ∷ bs) p q kind = ((type_keeps bs p q kind).0, refl)

variables_push : (bs : List Block) (p : ℕ) (names : List Name) → held bs ≡ None → held (bs ++ variables p names ∷ []) ≡ Some names
variables_push [] p names e = refl
variables_push (condition_type a b c ∷ bs) p names e = variables_push bs p names e
variables_push (variables a vs ∷ bs) p names e = absurd cc
variables_push (rules a rs ∷ bs) p names e = variables_push bs p names e

variables_keeps : (bs : List Block) (p : ℕ) (names : List Name) → (type_in (bs ++ variables p names ∷ []) ≡ type_in bs) × (rules_in (bs ++ variables p names ∷ []) ≡ rules_in bs)
variables_keeps [] p names = (refl, refl)
variables_keeps (condition_type a b c ∷ bs) p names = (refl, (variables_keeps bs p names).1)
variables_keeps (variables a vs ∷ bs) p names = variables_keeps bs p names
variables_keeps (rules a rs ∷ bs) p names = ((variables_keeps bs p names).0, refl)

rules_push : (bs : List Block) (p : ℕ) (rs : List RuleTree) → rules_in bs ≡ None → rules_in (bs ++ rules p rs ∷ []) ≡ Some rs
rules_push [] p rs e = refl
rules_push (condition_type a b c ∷ bs) p rs e = rules_push bs p rs e
rules_push (variables a vs ∷ bs) p rs e = rules_push bs p rs e
rules_push (rules a qs ∷ bs) p rs e = absurd cc

rules_keeps : (bs : List Block) (p : ℕ) (rs : List RuleTree) → (type_in (bs ++ rules p rs ∷ []) ≡ type_in bs) × (held (bs ++ rules p rs ∷ []) ≡ held bs)
rules_keeps [] p rs = (refl, refl)
rules_keeps (condition_type a b c ∷ bs) p rs = (refl, (rules_keeps bs p rs).1)
rules_keeps (variables a vs ∷ bs) p rs = ((rules_keeps bs p rs).0, refl)
rules_keeps (rules a qs ∷ bs) p rs = rules_keeps bs p rs

with_type_of : (bs : List Block) (p q : ℕ) (kind : ConditionType) (s : lists.Stage) → type_in bs ≡ None
    → lists.with_type (holding bs s) kind ≡ holding (bs ++ condition_type p q kind ∷ []) lists.outside
with_type_of bs p q kind s e =
    let k = type_keeps bs p q kind in
    same_blocks _ _ _ _ _ _ _ (sym (type_push bs p q kind e)) (sym k.0) (ap (option_map rules_of) (sym k.1))

with_variables_of : (bs : List Block) (p : ℕ) (names : List Name) (s : lists.Stage) → held bs ≡ None → lists.with_variables (holding bs s) names ≡ holding (bs ++ variables p names ∷ []) lists.outside
with_variables_of bs p names s e =
    let k = variables_keeps bs p names in
    same_blocks _ _ _ _ _ _ _ (sym k.0) (sym (variables_push bs p names e)) (ap (option_map rules_of) (sym k.1))

with_rules_of : (bs : List Block) (p : ℕ) (rs : List RuleTree) (s : lists.Stage) → rules_in bs ≡ None → lists.with_rules (holding bs s) (rules_of rs) ≡ holding (bs ++ rules p rs ∷ []) lists.outside
with_rules_of bs p rs s e =
    let k = rules_keeps bs p rs in
    same_blocks _ _ _ _ _ _ _ (sym k.0) (sym k.1) (sym (ap (option_map rules_of) (rules_push bs p rs e)))

-- ---- titles

has_type : (bs : List Block) → has_block bs (codes "CONDITIONTYPE") ≡ is_some (type_in bs)
has_type [] = refl
has_type (condition_type p q kind ∷ bs) = refl
has_type (variables p names ∷ bs) = has_type bs
has_type (rules p rs ∷ bs) = has_type bs

has_variables : (bs : List Block) → has_block bs (codes "VAR") ≡ is_some (held bs)
has_variables [] = refl
has_variables (condition_type p q kind ∷ bs) = has_variables bs
has_variables (variables p names ∷ bs) = refl
has_variables (rules p rs ∷ bs) = has_variables bs

has_rules : (bs : List Block) → has_block bs (codes "RULES") ≡ is_some (option_map rules_of (rules_in bs))
has_rules [] = refl
has_rules (condition_type p q kind ∷ bs) = has_rules bs
has_rules (variables p names ∷ bs) = has_rules bs
has_rules (rules p rs ∷ bs) = refl

has_none : (bs : List Block) (text : List ℕ) → bytes_eq text (codes "CONDITIONTYPE") ≡ false → bytes_eq text (codes "VAR") ≡ false → bytes_eq text (codes "RULES") ≡ false → has_block bs text ≡ false
has_none [] text a b c = refl
has_none (condition_type p q kind ∷ bs) text a b c = ap (λ (t : Bool). t || has_block bs text) a ∙ has_none bs text a b c
has_none (variables p names ∷ bs) text a b c = ap (λ (t : Bool). t || has_block bs text) b ∙ has_none bs text a b c
has_none (rules p rs ∷ bs) text a b c = ap (λ (t : Bool). t || has_block bs text) c ∙ has_none bs text a b c

has_same : (bs : List Block) (text other : List ℕ) → bytes_eq text other ≡ true → has_block bs text ≡ has_block bs other
has_same bs text other e = ap (has_block bs) ((bytes_eq-Decides text other).0 e)

-- what is known of three tests of a title and of whether there is a block of it
record Tests (bs : List Block) (a b c h : Bool) : Type 0 where
  typed : a ≡ true → h ≡ is_some (type_in bs)
  named : b ≡ true → h ≡ is_some (held bs)
  ruled : c ≡ true → h ≡ is_some (option_map rules_of (rules_in bs))
  other : a ≡ false → b ≡ false → c ≡ false → h ≡ false

tests : (bs : List Block) (text : List ℕ) → Tests bs (bytes_eq text (codes "CONDITIONTYPE")) (bytes_eq text (codes "VAR")) (bytes_eq text (codes "RULES")) (has_block bs text)
tests bs text = record {
  typed = λ e. has_same bs text (codes "CONDITIONTYPE") e ∙ has_type bs;
  named = λ e. has_same bs text (codes "VAR") e ∙ has_variables bs;
  ruled = λ e. has_same bs text (codes "RULES") e ∙ has_rules bs;
  other = has_none bs text;
}

-- the block that a title begins, by three tests
abbrev begun : List Block → ℕ → Bool → Bool → Bool → Result machine.State SyntaxCause
begun bs at a b c = cond a (Ok (machine.behind_type bs at)) (cond b (Ok (machine.in_variables bs at [])) (cond c (Ok (machine.in_rules bs at machine.no_rule)) (Err unknown_block)))

abbrev entered : List Block → Bool → Bool → Bool → Result lists.Blocks SyntaxCause
entered bs a b c =
    let h = holding bs lists.at_title in
    cond a (lists.enter h (is_some h.condition_type) lists.at_type)
    (cond b (lists.enter h (is_some h.variables) (lists.variables [])) (cond c (lists.enter h (is_some h.rules) (lists.rules lists.no_rules)) (Err unknown_block)))

either : (h k : Bool) (s : machine.State) → h ≡ k → cond k (Err repeated_block) (Ok (blocks_of s)) ≡ mapped (cond h (Err repeated_block) (Ok s))
either true k s e = rw (sym e) refl
either false k s e = rw (sym e) refl

title_by : (bs : List Block) (at : ℕ) (a b c h : Bool) → Tests bs a b c h → entered bs a b c ≡ mapped (cond h (Err repeated_block) (begun bs at a b c))
title_by bs at true b c h t = either h (is_some (type_in bs)) (machine.behind_type bs at) (t.typed refl)
title_by bs at false true c h t = either h (is_some (held bs)) (machine.in_variables bs at []) (t.named refl)
title_by bs at false false true h t = either h (is_some (option_map rules_of (rules_in bs))) (machine.in_rules bs at machine.no_rule) (t.ruled refl)
title_by bs at false false false h t = rw (t.other refl refl refl) refl

title_of : (bs : List Block) (name : Name) → lists.title_step (holding bs lists.at_title) name ≡ mapped (machine.step (machine.behind_bracket bs) (id name))
title_of bs name = title_by bs name.at _ _ _ _ (tests bs name.text)

ok_is : (s t : machine.State) → (let r : Result machine.State SyntaxCause = Ok s in r) ≡ Ok t → s ≡ t
ok_is s t e = cc

not_some : {A : Type 0} (o : Option A) → false ≡ is_some o → o ≡ None
not_some None e = refl
not_some (Some x) e = absurd cc

not_mapped : (o : Option (List RuleTree)) → false ≡ is_some (option_map rules_of o) → o ≡ None
not_mapped None e = refl
not_mapped (Some x) e = absurd cc

title_fresh : (bs : List Block) (at : ℕ) (a b c h : Bool) (t : machine.State) → Tests bs a b c h → cond h (Err repeated_block) (begun bs at a b c) ≡ Ok t → IsFresh t
title_fresh bs at a b c true t k e = absurd cc
title_fresh bs at true b c false t k e = subst IsFresh (ok_is (machine.behind_type bs at) t e) (not_some (type_in bs) (k.typed refl))
title_fresh bs at false true c false t k e = subst IsFresh (ok_is (machine.in_variables bs at []) t e) (not_some (held bs) (k.named refl))
title_fresh bs at false false true false t k e = subst IsFresh (ok_is (machine.in_rules bs at machine.no_rule) t e) (not_mapped (rules_in bs) (k.ruled refl))
title_fresh bs at false false false false t k e = absurd cc

-- ---- the block of rules

closed_of : (bs : List Block) (at : ℕ) (s : lists.Stage) (o : Option (List RuleTree)) → rules_in bs ≡ None
    → lists.or_syntax (option_map (lists.with_rules (holding bs s)) (option_map rules_of o)) ≡ mapped (machine.rules_or bs at o None)
closed_of bs at s None e = refl
closed_of bs at s (Some rs) e = ap (λ (b : lists.Blocks). Ok b) (with_rules_of bs at rs s e)

inner_of : (bs : List Block) (at : ℕ) (s : lists.Stage) (o : Option machine.Reading)
    → lists.or_syntax (option_map (λ q. lists.at_stage (holding bs s) (lists.rules q)) (option_map reading_of o)) ≡ mapped (machine.rules_go_on bs at o)
inner_of bs at s None = refl
inner_of bs at s (Some r) = refl

inner_step_of : (bs : List Block) (at : ℕ) (s : lists.Stage) (rs : List RuleTree) (p : machine.Part) (os : machine.Opens) (l : machine.Last) (w : Word)
    → lists.inner_step (holding bs s) (shown rs p os l) w ≡ mapped (machine.rules_go_on bs at (machine.step_term rs p os l w))
inner_step_of bs at s rs p os l w =
    ap (λ (o : Option lists.Reading). lists.or_syntax (option_map (λ q. lists.at_stage (holding bs s) (lists.rules q)) o)) (step_of rs p os l w)
    ∙ inner_of bs at s (machine.step_term rs p os l w)

closed_step_of : (bs : List Block) (at : ℕ) (s : lists.Stage) (rs : List RuleTree) (p : machine.Part) (l : machine.Last) → rules_in bs ≡ None → machine.step_term rs p [] l right_paren ≡ None
    → lists.closed_step (holding bs s) (shown rs p [] l) ≡ mapped (machine.rules_or bs at (machine.whole rs p [] l) (machine.step_term rs p [] l right_paren))
closed_step_of bs at s rs p l e n =
    ap (λ (o : Option (List lists.Rule)). lists.or_syntax (option_map (lists.with_rules (holding bs s)) o)) (close_of rs p l)
    ∙ closed_of bs at s (machine.whole rs p [] l) e
    ∙ ap (λ (o : Option machine.Reading). mapped (machine.rules_or bs at (machine.whole rs p [] l) o)) (sym n)

-- a word that is no closing bracket
other_step_of : (bs : List Block) (at : ℕ) (s : lists.Stage) (rs : List RuleTree) (p : machine.Part) (os : machine.Opens) (l : machine.Last) (w : Word) → lists.is_close w ≡ false
    → lists.rule_step (holding bs s) (shown rs p os l) w ≡ mapped (machine.rules_go_on bs at (machine.step_term rs p os l w))
other_step_of bs at s rs p os l w e =
    let h = holding bs s in
    let r = shown rs p os l in
    ap (λ (b : Bool). cond (lists.is_flat r.opens && b) (lists.closed_step h r) (lists.inner_step h r w)) e
    ∙ ap (λ (b : Bool). cond b (lists.closed_step h r) (lists.inner_step h r w)) (and-false (lists.is_flat r.opens))
    ∙ inner_step_of bs at s rs p os l w

close_step_of : (bs : List Block) (at : ℕ) (s : lists.Stage) (rs : List RuleTree) (p : machine.Part) (os : machine.Opens) (l : machine.Last) → rules_in bs ≡ None
    → lists.rule_step (holding bs s) (shown rs p os l) right_paren ≡ mapped (machine.step_rules bs at (machine.reading rs p os l) right_paren)
close_step_of bs at s rs p [] machine.want e = closed_step_of bs at s rs p machine.want e refl
close_step_of bs at s rs p [] (machine.first g) e = inner_step_of bs at s rs p [] (machine.first g) right_paren
close_step_of bs at s rs p [] (machine.bare f) e = closed_step_of bs at s rs p (machine.bare f) e (no_sign rs p _)
close_step_of bs at s rs p [] (machine.done t) e = closed_step_of bs at s rs p (machine.done t) e (no_sign rs p t)
close_step_of bs at s rs p (o ∷ os) machine.want e = inner_step_of bs at s rs p (o ∷ os) machine.want right_paren
close_step_of bs at s rs p (o ∷ os) (machine.first g) e = inner_step_of bs at s rs p (o ∷ os) (machine.first g) right_paren
close_step_of bs at s rs p (o ∷ os) (machine.bare f) e = inner_step_of bs at s rs p (o ∷ os) (machine.bare f) right_paren
close_step_of bs at s rs p (o ∷ os) (machine.done t) e = inner_step_of bs at s rs p (o ∷ os) (machine.done t) right_paren

rule_step_of : (bs : List Block) (at : ℕ) (s : lists.Stage) (r : machine.Reading) (w : Word) → rules_in bs ≡ None
    → lists.rule_step (holding bs s) (reading_of r) w ≡ mapped (machine.step_rules bs at r w)
rule_step_of bs at s r right_paren e = close_step_of bs at s r.rules r.part r.opens r.last e
rule_step_of bs at s r w e = other_step_of bs at s r.rules r.part r.opens r.last w refl

-- ---- a step

type_step_of : (bs : List Block) (at : ℕ) (name : Name) → lists.type_step (holding bs lists.at_type) name ≡ mapped (machine.step_type bs at (id name))
type_step_of bs at name = by_tests (bytes_eq name.text (codes "ORIENTED")) (bytes_eq name.text (codes "JOIN"))
  where
    by_tests : (a b : Bool)
        → cond a (Ok (lists.at_stage (holding bs lists.at_type) (lists.at_type_end Oriented)))
        (cond b (Ok (lists.at_stage (holding bs lists.at_type) (lists.at_type_end Join))) (Err other_condition_type))
        ≡ mapped (cond a (Ok (machine.behind_type_word bs at name.at Oriented)) (cond b (Ok (machine.behind_type_word bs at name.at Join)) (Err other_condition_type)))
    by_tests true b = refl
    by_tests false true = refl
    by_tests false false = refl

-- a word leads both readers the same way
pub block_step_of : (s : machine.State) (w : Word) → IsFresh s → lists.step_blocks (blocks_of s) w ≡ mapped (machine.step s w)
block_step_of (machine.outside bs) left_paren fresh = refl
block_step_of (machine.outside bs) _ fresh = refl
block_step_of (machine.behind_bracket bs) (id name) fresh = title_of bs name
block_step_of (machine.behind_bracket bs) _ fresh = refl
block_step_of (machine.behind_type bs at) (id name) fresh = type_step_of bs at name
block_step_of (machine.behind_type bs at) _ fresh = refl
block_step_of (machine.behind_type_word bs at q kind) right_paren fresh = ap (λ (b : lists.Blocks). Ok b) (with_type_of bs at q kind (lists.at_type_end kind) fresh)
block_step_of (machine.behind_type_word bs at q kind) _ fresh = refl
block_step_of (machine.in_variables bs at names) (id name) fresh = refl
block_step_of (machine.in_variables bs at names) right_paren fresh = ap (λ (b : lists.Blocks). Ok b) (with_variables_of bs at names (lists.variables names) fresh)
block_step_of (machine.in_variables bs at names) _ fresh = refl
block_step_of (machine.in_rules bs at r) w fresh = rule_step_of bs at (lists.rules (reading_of r)) r w fresh

rules_fresh : (bs : List Block) (at : ℕ) (o : Option (List RuleTree)) (q : Option machine.Reading) (t : machine.State) → rules_in bs ≡ None → machine.rules_or bs at o q ≡ Ok t → IsFresh t
rules_fresh bs at (Some rs) q t fresh e = subst IsFresh (ok_is (machine.outside (bs ++ rules at rs ∷ [])) t e) tt
rules_fresh bs at None None t fresh e = absurd cc
rules_fresh bs at None (Some r) t fresh e = subst IsFresh (ok_is (machine.in_rules bs at r) t e) fresh

type_fresh : (bs : List Block) (at q : ℕ) (a b : Bool) (t : machine.State) → type_in bs ≡ None
    → cond a (Ok (machine.behind_type_word bs at q Oriented)) (cond b (Ok (machine.behind_type_word bs at q Join)) (Err other_condition_type)) ≡ Ok t → IsFresh t
type_fresh bs at q true b t fresh e = subst IsFresh (ok_is (machine.behind_type_word bs at q Oriented) t e) fresh
type_fresh bs at q false true t fresh e = subst IsFresh (ok_is (machine.behind_type_word bs at q Join) t e) fresh
type_fresh bs at q false false t fresh e = absurd cc

pub fresh_next : (s t : machine.State) (w : Word) → IsFresh s → machine.step s w ≡ Ok t → IsFresh t
fresh_next (machine.outside bs) t left_paren fresh e = subst IsFresh (ok_is (machine.behind_bracket bs) t e) tt
fresh_next (machine.outside bs) t _ fresh e = absurd cc
fresh_next (machine.behind_bracket bs) t (id name) fresh e = title_fresh bs name.at _ _ _ _ t (tests bs name.text) e
fresh_next (machine.behind_bracket bs) t _ fresh e = absurd cc
fresh_next (machine.behind_type bs at) t (id name) fresh e = type_fresh bs at name.at _ _ t fresh e
fresh_next (machine.behind_type bs at) t _ fresh e = absurd cc
fresh_next (machine.behind_type_word bs at q kind) t right_paren fresh e = subst IsFresh (ok_is (machine.outside (bs ++ condition_type at q kind ∷ [])) t e) tt
fresh_next (machine.behind_type_word bs at q kind) t _ fresh e = absurd cc
fresh_next (machine.in_variables bs at names) t (id name) fresh e = subst IsFresh (ok_is (machine.in_variables bs at (names ++ name ∷ [])) t e) fresh
fresh_next (machine.in_variables bs at names) t right_paren fresh e = subst IsFresh (ok_is (machine.outside (bs ++ variables at names ∷ [])) t e) tt
fresh_next (machine.in_variables bs at names) t _ fresh e = absurd cc
fresh_next (machine.in_rules bs at r) t w fresh e = rules_fresh bs at (machine.closing r w) (machine.step_term r.rules r.part r.opens r.last w) t fresh e

pub can_step_of : (s : machine.State) → lists.CanStep (stage_of s)
can_step_of (machine.outside bs) = tt
can_step_of (machine.behind_bracket bs) = tt
can_step_of (machine.behind_type bs at) = tt
can_step_of (machine.behind_type_word bs at q kind) = tt
can_step_of (machine.in_variables bs at names) = tt
can_step_of (machine.in_rules bs at r) = can_step r.opens r.last

-- ---- the end

abbrev pub file_of : FileTree → lists.File
file_of f = record { condition_type = f.condition_type; variables = f.variables; rules = rules_of f.rules }

abbrev pub mapped_file : Result FileTree SyntaxCause → Result lists.File SyntaxCause
mapped_file (Ok f) = Ok (file_of f)
mapped_file (Err c) = Err c

names_held : (bs : List Block) → lists.names_or_none (held bs) ≡ variables_in bs
names_held [] = refl
names_held (condition_type p q kind ∷ bs) = names_held bs
names_held (variables p names ∷ bs) = refl
names_held (rules p rs ∷ bs) = names_held bs

whole_of : (bs : List Block) (o : Option (List RuleTree)) → lists.whole_file (type_in bs) (held bs) (option_map rules_of o) ≡ mapped_file (machine.file_or_missing bs o)
whole_of bs None = refl
whole_of bs (Some rs) = ap (λ (vs : List Name). Ok record { condition_type = type_in bs; variables = vs; rules = rules_of rs }) (names_held bs)

pub finish_of : (s : machine.State) → lists.finish (blocks_of s) ≡ mapped_file (machine.finish s)
finish_of (machine.outside bs) = whole_of bs (rules_in bs)
finish_of (machine.behind_bracket bs) = refl
finish_of (machine.behind_type bs at) = refl
finish_of (machine.behind_type_word bs at q kind) = refl
finish_of (machine.in_variables bs at names) = refl
finish_of (machine.in_rules bs at r) = refl
