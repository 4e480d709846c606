-- A reader of files, one word after the other, with the terms that are open.
use Rattle.std.specs.Prelude.{ℕ, suc, Bool, false, List, [], ◌∷◌, ◌++◌, length, Option, Some, None, Result, Ok, Err, codes, if◌then◌else◌}
use Rattle.std.specs.Option.{option_map}
use Rattle.std.specs.Str.{bytes_eq}
use Rattle.file_text.specs.declared.ConditionType.{ConditionType}
use Rattle.file_text.specs.declared.ConditionType.TheVariants.{Oriented, Join}
use Rattle.file_text.specs.Syntax.{Name, Phrase, Phrases, word, call, none, with_last, ConditionTree, Guard, RuleTree, FileTree}
use Rattle.file_text.specs.Grammar.{Word, id, left_paren, right_paren, comma, bar, arrow, equal, Block, condition_type, variables, rules, has_block, type_in, variables_in, rules_in}
use Rattle.file_text.specs.Refusals.{SyntaxCause, unknown_block, repeated_block, other_condition_type, wrong_syntax, missing_rules}

-- what was read last of a term
pub data Last : Type 0 where
  want : Last
  first : Name → Last
  bare : Name → Last
  done : Phrase → Last

-- the open terms with the arguments that are whole, the inmost first
abbrev pub Opens : Type 0
Opens = List (Name × Phrases)

-- which part of a rule is read, with the parts before it: the sides, the place of the bar, the conditions
pub data Part : Type 0 where
  left : Part
  right : Phrase → Part
  condition_left : Phrase → Phrase → ℕ → List ConditionTree → Part
  condition_right : Phrase → Phrase → ℕ → List ConditionTree → Phrase → Part

-- the rules that are whole, and what is read of the next one
pub record Reading : Type 0 where
  pub rules : List RuleTree
  pub part : Part
  pub opens : Opens
  pub last : Last

abbrev pub reading : List RuleTree → Part → Opens → Last → Reading
reading rs p os l = record { rules = rs; part = p; opens = os; last = l }

abbrev pub no_rule : Reading
no_rule = reading [] left [] want

-- ---- behind a term

abbrev pub with_condition : List ConditionTree → Phrase → Phrase → List ConditionTree
with_condition cs s t = cs ++ record { left = s; right = t } ∷ []

-- the guard whose last condition this is
abbrev pub guard_with : ℕ → List ConditionTree → ConditionTree → Guard
guard_with at [] c = record { at = at; first = c; others = [] }
guard_with at (d ∷ ds) c = record { at = at; first = d; others = ds ++ c ∷ [] }

-- the rule that ends with this term
abbrev pub ended : Part → Phrase → Option RuleTree
ended left t = None
ended (right l) t = Some record { left = l; right = t; guard = None }
ended (condition_left l r at cs) t = None
ended (condition_right l r at cs s) t = Some record { left = l; right = r; guard = Some (guard_with at cs record { left = s; right = t }) }

-- the next part, where this word stands behind the term
abbrev pub next_part : Part → Phrase → Word → Option Part
next_part left t arrow = Some (right t)
next_part left t _ = None
next_part (right l) t (bar at) = Some (condition_left l t at [])
next_part (right l) t _ = None
next_part (condition_left l r at cs) t equal = Some (condition_right l r at cs t)
next_part (condition_left l r at cs) t _ = None
next_part (condition_right l r at cs s) t comma = Some (condition_left l r at (with_condition cs s t))
next_part (condition_right l r at cs s) t _ = None

-- a word behind a term that is no argument: an identifier begins the next rule
abbrev pub behind_side : List RuleTree → Part → Phrase → Word → Option Reading
behind_side rs p t (id f) = option_map (λ r. reading (rs ++ r ∷ []) left [] (bare f)) (ended p t)
behind_side rs p t w = option_map (λ q. reading rs q [] want) (next_part p t w)

-- a word behind an argument
abbrev pub behind_argument : List RuleTree → Part → Name → Phrases → Opens → Phrase → Word → Option Reading
behind_argument rs p g ts os t right_paren = Some (reading rs p os (done (call g (with_last ts t))))
behind_argument rs p g ts os t comma = Some (reading rs p ((g, with_last ts t) ∷ os) want)
behind_argument rs p g ts os t _ = None

abbrev pub behind : List RuleTree → Part → Opens → Phrase → Word → Option Reading
behind rs p [] t w = behind_side rs p t w
behind rs p (o ∷ os) t w = behind_argument rs p o.0 o.1 os t w

-- ---- inside a term

abbrev pub step_term : List RuleTree → Part → Opens → Last → Word → Option Reading
step_term rs p os want (id f) = Some (reading rs p os (bare f))
step_term rs p os want _ = None
step_term rs p os (first g) (id f) = Some (reading rs p ((g, none) ∷ os) (bare f))
step_term rs p os (first g) right_paren = Some (reading rs p os (done (call g none)))
step_term rs p os (first g) _ = None
step_term rs p os (bare f) left_paren = Some (reading rs p os (first f))
step_term rs p os (bare f) w = behind rs p os (word f) w
step_term rs p os (done t) w = behind rs p os t w

-- ---- blocks

-- the rules, where the next one has not begun
abbrev pub unbegun : Part → List RuleTree → Option (List RuleTree)
unbegun left rs = Some rs
unbegun (right l) rs = None
unbegun (condition_left l r at cs) rs = None
unbegun (condition_right l r at cs s) rs = None

abbrev pub with_ended : List RuleTree → Part → Phrase → Option (List RuleTree)
with_ended rs p t = option_map (λ r. rs ++ r ∷ []) (ended p t)

-- the rules of a block that ends here
abbrev pub whole : List RuleTree → Part → Opens → Last → Option (List RuleTree)
whole rs p (o ∷ os) l = None
whole rs p [] want = unbegun p rs
whole rs p [] (first g) = None
whole rs p [] (bare f) = with_ended rs p (word f)
whole rs p [] (done t) = with_ended rs p t

-- the same where this word ends the block
abbrev pub closing : Reading → Word → Option (List RuleTree)
closing r right_paren = whole r.rules r.part r.opens r.last
closing r _ = None

-- between blocks, or in one: with the blocks before it, and the places of its own words
pub data State : Type 0 where
  outside : List Block → State
  behind_bracket : List Block → State
  behind_type : List Block → ℕ → State
  behind_type_word : List Block → ℕ → ℕ → ConditionType → State
  in_variables : List Block → ℕ → List Name → State
  in_rules : List Block → ℕ → Reading → State

-- this block ends here
abbrev pub with_block : List Block → Block → Result State SyntaxCause
with_block bs b = Ok (outside (bs ++ b ∷ []))

abbrev pub step_outside : List Block → Word → Result State SyntaxCause
step_outside bs left_paren = Ok (behind_bracket bs)
step_outside bs _ = Err wrong_syntax

-- the block that this title begins
abbrev pub titled : List Block → Name → Result State SyntaxCause
titled bs name =
    if bytes_eq name.text (codes "CONDITIONTYPE") then Ok (behind_type bs name.at) else
    if bytes_eq name.text (codes "VAR") then Ok (in_variables bs name.at []) else
    if bytes_eq name.text (codes "RULES") then Ok (in_rules bs name.at no_rule) else Err unknown_block

abbrev pub step_bracket : List Block → Word → Result State SyntaxCause
step_bracket bs (id name) = titled bs name
step_bracket bs _ = Err wrong_syntax

abbrev pub step_type : List Block → ℕ → Word → Result State SyntaxCause
step_type bs at (id name) =
    if bytes_eq name.text (codes "ORIENTED") then Ok (behind_type_word bs at name.at Oriented) else
    if bytes_eq name.text (codes "JOIN") then Ok (behind_type_word bs at name.at Join) else Err other_condition_type
step_type bs at _ = Err wrong_syntax

abbrev pub step_type_word : List Block → ℕ → ℕ → ConditionType → Word → Result State SyntaxCause
step_type_word bs at place kind right_paren = with_block bs (condition_type at place kind)
step_type_word bs at place kind _ = Err wrong_syntax

abbrev pub step_variables : List Block → ℕ → List Name → Word → Result State SyntaxCause
step_variables bs at names (id name) = Ok (in_variables bs at (names ++ name ∷ []))
step_variables bs at names right_paren = with_block bs (variables at names)
step_variables bs at names _ = Err wrong_syntax

abbrev pub rules_go_on : List Block → ℕ → Option Reading → Result State SyntaxCause
rules_go_on bs at None = Err wrong_syntax
rules_go_on bs at (Some r) = Ok (in_rules bs at r)

-- the block ends with these rules, or goes on
abbrev pub rules_or : List Block → ℕ → Option (List RuleTree) → Option Reading → Result State SyntaxCause
rules_or bs at (Some rs) r = with_block bs (rules at rs)
rules_or bs at None r = rules_go_on bs at r

abbrev pub step_rules : List Block → ℕ → Reading → Word → Result State SyntaxCause
step_rules bs at r w = rules_or bs at (closing r w) (step_term r.rules r.part r.opens r.last w)

-- a step that lets blocks repeat
abbrev pub step_any : State → Word → Result State SyntaxCause
step_any (outside bs) w = step_outside bs w
step_any (behind_bracket bs) w = step_bracket bs w
step_any (behind_type bs at) w = step_type bs at w
step_any (behind_type_word bs at place kind) w = step_type_word bs at place kind w
step_any (in_variables bs at names) w = step_variables bs at names w
step_any (in_rules bs at r) w = step_rules bs at r w

abbrev pub repeats_block : List Block → Word → Bool
repeats_block bs (id name) = has_block bs name.text
repeats_block bs _ = false

-- whether the word is the title of one of the blocks before it
abbrev pub repeats : State → Word → Bool
repeats (outside bs) w = false
repeats (behind_bracket bs) w = repeats_block bs w
repeats (behind_type bs at) w = false
repeats (behind_type_word bs at place kind) w = false
repeats (in_variables bs at names) w = false
repeats (in_rules bs at r) w = false

abbrev pub step : State → Word → Result State SyntaxCause
step s w = if repeats s w then Err repeated_block else step_any s w

-- ---- files

abbrev pub file_or_missing : List Block → Option (List RuleTree) → Result FileTree SyntaxCause
file_or_missing bs None = Err missing_rules
file_or_missing bs (Some rs) = Ok record { condition_type = type_in bs; variables = variables_in bs; rules = rs }

-- the end of the words
abbrev pub finish : State → Result FileTree SyntaxCause
finish (outside bs) = file_or_missing bs (rules_in bs)
finish (behind_bracket bs) = Err wrong_syntax
finish (behind_type bs at) = Err wrong_syntax
finish (behind_type_word bs at place kind) = Err wrong_syntax
finish (in_variables bs at names) = Err wrong_syntax
finish (in_rules bs at r) = Err wrong_syntax

-- an answer, or the refusal of the word with this number
abbrev pub numbered : {A B : Type 0} → ℕ → (A → Result B (SyntaxCause × ℕ)) → Result A SyntaxCause → Result B (SyntaxCause × ℕ)
numbered n f (Ok x) = f x
numbered n f (Err c) = Err (c, n)

-- the state behind these words, of which the first has this number
abbrev pub run : ℕ → State → List Word → Result State (SyntaxCause × ℕ)
run n s [] = Ok s
run n s (w ∷ ws) = numbered n (λ t. run (suc n) t ws) (step s w)

abbrev pub finished : ℕ → Result State (SyntaxCause × ℕ) → Result FileTree (SyntaxCause × ℕ)
finished n (Ok s) = numbered n (λ file. Ok file) (finish s)
finished n (Err e) = Err e

-- the file that the words spell, or the cause and the number of the word that is refused
abbrev pub read_file : List Word → Result FileTree (SyntaxCause × ℕ)
read_file ws = finished (length ws) (run 0 (outside []) ws)
