-- A reader of words that keeps lists: a term is the list of its identifiers, and an open bracket the place of its identifier in that list.
use Rattle.std.specs.Prelude.{ℕ, zero, suc, ◌+◌, ◌<◌, Bool, true, false, List, [], ◌∷◌, ◌++◌, length, Option, Some, None, is_some, Result, Ok, Err, codes, if◌then◌else◌, ◌&&◌}
use Rattle.std.specs.Option.{option_map}
use Rattle.std.specs.Str.{bytes_eq}
use Rattle.file_text.specs.declared.ConditionType.{ConditionType}
use Rattle.file_text.specs.declared.ConditionType.TheVariants.{Oriented, Join}
use Rattle.file_text.specs.Syntax.{Name, Node}
use Rattle.file_text.specs.Grammar.{Word, id, left_paren, right_paren, comma, bar, arrow, equal}
use Rattle.file_text.specs.Refusals.{SyntaxCause, unknown_block, repeated_block, other_condition_type, wrong_syntax, missing_rules}

-- what was read last of a term: nothing or a comma, an identifier and its bracket, an identifier alone, or a closing bracket
pub data Last : Type 0 where
  want : Last
  opened : Last
  bare : Name → Last
  closed : Last

pub record Condition : Type 0 where
  pub left : List Node
  pub right : List Node

pub record Rule : Type 0 where
  pub left : List Node
  pub right : List Node
  pub bar : Option ℕ
  pub conditions : List Condition

-- which part of a rule is read, with the parts before it
pub data Part : Type 0 where
  left_side : Part
  right_side : List Node → Part
  condition_left : Rule → Part
  condition_right : Rule → List Node → Part

-- whole rules, the part and the term that are read, and the places of the open identifiers, the inmost first
pub record Reading : Type 0 where
  pub rules : List Rule
  pub part : Part
  pub nodes : List Node
  pub opens : List ℕ
  pub last : Last

abbrev pub reading : List Rule → Part → List Node → List ℕ → Last → Reading
reading rs p ns os l = record { rules = rs; part = p; nodes = ns; opens = os; last = l }

abbrev pub with_condition : Rule → List Node → List Node → Rule
with_condition r s t = record { left = r.left; right = r.right; bar = r.bar; conditions = r.conditions ++ record { left = s; right = t } ∷ [] }

abbrev pub plain_rule : List Node → List Node → Option ℕ → Rule
plain_rule l r at = record { left = l; right = r; bar = at; conditions = [] }

-- the rule that ends with this term
abbrev pub ended : Part → List Node → Option Rule
ended left_side t = None
ended (right_side l) t = Some (plain_rule l t None)
ended (condition_left r) t = None
ended (condition_right r s) t = Some (with_condition r s t)

-- the rules with the one that ends with the term that is read
abbrev pub end_rule : Reading → Option (List Rule)
end_rule r = option_map (λ q. r.rules ++ q ∷ []) (ended r.part r.nodes)

-- the next part, where this word stands behind the term
abbrev pub next_part : Part → List Node → Word → Option Part
next_part left_side t arrow = Some (right_side t)
next_part left_side t _ = None
next_part (right_side l) t (bar at) = Some (condition_left (plain_rule l t (Some at)))
next_part (right_side l) t _ = None
next_part (condition_left r) t equal = Some (condition_right r t)
next_part (condition_left r) t _ = None
next_part (condition_right r s) t comma = Some (condition_left (with_condition r s t))
next_part (condition_right r s) t _ = None

abbrev pub one_more : Node → Node
one_more n = record { name = n.name; brackets = n.brackets; arguments = n.arguments + 1 }

-- the identifier at this place has one more argument
abbrev pub raised : List Node → ℕ → List Node
raised [] place = []
raised (n ∷ ns) zero = one_more n ∷ ns
raised (n ∷ ns) (suc place) = n ∷ raised ns place

abbrev pub with_raised : Reading → ℕ → Reading
with_raised r place = reading r.rules r.part (raised r.nodes place) r.opens r.last

abbrev pub with_last : Reading → Last → Reading
with_last r l = reading r.rules r.part r.nodes r.opens l

abbrev pub with_opens : Reading → List ℕ → Reading
with_opens r os = reading r.rules r.part r.nodes os r.last

-- an identifier without brackets is whole
abbrev pub with_bare : Reading → Name → Reading
with_bare r f = reading r.rules r.part (r.nodes ++ record { name = f; brackets = false; arguments = 0 } ∷ []) r.opens r.last

-- the bracket of an identifier opens
abbrev pub with_call : Reading → Name → Reading
with_call r f = reading r.rules r.part (r.nodes ++ record { name = f; brackets = true; arguments = 0 } ∷ []) (length r.nodes ∷ r.opens) opened

-- a sign behind a side leads to the next part
abbrev pub next_side : Reading → Word → Option Reading
next_side r w = option_map (λ p. reading r.rules p [] [] want) (next_part r.part r.nodes w)

-- an identifier behind a side begins the next rule
abbrev pub next_rule : Reading → Name → Option Reading
next_rule r f = option_map (λ qs. reading qs left_side [] [] (bare f)) (end_rule r)

abbrev pub behind_side : Reading → Word → Option Reading
behind_side r (id f) = next_rule r f
behind_side r w = next_side r w

-- a word behind an argument of the identifier at a place, whose bracket is no longer among the open ones
abbrev pub behind_argument : Reading → ℕ → Word → Option Reading
behind_argument r place right_paren = Some (reading r.rules r.part (raised r.nodes place) r.opens closed)
behind_argument r place comma = Some (reading r.rules r.part (raised r.nodes place) (place ∷ r.opens) want)
behind_argument r place _ = None

abbrev pub behind_open : Reading → List ℕ → Word → Option Reading
behind_open r [] w = behind_side r w
behind_open r (place ∷ os) w = behind_argument (with_opens r os) place w

-- a word behind a whole term
abbrev pub behind : Reading → Word → Option Reading
behind r w = behind_open r r.opens w

abbrev pub shut_open : Reading → List ℕ → Option Reading
shut_open r [] = None
shut_open r (place ∷ os) = Some (reading r.rules r.part r.nodes os closed)

-- a closing bracket behind the opening one
abbrev pub shut : Reading → Option Reading
shut r = shut_open r r.opens

abbrev pub step_behind : Reading → Last → Word → Option Reading
step_behind r want (id f) = Some (with_last r (bare f))
step_behind r want _ = None
step_behind r opened (id f) = Some (with_last r (bare f))
step_behind r opened right_paren = shut r
step_behind r opened _ = None
step_behind r (bare f) left_paren = Some (with_call r f)
step_behind r (bare f) w = behind (with_bare r f) w
step_behind r closed w = behind r w

abbrev pub step : Reading → Word → Option Reading
step r w = step_behind r r.last w

abbrev pub no_rule : Reading → Part → Option (List Rule)
no_rule r left_side = Some r.rules
no_rule r _ = None

abbrev pub close_behind : Reading → Last → Option (List Rule)
close_behind r want = no_rule r r.part
close_behind r opened = None
close_behind r (bare f) = end_rule (with_bare r f)
close_behind r closed = end_rule r

-- the rules, where a closing bracket stands behind the last one
abbrev pub close_rule : Reading → Option (List Rule)
close_rule r = close_behind r r.last

-- where in a block the next word stands
pub data Stage : Type 0 where
  outside : Stage
  at_title : Stage
  at_type : Stage
  at_type_end : ConditionType → Stage
  variables : List Name → Stage
  rules : Reading → Stage

-- what the whole blocks hold, and how far the next one is
pub record Blocks : Type 0 where
  pub condition_type : Option ConditionType
  pub variables : Option (List Name)
  pub rules : Option (List Rule)
  pub stage : Stage

abbrev pub begin : Blocks
begin = record { condition_type = None; variables = None; rules = None; stage = outside }

abbrev pub at_stage : Blocks → Stage → Blocks
at_stage b s = record { condition_type = b.condition_type; variables = b.variables; rules = b.rules; stage = s }

-- a block begins, unless there was one of its title
abbrev pub enter : Blocks → Bool → Stage → Result Blocks SyntaxCause
enter b again s = if again then Err repeated_block else Ok (at_stage b s)

abbrev pub no_rules : Reading
no_rules = reading [] left_side [] [] want

abbrev pub bare_node : Name → Node
bare_node f = record { name = f; brackets = false; arguments = 0 }

-- the conditions of a rule whose sides are this identifier, and whose bar is at 0
abbrev pub condition_reading : Name → Reading
condition_reading f = reading [] (condition_left (plain_rule (bare_node f ∷ []) (bare_node f ∷ []) (Some 0))) [] [] want

-- an identifier behind a block's bracket
abbrev pub title_step : Blocks → Name → Result Blocks SyntaxCause
title_step b name =
    if bytes_eq name.text (codes "CONDITIONTYPE") then enter b (is_some b.condition_type) at_type else
    if bytes_eq name.text (codes "VAR") then enter b (is_some b.variables) (variables []) else
    if bytes_eq name.text (codes "RULES") then enter b (is_some b.rules) (rules no_rules) else
    Err unknown_block

-- an identifier behind the title of a condition type
abbrev pub type_step : Blocks → Name → Result Blocks SyntaxCause
type_step b name =
    if bytes_eq name.text (codes "ORIENTED") then Ok (at_stage b (at_type_end Oriented)) else
    if bytes_eq name.text (codes "JOIN") then Ok (at_stage b (at_type_end Join)) else
    Err other_condition_type

abbrev pub with_type : Blocks → ConditionType → Blocks
with_type b kind = record { condition_type = Some kind; variables = b.variables; rules = b.rules; stage = outside }

abbrev pub with_variables : Blocks → List Name → Blocks
with_variables b names = record { condition_type = b.condition_type; variables = Some names; rules = b.rules; stage = outside }

abbrev pub with_rules : Blocks → List Rule → Blocks
with_rules b rs = record { condition_type = b.condition_type; variables = b.variables; rules = Some rs; stage = outside }

abbrev pub variable_step : Blocks → List Name → Word → Result Blocks SyntaxCause
variable_step b names (id name) = Ok (at_stage b (variables (names ++ name ∷ [])))
variable_step b names right_paren = Ok (with_variables b names)
variable_step b names _ = Err wrong_syntax

abbrev pub or_syntax : Option Blocks → Result Blocks SyntaxCause
or_syntax None = Err wrong_syntax
or_syntax (Some b) = Ok b

abbrev pub is_none : List Rule → Bool
is_none [] = true
is_none (r ∷ rs) = false

abbrev pub is_flat : List ℕ → Bool
is_flat [] = true
is_flat (place ∷ os) = false

abbrev pub is_close : Word → Bool
is_close right_paren = true
is_close _ = false

-- a closing bracket behind the rules
abbrev pub closed_step : Blocks → Reading → Result Blocks SyntaxCause
closed_step b r = or_syntax (option_map (with_rules b) (close_rule r))

-- any other word in a block of rules
abbrev pub inner_step : Blocks → Reading → Word → Result Blocks SyntaxCause
inner_step b r w = or_syntax (option_map (λ q. at_stage b (rules q)) (step r w))

abbrev pub rule_step : Blocks → Reading → Word → Result Blocks SyntaxCause
rule_step b r w = if is_flat r.opens && is_close w then closed_step b r else inner_step b r w

abbrev pub stage_step : Blocks → Stage → Word → Result Blocks SyntaxCause
stage_step b outside left_paren = Ok (at_stage b at_title)
stage_step b outside _ = Err wrong_syntax
stage_step b at_title (id name) = title_step b name
stage_step b at_title _ = Err wrong_syntax
stage_step b at_type (id name) = type_step b name
stage_step b at_type _ = Err wrong_syntax
stage_step b (at_type_end kind) right_paren = Ok (with_type b kind)
stage_step b (at_type_end kind) _ = Err wrong_syntax
stage_step b (variables names) w = variable_step b names w
stage_step b (rules r) w = rule_step b r w

abbrev pub step_blocks : Blocks → Word → Result Blocks SyntaxCause
step_blocks b w = stage_step b b.stage w

pub record File : Type 0 where
  pub condition_type : Option ConditionType
  pub variables : List Name
  pub rules : List Rule

abbrev pub names_or_none : Option (List Name) → List Name
names_or_none None = []
names_or_none (Some names) = names

abbrev pub whole_file : Option ConditionType → Option (List Name) → Option (List Rule) → Result File SyntaxCause
whole_file kind vs None = Err missing_rules
whole_file kind vs (Some rs) = Ok record { condition_type = kind; variables = names_or_none vs; rules = rs }

abbrev pub finish_at : Blocks → Stage → Result File SyntaxCause
finish_at b outside = whole_file b.condition_type b.variables b.rules
finish_at b _ = Err wrong_syntax

-- the file that ends here
abbrev pub finish : Blocks → Result File SyntaxCause
finish b = finish_at b b.stage

-- how many arguments the identifier at this place has
abbrev pub arguments_at : List Node → ℕ → ℕ
arguments_at [] place = 0
arguments_at (n ∷ ns) zero = n.arguments
arguments_at (n ∷ ns) (suc place) = arguments_at ns place

-- The place is in the list, and the identifier there has fewer arguments than the list is long.
pub record IsRaisable (ns : List Node) (place : ℕ) : Type 0 where
  pub within : place < length ns
  pub room : arguments_at ns place < length ns

-- the inmost open identifier may have one more argument
abbrev pub CanRaise : List Node → List ℕ → Type 0
CanRaise ns [] = Unit {0}
CanRaise ns (place ∷ os) = IsRaisable ns place

abbrev pub CanRead : Reading → Type 0
CanRead r = CanRaise r.nodes r.opens

abbrev pub CanStep : Stage → Type 0
CanStep outside = Unit {0}
CanStep at_title = Unit {0}
CanStep at_type = Unit {0}
CanStep (at_type_end kind) = Unit {0}
CanStep (variables names) = Unit {0}
CanStep (rules r) = CanRead r
