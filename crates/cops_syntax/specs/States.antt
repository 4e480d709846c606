-- What the reader holds, as lists.
use Rattle.std.specs.Prelude.{List, map, reverse, Bool, true, false, Option, Some, None, option_map, Result, Ok, Err}
use Rattle.file_text.specs.Grammar as grammar
use Rattle.file_text.specs.Refusals.{SyntaxCause, unknown_block, repeated_block, other_condition_type, wrong_syntax, missing_rules}
use Rattle.cops_syntax.specs.Flat as flat
use Rattle.cops_syntax.specs.declared.tree.CondText.{CondText}
use Rattle.cops_syntax.specs.declared.tree.RuleText.{RuleText}
use Rattle.cops_syntax.specs.declared.tree.FileText.{FileText}
use Rattle.cops_syntax.specs.declared.word.Word.{Word}
use Rattle.cops_syntax.specs.declared.word.Word.TheVariants.{Id, LeftParen, RightParen, Comma, Bar, Arrow, Equal}
use Rattle.cops_syntax.specs.declared.rules.Last.{Last}
use Rattle.cops_syntax.specs.declared.rules.Last.TheVariants.{Want, Opened, Bare, Closed}
use Rattle.cops_syntax.specs.declared.rules.Part.{Part}
use Rattle.cops_syntax.specs.declared.rules.Part.TheVariants.{Left, Right, CondLeft, CondRight}
use Rattle.cops_syntax.specs.declared.rules.Reading.{Reading}
use Rattle.cops_syntax.specs.declared.blocks.SyntaxRefusal.{SyntaxRefusal}
use Rattle.cops_syntax.specs.declared.blocks.SyntaxRefusal.TheVariants.{Syntax, UnknownBlock, RepeatedBlock, ConditionTypeOther, MissingRules}
use Rattle.cops_syntax.specs.declared.blocks.Stage.{Stage}
use Rattle.cops_syntax.specs.declared.blocks.Stage.TheVariants.{Outside, Title, TypeWord, TypeEnd, Variables, Rules}
use Rattle.cops_syntax.specs.declared.blocks.Blocks.{Blocks}
use Rattle.cops_syntax.specs.View.{name_view, names_view, nodes_view}

abbrev pub word_view : Word → grammar.Word
word_view (Id name) = grammar.id (name_view name)
word_view LeftParen = grammar.left_paren
word_view RightParen = grammar.right_paren
word_view Comma = grammar.comma
word_view (Bar at) = grammar.bar at
word_view Arrow = grammar.arrow
word_view Equal = grammar.equal

abbrev pub condition_view : CondText → flat.Condition
condition_view c = record { left = nodes_view c.left.items; right = nodes_view c.right.items }

abbrev pub conditions_view : List CondText → List flat.Condition
conditions_view cs = map condition_view cs

abbrev pub rule_view : RuleText → flat.Rule
rule_view r = record { left = nodes_view r.left.items; right = nodes_view r.right.items; bar = r.bar; conditions = conditions_view r.conditions.items }

abbrev pub rules_view : List RuleText → List flat.Rule
rules_view rs = map rule_view rs

abbrev pub last_view : Last → flat.Last
last_view Want = flat.want
last_view Opened = flat.opened
last_view (Bare f) = flat.bare (name_view f)
last_view Closed = flat.closed

abbrev pub part_view : Part → flat.Part
part_view Left = flat.left_side
part_view (Right l) = flat.right_side (nodes_view l.items)
part_view (CondLeft r) = flat.condition_left (rule_view r)
part_view (CondRight r s) = flat.condition_right (rule_view r) (nodes_view s.items)

abbrev pub reading_view : Reading → flat.Reading
reading_view r = flat.reading (rules_view r.rules.items) (part_view r.part) (nodes_view r.nodes.items) (reverse r.opens.items) (last_view r.last)

-- where the word was taken, what is read then
abbrev pub stepped : Bool → Reading → Option flat.Reading
stepped true r = Some (reading_view r)
stepped false r = None

-- where the rule has ended, the rules
abbrev pub rules_if : Bool → Reading → Option (List flat.Rule)
rules_if true r = Some (rules_view r.rules.items)
rules_if false r = None

abbrev pub stage_view : Stage → flat.Stage
stage_view Outside = flat.outside
stage_view Title = flat.at_title
stage_view TypeWord = flat.at_type
stage_view (TypeEnd kind) = flat.at_type_end kind
stage_view (Variables names) = flat.variables (names_view names.items)
stage_view (Rules r) = flat.rules (reading_view r)

abbrev pub blocks_view : Blocks → flat.Blocks
blocks_view b = record {
  condition_type = b.condition_type;
  variables = option_map (λ v. names_view v.items) b.variables;
  rules = option_map (λ v. rules_view v.items) b.rules;
  stage = stage_view b.stage;
}

abbrev pub cause_of : SyntaxRefusal → SyntaxCause
cause_of Syntax = wrong_syntax
cause_of UnknownBlock = unknown_block
cause_of RepeatedBlock = repeated_block
cause_of ConditionTypeOther = other_condition_type
cause_of MissingRules = missing_rules

-- what is read then, or the refusal
abbrev pub passed : Option SyntaxRefusal → Blocks → Result flat.Blocks SyntaxCause
passed None b = Ok (blocks_view b)
passed (Some refusal) b = Err (cause_of refusal)

abbrev pub file_view : FileText → flat.File
file_view f = record { condition_type = f.condition_type; variables = names_view f.variables.items; rules = rules_view f.rules.items }

abbrev pub ended_file : Result FileText SyntaxRefusal → Result flat.File SyntaxCause
ended_file (Ok f) = Ok (file_view f)
ended_file (Err refusal) = Err (cause_of refusal)
