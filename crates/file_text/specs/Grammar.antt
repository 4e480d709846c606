-- How a syntax tree is spelled in words, and which tree a list of words spells.
use Rattle.std.specs.Prelude.{◌≡◌, ℕ, Bool, true, List, [], ◌∷◌, ◌++◌, map, Option, Some, None, codes, not, ◌&&◌}
use Rattle.std.specs.List.{list_any}
use Rattle.std.specs.Str.{bytes_eq}
use Rattle.file_text.specs.declared.ConditionType.{ConditionType}
use Rattle.file_text.specs.declared.ConditionType.TheVariants.{Oriented, Join}
use Rattle.file_text.specs.Syntax.{Name, Phrase, Phrases, word, call, none, more, ConditionTree, Guard, RuleTree, FileTree}

-- a token without its place, but that an identifier and a bar keep theirs
pub data Word : Type 0 where
  id : Name → Word
  left_paren : Word
  right_paren : Word
  comma : Word
  bar : ℕ → Word
  arrow : Word
  equal : Word

-- term = id [ "(" [ term { "," term } ] ")" ]
abbrev mutual
  pub spelled : Phrase → List Word
  spelled (word f) = id f ∷ []
  spelled (call f ts) = id f ∷ left_paren ∷ (spelled_arguments ts ++ right_paren ∷ [])

  -- nothing, or terms with commas between them
  pub spelled_arguments : Phrases → List Word
  spelled_arguments none = []
  spelled_arguments (more t ts) = spelled t ++ spelled_further ts

  -- terms with a comma before each
  pub spelled_further : Phrases → List Word
  spelled_further none = []
  spelled_further (more t ts) = comma ∷ (spelled t ++ spelled_further ts)

-- cond = term "==" term
abbrev pub spelled_condition : ConditionTree → List Word
spelled_condition c = spelled c.left ++ equal ∷ spelled c.right

-- conditions with a comma before each
abbrev pub spelled_others : List ConditionTree → List Word
spelled_others [] = []
spelled_others (c ∷ cs) = comma ∷ (spelled_condition c ++ spelled_others cs)

-- nothing, or a bar and conditions with commas between them
abbrev pub spelled_guard : Option Guard → List Word
spelled_guard None = []
spelled_guard (Some g) = bar g.at ∷ (spelled_condition g.first ++ spelled_others g.others)

-- rule = term "->" term [ "|" cond { "," cond } ]
abbrev pub spelled_rule : RuleTree → List Word
spelled_rule r = spelled r.left ++ arrow ∷ (spelled r.right ++ spelled_guard r.guard)

abbrev pub spelled_rules : List RuleTree → List Word
spelled_rules [] = []
spelled_rules (r ∷ rs) = spelled_rule r ++ spelled_rules rs

-- an identifier of this text, wherever it stands
abbrev pub id_at : ℕ → List ℕ → Word
id_at at text = id record { at = at; text = text }

-- a block of a file, with the places of its own words
pub data Block : Type 0 where
  condition_type : ℕ → ℕ → ConditionType → Block
  variables : ℕ → List Name → Block
  rules : ℕ → List RuleTree → Block

-- the identifier that tells what a block is
abbrev pub title : Block → List ℕ
title (condition_type p q kind) = codes "CONDITIONTYPE"
title (variables p names) = codes "VAR"
title (rules p rs) = codes "RULES"

-- the identifier that tells a condition type
abbrev pub type_text : ConditionType → List ℕ
type_text Oriented = codes "ORIENTED"
type_text Join = codes "JOIN"

-- block = "(" "CONDITIONTYPE" ( "ORIENTED" | "JOIN" ) ")" | "(" "VAR" { id } ")" | "(" "RULES" { rule } ")"
abbrev pub spelled_block : Block → List Word
spelled_block (condition_type p q kind) = left_paren ∷ id_at p (codes "CONDITIONTYPE") ∷ id_at q (type_text kind) ∷ right_paren ∷ []
spelled_block (variables p names) = left_paren ∷ id_at p (codes "VAR") ∷ (map (λ n. id n) names ++ right_paren ∷ [])
spelled_block (rules p rs) = left_paren ∷ id_at p (codes "RULES") ∷ (spelled_rules rs ++ right_paren ∷ [])

-- file = { block }
abbrev pub spelled_blocks : List Block → List Word
spelled_blocks [] = []
spelled_blocks (b ∷ bs) = spelled_block b ++ spelled_blocks bs

-- whether some block has this title
abbrev pub has_block : List Block → List ℕ → Bool
has_block bs text = list_any (λ b. bytes_eq text (title b)) bs

-- whether no two blocks have one title
abbrev pub are_distinct : List Block → Bool
are_distinct [] = true
are_distinct (b ∷ bs) = not (has_block bs (title b)) && are_distinct bs

-- what the blocks hold: the first condition type, the identifiers of the first block of variables, the rules of the first block of rules
abbrev pub type_in : List Block → Option ConditionType
type_in [] = None
type_in (condition_type p q kind ∷ bs) = Some kind
type_in (variables p names ∷ bs) = type_in bs
type_in (rules p rs ∷ bs) = type_in bs

abbrev pub variables_in : List Block → List Name
variables_in [] = []
variables_in (condition_type p q kind ∷ bs) = variables_in bs
variables_in (variables p names ∷ bs) = names
variables_in (rules p rs ∷ bs) = variables_in bs

abbrev pub rules_in : List Block → Option (List RuleTree)
rules_in [] = None
rules_in (condition_type p q kind ∷ bs) = rules_in bs
rules_in (variables p names ∷ bs) = rules_in bs
rules_in (rules p rs ∷ bs) = Some rs

-- the words spell the tree: blocks in any order, each at most once, and one of rules
pub record SpellTree (ws : List Word) (file : FileTree) : Type 0 where
  pub blocks : List Block
  pub spelled : ws ≡ spelled_blocks blocks
  pub distinct : are_distinct blocks ≡ true
  pub condition_type : file.condition_type ≡ type_in blocks
  pub variables : file.variables ≡ variables_in blocks
  pub rules : rules_in blocks ≡ Some file.rules
