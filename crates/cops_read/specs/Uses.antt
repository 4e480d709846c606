-- The identifiers and bars of a file's rules in the order of the text, with what stands around each.
use Rattle.std.specs.Prelude.{ℕ, suc, Bool, true, false, List, [], ◌∷◌, ◌++◌, Option, Some, None}
use Rattle.file_text.specs.Syntax.{Phrase, Phrases, word, call, none, more, Node, count, ConditionTree, Guard, RuleTree, FileTree}

-- an identifier of a term: its depth, from 1, and which argument of its symbol begins with it, 0 at the root
pub record Spot : Type 0 where
  pub node : Node
  pub depth : ℕ
  pub argument : ℕ

abbrev mutual
  pub spots : ℕ → ℕ → Phrase → List Spot
  spots depth argument (word f) = record { node = record { name = f; brackets = false; arguments = 0 }; depth = depth; argument = argument } ∷ []
  spots depth argument (call f ts) = record { node = record { name = f; brackets = true; arguments = count ts }; depth = depth; argument = argument } ∷ spots_of_all (suc depth) 1 ts

  pub spots_of_all : ℕ → ℕ → Phrases → List Spot
  spots_of_all depth argument none = []
  spots_of_all depth argument (more t ts) = spots depth argument t ++ spots_of_all depth (suc argument) ts

-- where a term stands: its rule, from 1, its condition, from 1, or 0 in a side of the rule, and whether it is the left side
pub record Side : Type 0 where
  pub rule : ℕ
  pub condition : ℕ
  pub is_left : Bool

-- an identifier of a rule, and its number among those of its term, from 1
pub record Use : Type 0 where
  pub side : Side
  pub spot : Spot
  pub number : ℕ

pub data Event : Type 0 where
  use_of : Use → Event
  bar_at : ℕ → Event

-- the first byte
abbrev pub place : Event → ℕ
place (use_of u) = u.spot.node.name.at
place (bar_at at) = at

abbrev pub uses_from : Side → ℕ → List Spot → List Event
uses_from side number [] = []
uses_from side number (s ∷ ss) = use_of record { side = side; spot = s; number = number } ∷ uses_from side (suc number) ss

abbrev pub term_events : Side → Phrase → List Event
term_events side p = uses_from side 1 (spots 1 0 p)

abbrev pub side_of : ℕ → ℕ → Bool → Side
side_of rule condition is_left = record { rule = rule; condition = condition; is_left = is_left }

-- conditions from a number on
abbrev pub condition_events : ℕ → ℕ → List ConditionTree → List Event
condition_events rule number [] = []
condition_events rule number (c ∷ cs) =
    term_events (side_of rule number false) c.left ++ (term_events (side_of rule number false) c.right ++ condition_events rule (suc number) cs)

abbrev pub guard_events : ℕ → Option Guard → List Event
guard_events rule None = []
guard_events rule (Some g) = bar_at g.at ∷ condition_events rule 1 (g.first ∷ g.others)

abbrev pub rule_events : ℕ → RuleTree → List Event
rule_events rule r = term_events (side_of rule 0 true) r.left ++ (term_events (side_of rule 0 false) r.right ++ guard_events rule r.guard)

-- rules from a number on
abbrev pub rules_events : ℕ → List RuleTree → List Event
rules_events number [] = []
rules_events number (r ∷ rs) = rule_events number r ++ rules_events (suc number) rs

abbrev pub events : FileTree → List Event
events file = rules_events 1 file.rules
