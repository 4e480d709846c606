-- The limits that what a file spells keeps.
use Rattle.std.specs.Prelude.{◌≡◌, ◌≤◌, ℕ, Bool, false, [], length, All}
use Rattle.rewriting.specs.Prelude.{Term, IsVariable, size, depth, Rule, System, Each, terms_of_rule}
use Rattle.cops_names.specs.NameTable.{NameTable}
use Rattle.join_systems.specs.Joined.{IsJoined}
use Rattle.join_names.specs.Fresh.{with_join_names}
use Rattle.cops_read.specs.Bounds.{most_rules, most_symbols, most_conditions, most_variables, most_arguments, most_nodes, most_levels}

-- nodes and depth of a term
pub record IsSmall (t : Term) : Type 0 where
  pub nodes : size t ≤ most_nodes
  pub levels : depth t ≤ most_levels

-- The left side is no variable, the terms are small, there are not too many conditions, and none in a file without
-- a condition type.
pub record IsAllowed (typed : Bool) (r : Rule) : Type 0 where
  pub left : IsVariable r.left → ⊥
  pub terms : Each IsSmall (terms_of_rule r)
  pub few_conditions : length r.conditions ≤ most_conditions
  pub conditions : typed ≡ false → r.conditions ≡ []

pub record IsWithinLimits (typed : Bool) (sys : System) (names : NameTable) : Type 0 where
  pub few_rules : length sys.rules ≤ most_rules
  pub few_symbols : length names.symbols ≤ most_symbols
  pub few_arguments : All (λ s. s.1 ≤ most_arguments) names.symbols
  pub few_variables : All (λ list. length list ≤ most_variables) names.variables
  pub rules : All (IsAllowed typed) sys.rules

-- What the file has keeps the limits: the system where all symbols are its file's, else the join rules that it stands for. In either case no rule has too many conditions.
pub record KeepsLimits (typed : Bool) (sys : System) (names : NameTable) : Type 0 where
  pub own : sys.own ≡ length sys.arities → IsWithinLimits typed sys names
  pub joined : (j : System) → IsJoined j sys → (table : NameTable) × (number : ℕ) × (names ≡ with_join_names table number) × IsWithinLimits typed j table
  pub few_conditions : All (λ r. length r.conditions ≤ most_conditions) sys.rules
