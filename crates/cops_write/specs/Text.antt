-- The text of a term and of a system, with the names of a table.
use Rattle.std.specs.Prelude.{ℕ, suc, Bool, if◌then◌else◌, List, [], ◌∷◌, ◌++◌, map, codes, length, nat_lt, unwrap_or}
use Rattle.std.specs.List.{list_any}
use Rattle.rewriting.specs.Prelude.{Term, var, app, Terms, nil, cons, Condition, Rule, System, rule_variables}
use Rattle.cops_names.specs.NameTable.{NameTable, name_at, variable_at}
use Rattle.cops_names.specs.NameLists.{with_names}

-- the name of a symbol and of a rule's variable; nothing where there is none
abbrev pub symbol_text : NameTable → ℕ → List ℕ
symbol_text names f = unwrap_or (name_at names f) []

abbrev pub variable_text : NameTable → ℕ → ℕ → List ℕ
variable_text names rule x = unwrap_or (variable_at names rule x) []

-- without white space; a constant has no brackets
abbrev mutual
  pub term_text : NameTable → ℕ → Term → List ℕ
  term_text names rule (var x) = variable_text names rule x
  term_text names rule (app f ts) = symbol_text names f ++ arguments_text names rule ts

  pub arguments_text : NameTable → ℕ → Terms → List ℕ
  arguments_text names rule nil = []
  arguments_text names rule (cons t ts) = codes "(" ++ (term_text names rule t ++ further_text names rule ts)

  -- arguments with a comma before each, and the bracket behind them
  pub further_text : NameTable → ℕ → Terms → List ℕ
  further_text names rule nil = codes ")"
  further_text names rule (cons t ts) = codes "," ++ (term_text names rule t ++ further_text names rule ts)

abbrev pub condition_text : NameTable → ℕ → Condition → List ℕ
condition_text names rule c = term_text names rule c.left ++ (codes " == " ++ term_text names rule c.right)

-- conditions with a comma before each
abbrev pub others_text : NameTable → ℕ → List Condition → List ℕ
others_text names rule [] = []
others_text names rule (c ∷ cs) = codes ", " ++ (condition_text names rule c ++ others_text names rule cs)

-- a bar, and conditions with commas between them; nothing where there are none
abbrev pub conditions_text : NameTable → ℕ → List Condition → List ℕ
conditions_text names rule [] = []
conditions_text names rule (c ∷ cs) = codes " | " ++ (condition_text names rule c ++ others_text names rule cs)

-- the line of a rule, by its number
abbrev pub rule_text : NameTable → ℕ → Rule → List ℕ
rule_text names rule r = codes "  " ++ (term_text names rule r.left ++ (codes " -> " ++ (term_text names rule r.right ++ (conditions_text names rule r.conditions ++ codes "\n"))))

-- rules from a number on
abbrev pub rules_text : NameTable → ℕ → List Rule → List ℕ
rules_text names number [] = []
rules_text names number (r ∷ rs) = rule_text names number r ++ rules_text names (suc number) rs

-- the names of a rule's variables in order of first use, and those of rules from a number on
abbrev pub rule_names : NameTable → ℕ → Rule → List (List ℕ)
rule_names names rule r = map (variable_text names rule) (rule_variables r)

abbrev pub names_from : NameTable → ℕ → List Rule → List (List ℕ)
names_from names number [] = []
names_from names number (r ∷ rs) = rule_names names number r ++ names_from names (suc number) rs

-- the names of all variables, each once, in order of first use
abbrev pub variable_names : NameTable → System → List (List ℕ)
variable_names names sys = with_names [] (names_from names 1 sys.rules)

-- names with a space before each
abbrev pub spaced : List (List ℕ) → List ℕ
spaced [] = []
spaced (x ∷ xs) = codes " " ++ (x ++ spaced xs)

-- the line of the variables' block, which is left out where there are none
abbrev pub block_text : List (List ℕ) → List ℕ
block_text [] = []
block_text (x ∷ xs) = codes "(VAR" ++ (spaced (x ∷ xs) ++ codes ")\n")

-- whether some rule has conditions, and the line that says so
abbrev pub has_conditions : List Rule → Bool
has_conditions rules = list_any (λ r. nat_lt 0 (length r.conditions)) rules

abbrev pub type_text : Bool → List ℕ
type_text conditional = if conditional then codes "(CONDITIONTYPE ORIENTED)\n" else []

abbrev pub system_text : NameTable → System → List ℕ
system_text names sys = type_text (has_conditions sys.rules) ++ (block_text (variable_names names sys) ++ (codes "(RULES\n" ++ (rules_text names 1 sys.rules ++ codes ")\n")))
