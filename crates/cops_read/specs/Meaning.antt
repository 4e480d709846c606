-- Which system, with which names, the syntax tree of a file means.
use Rattle.std.specs.Prelude.{◌≡◌, ℕ, true, false, if◌then◌else◌, List, [], ◌∷◌, ◌++◌, map, Some, is_some, option_map, slice_get}
use Rattle.file_text.specs.Syntax.{Phrase, Phrases, word, call, none, more, count, ConditionTree, RuleTree, conditions_of, FileTree}
use Rattle.rewriting.specs.Prelude.{Term, var, app, Terms, nil, cons, Condition, Rule}
use Rattle.cops_names.specs.NameLists.{name_index, is_among, with_name, with_names}
use Rattle.cops_names.specs.NameTable.{number_of}

-- the names of the variables' block, each once
abbrev pub variables_of : FileTree → List (List ℕ)
variables_of file = with_names [] (map (λ n. n.text) file.variables)

-- both sides of each condition in order, and the phrases of a rule: left side, right side, then these
abbrev pub sides : List ConditionTree → Phrases
sides [] = none
sides (c ∷ cs) = more c.left (more c.right (sides cs))

abbrev pub phrases_of_rule : RuleTree → Phrases
phrases_of_rule r = more r.left (more r.right (sides (conditions_of r)))

-- the table, and behind it the symbol where the table lacks its name; a variable is no symbol
abbrev pub with_symbol : List (List ℕ × ℕ) → List ℕ → ℕ → List (List ℕ × ℕ)
with_symbol table name arity = if is_some (number_of table name) then table else (table ++ (name, arity) ∷ [])

-- Of the identifiers, those of the variables' block are variables, all others symbols.
module _ (block : List (List ℕ)) where
  -- the names, and behind them the variables that they lack, in order of first use
  abbrev mutual
    pub with_variables : List (List ℕ) → Phrase → List (List ℕ)
    with_variables names (word f) = if is_among block f.text then with_name names f.text else names
    with_variables names (call f ts) = with_all_variables names ts

    pub with_all_variables : List (List ℕ) → Phrases → List (List ℕ)
    with_all_variables names none = names
    with_all_variables names (more t ts) = with_all_variables (with_variables names t) ts

  -- the table, and behind it the symbols that it lacks with their numbers of arguments, in order of first use
  abbrev mutual
    pub with_symbols : List (List ℕ × ℕ) → Phrase → List (List ℕ × ℕ)
    with_symbols table (word f) = if is_among block f.text then table else with_symbol table f.text 0
    with_symbols table (call f ts) = with_all_symbols (with_symbol table f.text (count ts)) ts

    pub with_all_symbols : List (List ℕ × ℕ) → Phrases → List (List ℕ × ℕ)
    with_all_symbols table none = table
    with_all_symbols table (more t ts) = with_all_symbols (with_symbols table t) ts

  -- the names of a rule's variables, and the symbols of rules
  abbrev pub rule_variables : RuleTree → List (List ℕ)
  rule_variables r = with_all_variables [] (phrases_of_rule r)

  abbrev pub with_rule_symbols : List (List ℕ × ℕ) → List RuleTree → List (List ℕ × ℕ)
  with_rule_symbols table [] = table
  with_rule_symbols table (r ∷ rs) = with_rule_symbols (with_all_symbols table (phrases_of_rule r)) rs

  -- The identifier is a variable, with this number.
  abbrev pub IsVariableOf : List (List ℕ) → List ℕ → ℕ → Type 0
  IsVariableOf names name x = (is_among block name ≡ true) × (name_index names name ≡ Some x)

  -- The identifier is a symbol, with this number and as many arguments as its arity.
  abbrev pub IsSymbolOf : List (List ℕ × ℕ) → List ℕ → ℕ → ℕ → Type 0
  IsSymbolOf table name n f = (is_among block name ≡ false) × (number_of table name ≡ Some f) × (option_map (λ s. s.1) (slice_get table f) ≡ Some n)

  -- The phrase means the term, under the table of symbols and the names of the rule's variables.
  -- A variable has no brackets; f() is the same as f.
  abbrev mutual
    pub IsTermOf : List (List ℕ × ℕ) → List (List ℕ) → Phrase → Term → Type 0
    IsTermOf table names (word f) (var x) = IsVariableOf names f.text x
    IsTermOf table names (word f) (app g us) = IsSymbolOf table f.text 0 g × (us ≡ nil)
    IsTermOf table names (call f ts) (var x) = ⊥
    IsTermOf table names (call f ts) (app g us) = IsSymbolOf table f.text (count ts) g × AreTermsOf table names ts us

    pub AreTermsOf : List (List ℕ × ℕ) → List (List ℕ) → Phrases → Terms → Type 0
    AreTermsOf table names none nil = Unit {0}
    AreTermsOf table names none (cons u us) = ⊥
    AreTermsOf table names (more t ts) nil = ⊥
    AreTermsOf table names (more t ts) (cons u us) = IsTermOf table names t u × AreTermsOf table names ts us

  abbrev pub AreConditionsOf : List (List ℕ × ℕ) → List (List ℕ) → List ConditionTree → List Condition → Type 0
  AreConditionsOf table names [] [] = Unit {0}
  AreConditionsOf table names [] (d ∷ ds) = ⊥
  AreConditionsOf table names (c ∷ cs) [] = ⊥
  AreConditionsOf table names (c ∷ cs) (d ∷ ds) = IsTermOf table names c.left d.left × IsTermOf table names c.right d.right × AreConditionsOf table names cs ds

  -- The tree of a rule means the rule, under the table of symbols.
  pub record IsRuleOf (table : List (List ℕ × ℕ)) (tree : RuleTree) (r : Rule) : Type 0 where
    pub left : IsTermOf table (rule_variables tree) tree.left r.left
    pub right : IsTermOf table (rule_variables tree) tree.right r.right
    pub conditions : AreConditionsOf table (rule_variables tree) (conditions_of tree) r.conditions

  abbrev pub AreRulesOf : List (List ℕ × ℕ) → List RuleTree → List Rule → Type 0
  AreRulesOf table [] [] = Unit {0}
  AreRulesOf table [] (r ∷ rs) = ⊥
  AreRulesOf table (t ∷ ts) [] = ⊥
  AreRulesOf table (t ∷ ts) (r ∷ rs) = IsRuleOf table t r × AreRulesOf table ts rs
