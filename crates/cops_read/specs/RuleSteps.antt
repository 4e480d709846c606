-- What the parts of the reader answer that read rules.
use Rattle.std.specs.Prelude.{◌≡◌, ℕ, ◌+◌, Bool, true, false, if◌then◌else◌, List, [], ◌∷◌, ◌++◌, map, length, Option, Some, None, option_map, Result, Ok, Err, ◌||◌}
use Rattle.std.specs.Option.{is_some, option_or}
use Rattle.cops_syntax.specs.declared.tree.RuleText.{RuleText}
use Rattle.std.specs.Global.{Vec}
use Rattle.file_text.specs.Syntax.{Phrase, ConditionTree, RuleTree, conditions_of, FileTree}
use Rattle.rewriting.specs.Rules as rules
use Rattle.term_core.specs.Prelude.{rule_view}
use Rattle.term_core.specs.declared.systems.Rule.{Rule}
use Rattle.cops_read.specs.Meaning.{phrases_of_rule, with_symbols, with_all_symbols, with_variables, with_rule_symbols, rule_variables}
use Rattle.cops_read.specs.Meaning.{IsRuleOf, AreRulesOf}
use Rattle.cops_read.specs.Uses.{Side, side_of}
use Rattle.cops_names.specs.NameTable.{NameTable}
use Rattle.cops_read.specs.File.{IsSystemOf, IsJoinedFile, IsMeant}
use Rattle.cops_read.specs.Refusals.{MeaningCause, conditions_without_type, cause_at, refusal_of}
use Rattle.cops_read.specs.Walks as walks
use Rattle.cops_read.specs.Steps.{Tells}
use Rattle.cops_read.specs.declared.errors.ReadError.{ReadError}
use Rattle.cops_read.specs.declared.errors.ReadError.TheVariants.{NoMemory}

-- at a bar
abbrev pub bar_refusal : Bool → Option ℕ → Option (MeaningCause × ℕ)
bar_refusal typed None = None
bar_refusal typed (Some at) = if typed then None else Some (conditions_without_type, at)

abbrev pub BarAnswers : Bool → Option ℕ → Result (Unit {0}) ReadError → Type 0
BarAnswers typed bar (Ok _) = bar_refusal typed bar ≡ None
BarAnswers typed bar (Err e) = Tells e (bar_refusal typed bar)

-- Of the identifiers, those of the block are variables. Refusals come with the symbols and the rule's variables so far.
module _ (block : List (List ℕ)) where
  abbrev pub side_refusal : List (List ℕ × ℕ) → List (List ℕ) → Side → Phrase → Option (MeaningCause × ℕ)
  side_refusal = walks.side_refusal (cause_at block) block

  abbrev pub condition_refusal : List (List ℕ × ℕ) → List (List ℕ) → ℕ → ℕ → ConditionTree → Option (MeaningCause × ℕ)
  condition_refusal = walks.condition_refusal (cause_at block) block

  abbrev pub conditions_refusal : List (List ℕ × ℕ) → List (List ℕ) → ℕ → ℕ → List ConditionTree → Option (MeaningCause × ℕ)
  conditions_refusal = walks.conditions_refusal (cause_at block) block

  -- in the rule with a number
  abbrev pub rule_refusal : Bool → List (List ℕ × ℕ) → ℕ → RuleTree → Option (MeaningCause × ℕ)
  rule_refusal typed table number r =
      option_or (side_refusal table [] (side_of number 0 true) r.left)
      (option_or (side_refusal (with_symbols block table r.left) (with_variables block [] r.left) (side_of number 0 false) r.right)
      (option_or (bar_refusal typed (option_map (λ g. g.at) r.guard))
      (conditions_refusal (with_symbols block (with_symbols block table r.left) r.right) (with_variables block (with_variables block [] r.left) r.right) number 1 (conditions_of r))))

  -- in rules from a number on
  abbrev pub rules_refusal : Bool → List (List ℕ × ℕ) → ℕ → List RuleTree → Option (MeaningCause × ℕ)
  rules_refusal typed table number [] = None
  rules_refusal typed table number (r ∷ rs) =
      option_or (rule_refusal typed table number r) (rules_refusal typed (with_all_symbols block table (phrases_of_rule r)) (number + 1) rs)

  -- a rule was read: its symbols, the names of its variables, and what it means
  pub record IsRuleRead (typed : Bool) (table : List (List ℕ × ℕ)) (number : ℕ) (tree : RuleTree) (after : List (List ℕ × ℕ)) (later : List (List ℕ)) (r : Rule) : Type 0 where
    pub accepted : rule_refusal typed table number tree ≡ None
    pub symbols : after ≡ with_all_symbols block table (phrases_of_rule tree)
    pub variables : later ≡ rule_variables block tree
    pub means : IsRuleOf block after tree (rule_view r)
    pub counted : r.vars ≡ length (rule_variables block tree)

  abbrev pub PartsAnswers : Bool → List (List ℕ × ℕ) → ℕ → RuleTree → List (List ℕ × ℕ) → List (List ℕ) → Result Rule ReadError → Type 0
  PartsAnswers typed table number tree after later (Ok r) = IsRuleRead typed table number tree after later r
  PartsAnswers typed table number tree after later (Err e) = Tells e (rule_refusal typed table number tree)

  -- the names of its variables were put last
  abbrev pub RuleAnswers : Bool → List (List ℕ × ℕ) → ℕ → RuleTree → List (List (List ℕ)) → List (List ℕ × ℕ) → List (List (List ℕ)) → Result Rule ReadError → Type 0
  RuleAnswers typed table number tree before after listed (Ok r) =
      IsRuleRead typed table number tree after (rule_variables block tree) r × (listed ≡ before ++ rule_variables block tree ∷ [])
  RuleAnswers typed table number tree before after listed (Err e) = Tells e (rule_refusal typed table number tree)

  -- each rule tells the number of its variables
  abbrev pub AreNumbersOf : List RuleTree → List Rule → Type 0
  AreNumbersOf [] [] = Unit {0}
  AreNumbersOf [] (r ∷ rs) = ⊥
  AreNumbersOf (t ∷ ts) [] = ⊥
  AreNumbersOf (t ∷ ts) (r ∷ rs) = (r.vars ≡ length (rule_variables block t)) × AreNumbersOf ts rs

  -- the same of rules, from the first on
  pub record AreRulesRead (typed : Bool) (table : List (List ℕ × ℕ)) (trees : List RuleTree) (after : List (List ℕ × ℕ)) (listed : List (List (List ℕ))) (rs : List Rule) : Type 0 where
    pub accepted : rules_refusal typed table 1 trees ≡ None
    pub symbols : after ≡ with_rule_symbols block table trees
    pub variables : listed ≡ map (rule_variables block) trees
    pub mean : AreRulesOf block after trees (map rule_view rs)
    pub counted : AreNumbersOf trees rs

  abbrev pub RulesAnswers : Bool → List (List ℕ × ℕ) → List RuleTree → List (List ℕ × ℕ) → List (List (List ℕ)) → Result (Vec Rule) ReadError → Type 0
  RulesAnswers typed table trees after listed (Ok v) = AreRulesRead typed table trees after listed v.items
  RulesAnswers typed table trees after listed (Err e) = Tells e (rules_refusal typed table 1 trees)

-- some rule has a bar
abbrev pub have_bars : List RuleText → Bool
have_bars [] = false
have_bars (r ∷ rs) = is_some r.bar || have_bars rs

-- the system of the rules of a tree, with its names, or the one refusal
abbrev pub ListAnswers : FileTree → Result (rules.System × NameTable) ReadError → Type 0
ListAnswers file (Ok found) = IsSystemOf file found.0 found.1
ListAnswers file (Err e) = Tells e (refusal_of file)

-- the oriented system of join rules; memory may be refused
abbrev pub JoinedAnswers : FileTree → Result (rules.System × NameTable) ReadError → Type 0
JoinedAnswers file (Ok found) = IsJoinedFile file found.0 found.1
JoinedAnswers file (Err e) = e ≡ NoMemory

-- the system that the tree of a file means, with its names, or the one refusal
abbrev pub FileAnswers : FileTree → Result (rules.System × NameTable) ReadError → Type 0
FileAnswers file (Ok found) = IsMeant file found.0 found.1
FileAnswers file (Err e) = Tells e (refusal_of file)
