-- From the rules that were read to the system that a file means.
use Rattle.std.proofs.Common.{◌≡◌, ◌≤◌, ℕ, Bool, List, [], ◌∷◌, map, length, Err, All, Option, is_some, sym, ap, subst, ◌∙◌, refl}
use Rattle.file_text.specs.declared.ConditionType.{ConditionType}
use Rattle.file_text.specs.Syntax.{Name, RuleTree, FileTree, has_type}
use Rattle.cops_syntax.specs.View as tree
use Rattle.cops_syntax.specs.View.{IsFileText, names_view}
use Rattle.cops_syntax.specs.declared.tree.Name as program
use Rattle.cops_syntax.specs.declared.tree.FileText.{FileText}
use Rattle.rewriting.specs.Rules as rules
use Rattle.rewriting.specs.Systems.{IsSystem}
use Rattle.term_core.specs.RuleView.{rule_view, AreCounted}
use Rattle.term_core.specs.declared.systems.Rule.{Rule}
use Rattle.cops_names.specs.NameTable.{NameTable}
use Rattle.cops_names.specs.NameLists.{with_names}
use Rattle.cops_read.specs.Meaning.{variables_of, rule_variables, AreRulesOf}
use Rattle.cops_read.specs.Refusals.{refusal_of}
use Rattle.cops_read.specs.File.{IsSystemOf}
use Rattle.cops_read.specs.Steps.{Tells}
use Rattle.cops_read.specs.RuleSteps.{AreNumbersOf, AreRulesRead, RulesAnswers}
use Rattle.cops_read.specs.declared.errors.ReadError.{ReadError}
use Rattle.cops_read.proofs.Events.{refusal_is}
use Rattle.cops_read.proofs.Within.{is_within_limits}
use Rattle.cops_read.proofs.Sound.{system_is, length_upto, variables_are}

counted : (block : List (List ℕ)) (table : List (List ℕ × ℕ)) (ts : List RuleTree) (rs : List Rule) → AreRulesOf block table ts (map rule_view rs) → AreNumbersOf block ts rs → AreCounted rs
counted block table ts [] h n = tt
counted block table [] (r ∷ rs) h n = absurd h
counted block table (t ∷ ts) (r ∷ rs) h n =
    let are = ap length (variables_are block table t (rule_view r) h.0) in
    (n.0 ∙ sym (length_upto (length (rule_variables block t))) ∙ sym are, counted block table ts rs h.1 n.1)

-- the block of a tree's variables
pub block_is : {block : List (List ℕ)} {items whole : List program.Name} {variables : List Name} → block ≡ with_names [] (map (λ n. n.text) (names_view items)) → items ≡ whole
    → names_view whole ≡ variables → block ≡ with_names [] (map (λ n. n.text) variables)
block_is h same is = h ∙ ap (λ (ns : List Name). with_names [] (map (λ (n : Name). n.text) ns)) (ap names_view same ∙ is)

-- From the values that the program has.
module _ {file : FileTree} {text : FileText} (is_text : IsFileText text file) {other : List (List ℕ)} {items : List program.Name} {start : NameTable} {typed : Bool}
    (named : other ≡ with_names [] (map (λ n. n.text) (names_view items))) (all : items ≡ text.variables.items) (first : start ≡ record { symbols = []; variables = [] })
    (asked : typed ≡ is_some text.condition_type) where
  -- the system of rules that were read
  abbrev system_of : List ℕ → List Rule → rules.System
  system_of arities rs = rules.system_of arities (map rule_view rs)

  -- what holds of these values holds of the file's
  as_file : (P : List (List ℕ) → Bool → List (List ℕ × ℕ) → Type 0) → P other typed start.symbols → P (variables_of file) (has_type file) []
  as_file P h =
      let h1 = subst (λ (b : List (List ℕ)). P b typed start.symbols) (block_is named all is_text.variables) h in
      let h2 = subst (λ (t : NameTable). P (variables_of file) typed t.symbols) first h1 in
      subst (λ (b : Bool). P (variables_of file) b []) (asked ∙ ap (λ (k : Option ConditionType). is_some k) is_text.condition_type) h2

  pub rules_told : (after : List (List ℕ × ℕ)) (listed : List (List (List ℕ))) (e : ReadError)
      → ((trees : List RuleTree) → tree.AreRules text.rules.items trees → RulesAnswers other typed start.symbols trees after listed (Err e)) → Tells e (refusal_of file)
  rules_told after listed e told =
      subst (Tells e) (sym (refusal_is file))
      (as_file (λ block t table. RulesAnswers block t table file.rules after listed (Err e)) (told file.rules is_text.rules))

  module _ {names table : NameTable} {arities : List ℕ} {rs : List Rule} (given : table ≡ names) (is : arities ≡ map (λ s. s.1) table.symbols)
      (read : (trees : List RuleTree) → tree.AreRules text.rules.items trees → AreRulesRead other typed start.symbols trees names.symbols names.variables rs) where
    read_of : AreRulesRead (variables_of file) (has_type file) [] file.rules names.symbols names.variables rs
    read_of = as_file (λ block t table. AreRulesRead block t table file.rules names.symbols names.variables rs) (read file.rules is_text.rules)

    meant : IsSystemOf file (system_of arities rs) table
    meant =
        let counts = is ∙ ap (λ (n : NameTable). map (λ (s : List ℕ × ℕ). s.1) n.symbols) given in
        subst (IsSystemOf file (system_of arities rs)) (sym given)
        record { accepted = refusal_is file ∙ read_of.accepted; symbols = read_of.symbols; arities = counts; own = refl; variables = read_of.variables; rules = read_of.mean }

    pub few_arguments : All (λ s. s.1 ≤ 20) table.symbols
    few_arguments = (is_within_limits file (system_of arities rs) table meant).few_arguments

    pub rules_sound : IsSystem (system_of arities rs)
    rules_sound = system_is file (system_of arities rs) table meant

    pub rules_counted : AreCounted rs
    rules_counted = counted (variables_of file) names.symbols file.rules rs read_of.mean read_of.counted

    pub file_read : {sys : rules.System} → sys ≡ system_of arities rs → IsSystemOf file sys table
    file_read made = subst (λ (s : rules.System). IsSystemOf file s table) (sym made) meant
