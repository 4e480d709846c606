-- What is written of a file's system is a file of it.
use Rattle.std.proofs.Common.{◌≡◌, ◌⊎◌, inl, inr, ℕ, Bool, true, false, Option, is_some, refl, List, [], ◌∷◌, ◌++◌, map, sym, ap, ap₂, ◌∙◌, subst, codes, ◌&&◌}
use Rattle.std.specs.Str.{bytes_eq}
use Rattle.std.proofs.lemmas.Bool.{or_right, or_left}
use Rattle.file_text.specs.declared.ConditionType.{ConditionType}
use Rattle.file_text.specs.Syntax.{RuleTree, FileTree, has_type}
use Rattle.file_text.specs.Texts.{IsText}
use Rattle.file_text.proofs.Names.{IsName}
use Rattle.rewriting.specs.Rules.{System}
use Rattle.cops_names.specs.NameTable.{NameTable}
use Rattle.cops_names.specs.NameLists.{is_among, with_names}
use Rattle.cops_read.specs.Meaning.{variables_of, rule_variables}
use Rattle.cops_read.specs.Uses.{events}
use Rattle.cops_read.specs.File.{IsSystemOf, is_join, have_conditions, asks_joins, IsFile}
use Rattle.cops_read.proofs.Meant.{own_meant}
use Rattle.cops_write.specs.Text.{block_text, type_text, system_text}
use Rattle.cops_write.specs.Laws.{WrittenIsRead}
use Rattle.cops_write.proofs.Trees.{RulesHaveNames}
use Rattle.cops_write.proofs.SameText.{joined, AreListed, are_listed, same_names, same_rules, same_guards, some_guard}
use Rattle.cops_write.proofs.Agree.{Names, itself, known_all, added_all, all_known, rules_agree, RulesAgree}
use Rattle.cops_write.proofs.Mean.{same_lists, same_table, rules_mean}
use Rattle.cops_write.proofs.Refuse.{events_alike, not_refused}
use Rattle.cops_write.proofs.FileNames.{text_has}
use Rattle.cops_write.proofs.FileText.{AllNames, file_text, written_type, Written, written}

all_names : (xs : Names) → ((n : List ℕ) → is_among xs n ≡ true → IsName n) → AllNames xs
all_names [] h = tt
all_names (x ∷ xs) h = (h x (or_left (bytes_eq x x) (is_among xs x) (itself x)), all_names xs (λ n e. h n (or_right (bytes_eq n x) (is_among xs n) e)))

among_none : (xs : Names) (n : List ℕ) → is_among (with_names [] xs) n ≡ true → is_among xs n ≡ true
among_none xs n e = by (known_all [] xs n e)
  where
    by : (is_among [] n ≡ true) ⊎ (is_among xs n ≡ true) → is_among xs n ≡ true
    by (inl a) = absurd cc
    by (inr b) = b

tells_type : (conditional : Bool) → is_some (written_type conditional) ≡ conditional
tells_type true = refl
tells_type false = refl

tells_no_join : (conditional : Bool) → is_join (written_type conditional) ≡ false
tells_no_join true = refl
tells_no_join false = refl

-- a written tree has a condition type where there are conditions, and asks for no common reducts
has_written : {conditional : Bool} {names : List (List ℕ)} {rs : List RuleTree} (w : Written conditional names rs) → has_type w.tree ≡ conditional
has_written {conditional = b} w = ap (λ (k : Option ConditionType). is_some k) w.condition_type ∙ tells_type b

asks_none : {conditional : Bool} {names : List (List ℕ)} {rs : List RuleTree} (w : Written conditional names rs) → asks_joins w.tree ≡ false
asks_none {conditional = b} w = ap (λ (j : Bool). j && have_conditions w.tree.rules) (ap is_join w.condition_type ∙ tells_no_join b)

module _ (tree : FileTree) (sys : System) (names : NameTable) (m : IsSystemOf tree sys names) (have : RulesHaveNames tree.rules) where
  abbrev pub block : Names
  block = variables_of tree

  abbrev pub lists : List Names
  lists = map (rule_variables block) tree.rules

  abbrev pub used : Names
  used = with_names [] (joined lists)

  listed : AreListed names 1 lists
  listed = are_listed names lists m.variables

  of_block : (n : List ℕ) → is_among used n ≡ true → (is_among block n ≡ true) × IsName n
  of_block n e = all_known block tree.rules n have (among_none (joined lists) n e)

  pub same_text : system_text names sys ≡ file_text (some_guard tree.rules) used tree.rules
  same_text =
      ap₂ (λ (b : Bool) (w : List ℕ). type_text b ++ w) (same_guards block names.symbols tree.rules sys.rules m.rules)
      (ap₂ (λ (xs : Names) (w : List ℕ). block_text xs ++ (codes "(RULES\n" ++ w)) (ap (with_names []) (same_names names 1 block tree.rules sys.rules listed m.rules))
      (same_rules names 1 block tree.rules sys.rules (41 ∷ 10 ∷ []) listed m.rules))

  again : Written (some_guard tree.rules) used tree.rules
  again = written (some_guard tree.rules) used tree.rules (all_names used (λ n e. (of_block n e).1)) have

  module _ (w : Written (some_guard tree.rules) used tree.rules) where
    abbrev other : Names
    other = variables_of w.tree

    other_is : other ≡ with_names [] used
    other_is = ap (with_names []) w.variables

    within : (n : List ℕ) → is_among other n ≡ true → is_among block n ≡ true
    within n e = (of_block n (among_none used n (subst (λ (xs : Names). is_among xs n ≡ true) other_is e))).0

    cover : (n : List ℕ) → is_among (joined lists) n ≡ true → is_among other n ≡ true
    cover n e = subst (λ (xs : Names). is_among xs n ≡ true) (sym other_is) (added_all [] used n (added_all [] (joined lists) n e))

    agree : RulesAgree block other tree.rules
    agree = rules_agree block other names.symbols within tree.rules sys.rules m.rules cover

    means_it : IsSystemOf w.tree sys names
    means_it = record {
      accepted = not_refused block other (has_type w.tree) (has_type tree) [] [] (events tree) (events w.tree) tt
          (events_alike block other (has_type w.tree) 1 tree.rules w.tree.rules w.alike agree (λ e. has_written w ∙ e)) m.accepted;
      symbols = m.symbols ∙ same_table block other names.symbols [] tree.rules w.tree.rules sys.rules w.alike agree m.rules;
      arities = m.arities;
      own = m.own;
      variables = m.variables ∙ same_lists block other names.symbols tree.rules w.tree.rules sys.rules w.alike agree m.rules;
      rules = rules_mean block other names.symbols tree.rules w.tree.rules sys.rules w.alike agree m.rules;
    }

    file_again : IsFile (system_text names sys) sys names
    file_again = record {
      tree = w.tree;
      spelled = subst (λ (bytes : List ℕ). IsText bytes w.tree) (sym same_text) w.spelled;
      meant = inl (asks_none w, means_it);
    }

-- what is written of the system that a tree means is a file of it, where each identifier of the tree is one of a text
pub tree_is_written : (tree : FileTree) (sys : System) (names : NameTable) → IsSystemOf tree sys names → RulesHaveNames tree.rules → IsFile (system_text names sys) sys names
tree_is_written tree sys names m have = file_again tree sys names m have (again tree sys names m have)

pub read_back : WrittenIsRead
read_back bytes sys names h own = tree_is_written h.tree sys names (own_meant h.tree sys names h.meant own) (text_has bytes h.tree h.spelled)
