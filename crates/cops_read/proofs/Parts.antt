-- Reading conditions and rules: from the parts to the whole.
use Rattle.std.proofs.Common.{◌≡◌, ℕ, Bool, false, true, List, [], map, length, Option, None, Vec, Global, sym, ap, ap₂, subst, ◌∙◌}
use Rattle.std.specs.Prelude.{option_map}
use Rattle.std.specs.Option.{option_or}
use Rattle.file_text.specs.Syntax.{Phrase, ConditionTree, Guard, RuleTree, conditions_of}
use Rattle.rewriting.specs.Terms as math
use Rattle.term_core.specs.Prelude.{view, condition_view}
use Rattle.term_core.specs.declared.terms.Term.{Term}
use Rattle.term_core.specs.declared.systems.Cond.{Cond}
use Rattle.cops_read.specs.Meaning.{sides, with_symbols, with_all_symbols, with_variables, with_all_variables, rule_variables, IsTermOf, AreConditionsOf}
use Rattle.cops_read.specs.Uses.{Side, side_of, Use}
use Rattle.cops_read.specs.Refusals.{MeaningCause, cause_at}
use Rattle.cops_read.specs.Walks.{side_refusal, condition_refusal, conditions_refusal, IsRead, IsSideRead, IsConditionRead, AreConditionsRead}
use Rattle.cops_read.specs.RuleSteps.{bar_refusal, IsRuleRead}
use Rattle.cops_names.proofs.Lists.{Extends, extends_trans}
use Rattle.cops_read.proofs.Firsts.{none_of_both}
use Rattle.cops_read.proofs.Growth.{symbols_extend, all_symbols_extend, variables_extend, all_variables_extend, term_grows}

module _ {C : Type 0} {cause : List (List ℕ × ℕ) → List (List ℕ) → Use → Option C} {block : List (List ℕ)} {table : List (List ℕ × ℕ)} {names : List (List ℕ)} where
  pub side_read : {side : Side} {p : Phrase} {after : List (List ℕ × ℕ)} {later : List (List ℕ)} {t : math.Term} {next : ℕ}
      → IsRead cause block table names side 1 0 0 p after later t next → IsSideRead cause block table names side p after later t
  side_read h = record { accepted = h.accepted; symbols = h.symbols; variables = h.variables; means = h.means }

  module _ (rule number : ℕ) (c : ConditionTree) {middle : List (List ℕ × ℕ)} {between : List (List ℕ)} {l : math.Term}
      (h : IsSideRead cause block table names (side_of rule number false) c.left middle between l) where
    moved : side_refusal cause block middle between (side_of rule number false) c.right
        ≡ side_refusal cause block (with_symbols block table c.left) (with_variables block names c.left) (side_of rule number false) c.right
    moved = ap₂ (λ (x : List (List ℕ × ℕ)) (v : List (List ℕ)). side_refusal cause block x v (side_of rule number false) c.right) h.symbols h.variables

    -- the right side is refused
    pub right_fails : {E : Type 0} (T : E → Option (C × ℕ) → Type 0) (e : E) → T e (side_refusal cause block middle between (side_of rule number false) c.right)
        → T e (condition_refusal cause block table names rule number c)
    right_fails T e t =
        let right = side_refusal cause block (with_symbols block table c.left) (with_variables block names c.left) (side_of rule number false) c.right in
        subst (T e) (sym (ap (λ (o : Option (C × ℕ)). option_or o right) h.accepted)) (subst (T e) moved t)

    pub both_read : {after : List (List ℕ × ℕ)} {later : List (List ℕ)} {r : math.Term} → IsSideRead cause block middle between (side_of rule number false) c.right after later r
        → IsConditionRead cause block table names rule number c after later (record { left = l; right = r })
    both_read {after} {later} g =
        let grown : Extends middle after = subst (λ (x : List (List ℕ × ℕ)). Extends middle x) (sym g.symbols) (symbols_extend block middle c.right) in
        let grown_names : Extends between later = subst (λ (x : List (List ℕ)). Extends between x) (sym g.variables) (variables_extend block between c.right) in
        record {
          accepted = none_of_both (side_refusal cause block table names (side_of rule number false) c.left) _ h.accepted (sym moved ∙ g.accepted);
          symbols = g.symbols ∙ ap (λ (x : List (List ℕ × ℕ)). with_symbols block x c.right) h.symbols;
          variables = g.variables ∙ ap (λ (x : List (List ℕ)). with_variables block x c.right) h.variables;
          left = term_grows block middle between after later c.left l grown grown_names h.means;
          right = g.means;
        }

module _ (block : List (List ℕ)) (typed : Bool) (table : List (List ℕ × ℕ)) (number : ℕ) (t : RuleTree) where
  abbrev at_left : Side
  at_left = side_of number 0 true

  abbrev at_right : Side
  at_right = side_of number 0 false

  abbrev first_symbols : List (List ℕ × ℕ)
  first_symbols = with_symbols block table t.left

  abbrev first_names : List (List ℕ)
  first_names = with_variables block [] t.left

  abbrev second_symbols : List (List ℕ × ℕ)
  second_symbols = with_symbols block first_symbols t.right

  abbrev second_names : List (List ℕ)
  second_names = with_variables block first_names t.right

  -- the refusals of the right side, the bar and the conditions; of the bar and the conditions; of the conditions
  abbrev last_refusal : Option (MeaningCause × ℕ)
  last_refusal = conditions_refusal (cause_at block) block second_symbols second_names number 1 (conditions_of t)

  abbrev late_refusal : Option (MeaningCause × ℕ)
  late_refusal = option_or (bar_refusal typed (option_map (λ g. g.at) t.guard)) last_refusal

  abbrev next_refusal : Option (MeaningCause × ℕ)
  next_refusal = option_or (side_refusal (cause_at block) block first_symbols first_names at_right t.right) late_refusal

  module _ (names : List (List ℕ)) (middle : List (List ℕ × ℕ)) (between : List (List ℕ)) (l : math.Term) (none_yet : names ≡ [])
      (first : IsSideRead (cause_at block) block table names at_left t.left middle between l) where
    first_read : IsSideRead (cause_at block) block table [] at_left t.left middle between l
    first_read = subst (λ (v : List (List ℕ)). IsSideRead (cause_at block) block table v at_left t.left middle between l) none_yet first

    moved_right : side_refusal (cause_at block) block middle between at_right t.right ≡ side_refusal (cause_at block) block first_symbols first_names at_right t.right
    moved_right = ap₂ (λ (x : List (List ℕ × ℕ)) (v : List (List ℕ)). side_refusal (cause_at block) block x v at_right t.right) first_read.symbols first_read.variables

    module _ (third : List (List ℕ × ℕ)) (then : List (List ℕ)) (u : math.Term) (second : IsSideRead (cause_at block) block middle between at_right t.right third then u) where
      second_accepted : side_refusal (cause_at block) block first_symbols first_names at_right t.right ≡ None
      second_accepted = sym moved_right ∙ second.accepted

      third_is : third ≡ second_symbols
      third_is = second.symbols ∙ ap (λ (x : List (List ℕ × ℕ)). with_symbols block x t.right) first_read.symbols

      then_is : then ≡ second_names
      then_is = second.variables ∙ ap (λ (v : List (List ℕ)). with_variables block v t.right) first_read.variables

      moved_last : conditions_refusal (cause_at block) block third then number 1 (conditions_of t) ≡ last_refusal
      moved_last = ap₂ (λ (x : List (List ℕ × ℕ)) (v : List (List ℕ)). conditions_refusal (cause_at block) block x v number 1 (conditions_of t)) third_is then_is

      module _ (bar : Option ℕ) (is : bar ≡ option_map (λ g. g.at) t.guard) (clear : bar_refusal typed bar ≡ None) where
        bar_accepted : bar_refusal typed (option_map (λ g. g.at) t.guard) ≡ None
        bar_accepted = sym (ap (bar_refusal typed) is) ∙ clear

        pub parts_read : (after : List (List ℕ × ℕ)) (later : List (List ℕ)) (lt ut : Term) (conds : Vec Cond Global) (n : ℕ) → view lt ≡ l → view ut ≡ u → n ≡ length later
            → AreConditionsRead (cause_at block) block third then number (conditions_of t) after later (map condition_view conds.items)
            → IsRuleRead block typed table number t after later (record { left = lt; right = ut; conds = conds; vars = n })
        parts_read after later lt ut conds n is_left is_right many last =
            let to_third : Extends middle third = subst (λ (x : List (List ℕ × ℕ)). Extends middle x) (sym second.symbols) (symbols_extend block middle t.right) in
            let to_then : Extends between then = subst (λ (x : List (List ℕ)). Extends between x) (sym second.variables) (variables_extend block between t.right) in
            let to_after : Extends third after = subst (λ (x : List (List ℕ × ℕ)). Extends third x) (sym last.symbols) (all_symbols_extend block third (sides (conditions_of t))) in
            let to_later : Extends then later = subst (λ (x : List (List ℕ)). Extends then x) (sym last.variables) (all_variables_extend block then (sides (conditions_of t))) in
            let all_variables : later ≡ rule_variables block t = last.variables ∙ ap (λ (v : List (List ℕ)). with_all_variables block v (sides (conditions_of t))) then_is in
            let from_left = term_grows block middle between after later t.left l (extends_trans _ _ _ to_third to_after) (extends_trans _ _ _ to_then to_later) first.means in
            let from_right = term_grows block third then after later t.right u to_after to_later second.means in
            record {
              accepted = none_of_both (side_refusal (cause_at block) block table [] at_left t.left) next_refusal first_read.accepted
                  (none_of_both (side_refusal (cause_at block) block first_symbols first_names at_right t.right) late_refusal second_accepted
                  (none_of_both (bar_refusal typed (option_map (λ (g : Guard). g.at) t.guard)) last_refusal bar_accepted (sym moved_last ∙ last.accepted)));
              symbols = last.symbols ∙ ap (λ (x : List (List ℕ × ℕ)). with_all_symbols block x (sides (conditions_of t))) third_is;
              variables = all_variables;
              means = record {
                left = subst (λ (v : List (List ℕ)). IsTermOf block after v t.left (view lt)) all_variables (subst (IsTermOf block after later t.left) (sym is_left) from_left);
                right = subst (λ (v : List (List ℕ)). IsTermOf block after v t.right (view ut)) all_variables (subst (IsTermOf block after later t.right) (sym is_right) from_right);
                conditions = subst (λ (v : List (List ℕ)). AreConditionsOf block after v (conditions_of t) (map condition_view conds.items)) all_variables last.mean;
              };
              counted = many ∙ ap length all_variables;
            }
