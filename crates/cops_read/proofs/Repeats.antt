-- Reading conditions and rules one after the other.
use Rattle.std.proofs.Common.{◌≡◌, ℕ, zero, suc, ◌+◌, ◌<◌, ◌≤◌, Bool, List, [], ◌∷◌, ◌++◌, map, length, take, drop, get_or, Option, refl, sym, ap, ap₂, subst, ◌∙◌, arith, append_assoc}
use Rattle.std.proofs.lemmas.List.{take_all, drop_all}
use Rattle.std.specs.Option.{option_or}
use Rattle.file_text.specs.Syntax.{ConditionTree, RuleTree}
use Rattle.cops_syntax.specs.View.{IsCondition, AreConditions, IsRule, AreRules}
use Rattle.cops_syntax.specs.declared.tree.CondText.{CondText}
use Rattle.cops_syntax.specs.declared.tree.RuleText.{RuleText}
use Rattle.term_core.specs.RuleView.{rule_view, condition_view}
use Rattle.term_core.specs.declared.systems.Cond.{Cond}
use Rattle.term_core.specs.declared.systems.Rule.{Rule}
use Rattle.cops_read.specs.Meaning.{sides, phrases_of_rule, with_symbols, with_all_symbols, with_variables, with_all_variables, with_rule_symbols, rule_variables, AreConditionsOf}
use Rattle.cops_read.specs.Meaning.{IsRuleOf, AreRulesOf}
use Rattle.cops_read.specs.Refusals.{MeaningCause}
use Rattle.cops_read.specs.Steps.{Tells}
use Rattle.cops_read.specs.Told.{told}
use Rattle.cops_read.specs.Uses.{Use}
use Rattle.cops_read.specs.Walks.{condition_refusal, conditions_refusal, IsConditionRead, AreConditionsRead, GoesOn}
use Rattle.cops_read.specs.RuleSteps.{rule_refusal, rules_refusal, IsRuleRead, AreNumbersOf, AreRulesRead}
use Rattle.cops_read.specs.declared.errors.ReadError.{ReadError}
use Rattle.cops_names.proofs.Lists.{Extends, extends_trans}
use Rattle.cops_read.proofs.Growth.{symbols_extend, all_symbols_extend, variables_extend, conditions_grow, rules_grow}
use Rattle.cops_read.proofs.Tells.{tells_here}

-- the part of a list at a place
pub record IsNext {A : Type 0} (P : A → Type 0) (xs : List A) (i : ℕ) : Type 0 where
  pub item : A
  pub is : P item
  pub later : drop i xs ≡ item ∷ drop (suc i) xs
  pub front : take (suc i) xs ≡ take i xs ++ item ∷ []

pub next_condition : (cs : List CondText) (trees : List ConditionTree) (i : ℕ) (c : CondText) → AreConditions cs trees → i < length cs → c ≡ get_or cs i c → IsNext (IsCondition c) trees i
next_condition [] trees i c h l e = absurd (omega arith)
next_condition (d ∷ cs) [] i c h l e = absurd h
next_condition (d ∷ cs) (t ∷ ts) zero c h l e = record { item = t; is = subst (λ (x : CondText). IsCondition x t) (sym e) h.0; later = refl; front = refl }
next_condition (d ∷ cs) (t ∷ ts) (suc i) c h l e =
    let n = next_condition cs ts i c h.1 (omega arith) e in
    record { item = n.item; is = n.is; later = n.later; front = ap (λ (x : List ConditionTree). t ∷ x) n.front }

pub conditions_length : (cs : List CondText) (trees : List ConditionTree) → AreConditions cs trees → length trees ≡ length cs
conditions_length [] [] h = refl
conditions_length [] (t ∷ ts) h = absurd h
conditions_length (c ∷ cs) [] h = absurd h
conditions_length (c ∷ cs) (t ∷ ts) h = ap suc (conditions_length cs ts h.1)

next_rule : (front : List RuleText) (r : RuleText) (rest : List RuleText) (trees : List RuleTree) → AreRules (front ++ r ∷ rest) trees → IsNext (IsRule r) trees (length front)
next_rule [] r rest [] h = absurd h
next_rule [] r rest (t ∷ ts) h = record { item = t; is = h.0; later = refl; front = refl }
next_rule (q ∷ rs) r rest [] h = absurd h
next_rule (q ∷ rs) r rest (t ∷ ts) h =
    let n = next_rule rs r rest ts h.1 in
    record { item = n.item; is = n.is; later = n.later; front = ap (λ (x : List RuleTree). t ∷ x) n.front }

-- Of all texts the front was taken, and then one more.
module _ (all front left : List RuleText) (r : RuleText) (rest : List RuleText) (e : front ++ left ≡ all) (f : left ≡ r ∷ rest) where
  pub rule_taken : (trees : List RuleTree) → AreRules all trees → IsNext (IsRule r) trees (length front)
  rule_taken trees h = next_rule front r rest trees (subst (λ (ts : List RuleText). AreRules ts trees) (sym e ∙ ap (λ (ts : List RuleText). front ++ ts) f) h)

  pub all_left : (front ++ r ∷ []) ++ rest ≡ all
  all_left = append_assoc front (r ∷ []) rest ∙ ap (λ (ts : List RuleText). front ++ ts) (sym f) ∙ e

pub rules_length : (rs : List RuleText) (trees : List RuleTree) → AreRules rs trees → length trees ≡ length rs
rules_length [] [] h = refl
rules_length [] (t ∷ ts) h = absurd h
rules_length (r ∷ rs) [] h = absurd h
rules_length (r ∷ rs) (t ∷ ts) h = ap suc (rules_length rs ts h.1)

module _ (block : List (List ℕ)) where
  pub conditions_end : (table : List (List ℕ × ℕ)) (names : List (List ℕ)) (cs : List ConditionTree) (ds : List Cond) (c : ConditionTree) (d : Cond)
      → AreConditionsOf block table names cs (map condition_view ds)
      → AreConditionsOf block table names (c ∷ []) (condition_view d ∷ []) → AreConditionsOf block table names (cs ++ c ∷ []) (map condition_view (ds ++ d ∷ []))
  conditions_end table names [] [] c d h g = g
  conditions_end table names [] (e ∷ es) c d h g = absurd h
  conditions_end table names (b ∷ bs) [] c d h g = absurd h
  conditions_end table names (b ∷ bs) (e ∷ es) c d h g = (h.0, h.1, conditions_end table names bs es c d h.2 g)

-- what a loop over conditions keeps, whatever is refused
pub record Conditions {C : Type 0} (cause : List (List ℕ × ℕ) → List (List ℕ) → Use → Option C) (block : List (List ℕ)) (table : List (List ℕ × ℕ)) (names : List (List ℕ)) (rule : ℕ)
    (cs : List ConditionTree) (i : ℕ) (now : List (List ℕ × ℕ)) (later : List (List ℕ)) (ds : List Cond) : Type 0 where
  pub refusal : conditions_refusal cause block now later rule (i + 1) (drop i cs) ≡ conditions_refusal cause block table names rule 1 cs
  pub symbols : with_all_symbols block now (sides (drop i cs)) ≡ with_all_symbols block table (sides cs)
  pub variables : with_all_variables block later (sides (drop i cs)) ≡ with_all_variables block names (sides cs)
  pub mean : AreConditionsOf block now later (take i cs) (map condition_view ds)

module _ {C : Type 0} {cause : List (List ℕ × ℕ) → List (List ℕ) → Use → Option C} {block : List (List ℕ)} {table : List (List ℕ × ℕ)} {names : List (List ℕ)} {rule : ℕ}
    {cs : List ConditionTree} {i : ℕ} {now : List (List ℕ × ℕ)} {later : List (List ℕ)} {ds : List Cond} (h : Conditions cause block table names rule cs i now later ds) where
  pub conditions_fail : {E : Type 0} {T : E → Option (C × ℕ) → Type 0} (goes_on : GoesOn T) {P : ConditionTree → Type 0} (n : IsNext P cs i) (e : E)
      → T e (condition_refusal cause block now later rule (i + 1) n.item) → T e (conditions_refusal cause block table names rule 1 cs)
  conditions_fail {T = T} goes_on n e t =
      let whole = ap (conditions_refusal cause block now later rule (i + 1)) n.later in
      subst (T e) (sym whole ∙ h.refusal) (tells_here goes_on (condition_refusal cause block now later rule (i + 1) n.item) _ e t)

  pub conditions_step : {P : ConditionTree → Type 0} (n : IsNext P cs i) (after : List (List ℕ × ℕ)) (latest : List (List ℕ)) (d : Cond)
      → IsConditionRead cause block now later rule (i + 1) n.item after latest (condition_view d) → Conditions cause block table names rule cs (suc i) after latest (ds ++ d ∷ [])
  conditions_step n after latest d r =
      let left = drop (suc i) cs in
      let c = n.item in
      let middle = with_symbols block now c.left in
      let between = with_variables block later c.left in
      let grown : Extends now after = subst (λ (x : List (List ℕ × ℕ)). Extends now x) (sym r.symbols)
      (extends_trans _ _ _ (symbols_extend block now c.left) (symbols_extend block middle c.right)) in
      let grown_names : Extends later latest = subst (λ (x : List (List ℕ)). Extends later x) (sym r.variables)
      (extends_trans _ _ _ (variables_extend block later c.left) (variables_extend block between c.right)) in
      let number : suc i + 1 ≡ (i + 1) + 1 = omega arith in
      let further : Option (C × ℕ) = conditions_refusal cause block (with_symbols block middle c.right) (with_variables block between c.right) rule ((i + 1) + 1) left in
      let refusal : further ≡ conditions_refusal cause block table names rule 1 cs =
      ap (λ (o : Option (C × ℕ)). option_or o further) (sym r.accepted) ∙ sym (ap (conditions_refusal cause block now later rule (i + 1)) n.later) ∙ h.refusal in
      record {
        refusal = ap₂ (λ (x : List (List ℕ × ℕ)) (v : List (List ℕ)). conditions_refusal cause block x v rule (suc i + 1) left) r.symbols r.variables
            ∙ ap (λ (k : ℕ). conditions_refusal cause block (with_symbols block middle c.right) (with_variables block between c.right) rule k left) number ∙ refusal;
        symbols = ap (λ (x : List (List ℕ × ℕ)). with_all_symbols block x (sides left)) r.symbols ∙ sym (ap (λ (x : List ConditionTree). with_all_symbols block now (sides x)) n.later) ∙ h.symbols;
        variables = ap (λ (x : List (List ℕ)). with_all_variables block x (sides left)) r.variables
            ∙ sym (ap (λ (x : List ConditionTree). with_all_variables block later (sides x)) n.later) ∙ h.variables;
        mean = subst (λ (x : List ConditionTree). AreConditionsOf block after latest x (map condition_view (ds ++ d ∷ []))) (sym n.front)
            (conditions_end block after latest (take i cs) ds c d (conditions_grow block now later after latest (take i cs) (map condition_view ds) grown grown_names h.mean) (r.left, r.right, tt));
      }

  pub conditions_end_here : length cs ≤ i → AreConditionsRead cause block table names rule cs now later (map condition_view ds)
  conditions_end_here l =
      let over = drop_all i cs l in
      record {
        accepted = sym h.refusal ∙ ap (conditions_refusal cause block now later rule (i + 1)) over;
        symbols = ap (λ (x : List ConditionTree). with_all_symbols block now (sides x)) (sym over) ∙ h.symbols;
        variables = ap (λ (x : List ConditionTree). with_all_variables block later (sides x)) (sym over) ∙ h.variables;
        mean = subst (λ (x : List ConditionTree). AreConditionsOf block now later x (map condition_view ds)) (take_all i cs l) h.mean;
      }

module _ (block : List (List ℕ)) where
  rules_end : (table : List (List ℕ × ℕ)) (ts : List RuleTree) (rs : List Rule) (t : RuleTree) (r : Rule) → AreRulesOf block table ts (map rule_view rs)
      → IsRuleOf block table t (rule_view r) → AreRulesOf block table (ts ++ t ∷ []) (map rule_view (rs ++ r ∷ []))
  rules_end table [] [] t r h g = (g, tt)
  rules_end table [] (s ∷ rs) t r h g = absurd h
  rules_end table (u ∷ us) [] t r h g = absurd h
  rules_end table (u ∷ us) (s ∷ rs) t r h g = (h.0, rules_end table us rs t r h.1 g)

  numbers_end : (ts : List RuleTree) (rs : List Rule) (t : RuleTree) (r : Rule) → AreNumbersOf block ts rs → r.vars ≡ length (rule_variables block t) → AreNumbersOf block (ts ++ t ∷ []) (rs ++ r ∷ [])
  numbers_end [] [] t r h g = (g, tt)
  numbers_end [] (s ∷ rs) t r h g = absurd h
  numbers_end (u ∷ us) [] t r h g = absurd h
  numbers_end (u ∷ us) (s ∷ rs) t r h g = (h.0, numbers_end us rs t r h.1 g)

  names_end : (ts : List RuleTree) (t : RuleTree) → map (rule_variables block) (ts ++ t ∷ []) ≡ map (rule_variables block) ts ++ rule_variables block t ∷ []
  names_end [] t = refl
  names_end (u ∷ us) t = ap (λ (x : List (List (List ℕ))). rule_variables block u ∷ x) (names_end us t)

  -- what a loop over rules keeps
  pub record Rules (typed : Bool) (table : List (List ℕ × ℕ)) (ts : List RuleTree) (i : ℕ) (now : List (List ℕ × ℕ)) (listed : List (List (List ℕ))) (rs : List Rule) : Type 0 where
    pub refusal : rules_refusal block typed now (i + 1) (drop i ts) ≡ rules_refusal block typed table 1 ts
    pub symbols : with_rule_symbols block now (drop i ts) ≡ with_rule_symbols block table ts
    pub variables : listed ≡ map (rule_variables block) (take i ts)
    pub mean : AreRulesOf block now (take i ts) (map rule_view rs)
    pub counted : AreNumbersOf block (take i ts) rs

module _ {block : List (List ℕ)} {typed : Bool} {table : List (List ℕ × ℕ)} {ts : List RuleTree} {i : ℕ} {now : List (List ℕ × ℕ)} {listed : List (List (List ℕ))} {rs : List Rule}
    (h : Rules block typed table ts i now listed rs) where
  pub rules_fail : {P : RuleTree → Type 0} (n : IsNext P ts i) (e : ReadError) → Tells e (rule_refusal block typed now (i + 1) n.item) → Tells e (rules_refusal block typed table 1 ts)
  rules_fail n e t =
      let whole = ap (rules_refusal block typed now (i + 1)) n.later in
      subst (Tells e) (sym whole ∙ h.refusal) (tells_here told (rule_refusal block typed now (i + 1) n.item) _ e t)

  pub rules_step : {P : RuleTree → Type 0} (n : IsNext P ts i) (after : List (List ℕ × ℕ)) (longer : List (List (List ℕ))) (later : List (List ℕ)) (r : Rule)
      → IsRuleRead block typed now (i + 1) n.item after later r → longer ≡ listed ++ rule_variables block n.item ∷ [] → Rules block typed table ts (suc i) after longer (rs ++ r ∷ [])
  rules_step n after longer later r g add =
      let left = drop (suc i) ts in
      let t = n.item in
      let grown : Extends now after = subst (λ (x : List (List ℕ × ℕ)). Extends now x) (sym g.symbols) (all_symbols_extend block now (phrases_of_rule t)) in
      let number : suc i + 1 ≡ (i + 1) + 1 = omega arith in
      let further : Option (MeaningCause × ℕ) = rules_refusal block typed (with_all_symbols block now (phrases_of_rule t)) ((i + 1) + 1) left in
      let refusal : further ≡ rules_refusal block typed table 1 ts =
      ap (λ (o : Option (MeaningCause × ℕ)). option_or o further) (sym g.accepted) ∙ sym (ap (rules_refusal block typed now (i + 1)) n.later) ∙ h.refusal in
      record {
        refusal = ap (λ (x : List (List ℕ × ℕ)). rules_refusal block typed x (suc i + 1) left) g.symbols
            ∙ ap (λ (k : ℕ). rules_refusal block typed (with_all_symbols block now (phrases_of_rule t)) k left) number ∙ refusal;
        symbols = ap (λ (x : List (List ℕ × ℕ)). with_rule_symbols block x left) g.symbols ∙ sym (ap (with_rule_symbols block now) n.later) ∙ h.symbols;
        variables = add ∙ ap (λ (x : List (List (List ℕ))). x ++ rule_variables block t ∷ []) h.variables ∙ sym (names_end block (take i ts) t)
            ∙ ap (map (rule_variables block)) (sym n.front);
        mean = subst (λ (x : List RuleTree). AreRulesOf block after x (map rule_view (rs ++ r ∷ []))) (sym n.front)
            (rules_end block after (take i ts) rs t r (rules_grow block now after (take i ts) (map rule_view rs) grown h.mean) g.means);
        counted = subst (λ (x : List RuleTree). AreNumbersOf block x (rs ++ r ∷ [])) (sym n.front) (numbers_end block (take i ts) rs t r h.counted g.counted);
      }

  pub rules_end_here : length ts ≤ i → AreRulesRead block typed table ts now listed rs
  rules_end_here l =
      let over = drop_all i ts l in
      let all = take_all i ts l in
      record {
        accepted = sym h.refusal ∙ ap (rules_refusal block typed now (i + 1)) over;
        symbols = ap (with_rule_symbols block now) (sym over) ∙ h.symbols;
        variables = h.variables ∙ ap (map (rule_variables block)) all;
        mean = subst (λ (x : List RuleTree). AreRulesOf block now x (map rule_view rs)) all h.mean;
        counted = subst (λ (x : List RuleTree). AreNumbersOf block x rs) all h.counted;
      }

  pub rules_step_as : {P : RuleTree → Type 0} (n : IsNext P ts i) (other : List (List ℕ)) (after : List (List ℕ × ℕ)) (longer : List (List (List ℕ))) (r : Rule) → other ≡ block
      → IsRuleRead other typed now (i + 1) n.item after (rule_variables other n.item) r × (longer ≡ listed ++ rule_variables other n.item ∷ [])
      → Rules block typed table ts (suc i) after longer (rs ++ r ∷ [])
  rules_step_as n other after longer r same g =
      let here = subst (λ (b : List (List ℕ)). IsRuleRead b typed now (i + 1) n.item after (rule_variables b n.item) r × (longer ≡ listed ++ rule_variables b n.item ∷ [])) same g in
      rules_step n after longer (rule_variables block n.item) r here.0 here.1
