-- What the functions that add rules answer.
use Rattle.std.specs.Prelude.{ℕ, zero, suc, length, ◌≤◌, Vec, ◌≡◌, List, [], ◌∷◌, ◌++◌, map, take, ◌+◌, slice_get, Some, Result, Ok, Err}
use Rattle.std.specs.Global.{Global}
use Rattle.rewriting.specs.declared.TheConstants.{MAX_CONDITIONS}
use Rattle.rewriting.specs.Terms as math
use Rattle.rewriting.specs.Rules as rules
use Rattle.rewriting.specs.Prelude.{Head, file, auxiliary, numbered_anew, unraveled_rule, unraveled_rules, Each, terms_of_rule, condition_count, DoSidesFit}
use Rattle.term_core.specs.RuleView.{rule_view}
use Rattle.term_core.specs.declared.systems.Rule.{Rule}
use Rattle.term_core.specs.declared.terms.NoMemory as none
use Rattle.unravel.specs.declared.UnravelError.{UnravelError}
use Rattle.unravel.specs.declared.UnravelError.TheVariants.{TooLarge, NoMemory}
use Rattle.unravel.specs.declared.rules.RuleError.{RuleError}
use Rattle.unravel.specs.declared.rules.RuleError.TheVariants as cause

abbrev pub NumberedAnswers : math.Term → math.Term → Result Rule none.NoMemory → Type 0
NumberedAnswers l r (Ok q) = rule_view q ≡ numbered_anew l r
NumberedAnswers l r (Err _) = Unit {0}

-- the rule is last, and both sides fit; or one does not
abbrev pub PushAnswers : math.Term → math.Term → List Rule → List Rule → Result (Unit {0}) RuleError → Type 0
PushAnswers l r before after (Ok _) = (map rule_view after ≡ map rule_view before ++ numbered_anew l r ∷ []) × math.Fits l × math.Fits r
PushAnswers l r before after (Err cause.TooLarge) = math.Fits l → math.Fits r → ⊥
PushAnswers l r before after (Err cause.NoMemory) = Unit {0}

-- the rules are behind those before, and all their sides fit; or one does not
abbrev pub AppendAnswers : List rules.Rule → List Rule → List Rule → Result (Unit {0}) RuleError → Type 0
AppendAnswers rs before after (Ok _) = (map rule_view after ≡ map rule_view before ++ rs) × DoSidesFit rs
AppendAnswers rs before after (Err cause.TooLarge) = DoSidesFit rs → ⊥
AppendAnswers rs before after (Err cause.NoMemory) = Unit {0}

-- the rules, and all their sides fit; or one does not
abbrev pub OneRuleAnswers : List rules.Rule → Result (Vec Rule Global) RuleError → Type 0
OneRuleAnswers rs (Ok v) = (map rule_view v.items ≡ rs) × DoSidesFit rs
OneRuleAnswers rs (Err cause.TooLarge) = DoSidesFit rs → ⊥
OneRuleAnswers rs (Err cause.NoMemory) = Unit {0}

-- every term of each rule fits
abbrev pub DoTermsFit : List rules.Rule → Type 0
DoTermsFit [] = Unit {0}
DoTermsFit (r ∷ rs) = Each math.Fits (terms_of_rule r) × DoTermsFit rs

-- the rule with this number, from 1, is the first of which a side does not fit; f is the first auxiliary symbol of all
pub record IsLargeAt (f : ℕ) (rs : List rules.Rule) (number : ℕ) : Type 0 where
  pub place : ℕ
  pub is_number : number ≡ place + 1
  pub rule : rules.Rule
  pub is_rule : slice_get rs place ≡ Some rule
  pub before : DoSidesFit (unraveled_rules f (take place rs))
  pub here : DoSidesFit (unraveled_rule (f + condition_count (take place rs)) rule) → ⊥

-- the rules of the unraveled system that come from some rules
abbrev pub RulesAnswers : ℕ → List rules.Rule → Result (Vec Rule Global) UnravelError → Type 0
RulesAnswers f rs (Ok v) = (map rule_view v.items ≡ unraveled_rules f rs) × DoSidesFit (unraveled_rules f rs)
RulesAnswers f rs (Err (TooLarge number)) = IsLargeAt f rs number
RulesAnswers f rs (Err NoMemory) = Unit {0}

-- few enough conditions and terms that fit, in each rule
abbrev pub AreRulesSmall : List rules.Rule → Type 0
AreRulesSmall [] = Unit {0}
AreRulesSmall (r ∷ rs) = Each math.Fits (terms_of_rule r) × (length r.conditions ≤ MAX_CONDITIONS) × AreRulesSmall rs

-- the first symbols of the conditional system, and those for the first conditions of a rule
abbrev pub first_heads : ℕ → List Head
first_heads zero = []
first_heads (suc n) = first_heads n ++ file n ∷ []

abbrev pub rule_heads : ℕ → ℕ → List Head
rule_heads i zero = []
rule_heads i (suc n) = rule_heads i n ++ auxiliary i (suc n) ∷ []
