-- What the functions that judge rules answer.
use Rattle.std.specs.Prelude.{ℕ, suc, ◌≡◌, ◌+◌, ◌<◌, ◌≤◌, ◌^◌, List, [], ◌∷◌, length, slice_get, slice_index, Option, None, Some, Result, Ok, Err}
use Rattle.rewriting.specs.Rules as math
use Rattle.rewriting.specs.Terms.{Term}
use Rattle.interpretations.specs.Linear.{Interpretation, Falls, Overflows, IsLarge, HasLargePart}
use Rattle.interpretations.specs.Judged.{IsFirstSmaller, IsConstantKept}
use Rattle.term_core.specs.View.{view}
use Rattle.term_core.specs.declared.systems.Rule.{Rule}
use Rattle.cert_model.specs.declared.reasons.MeasureReason.TheVariants as reason
use Rattle.measure.specs.declared.MeasureError.{MeasureError}
use Rattle.measure.specs.declared.MeasureError.TheVariants.{Reason, Unraveling, NoMemory}
use Rattle.linear_interp.specs.Parts.{IsReady}

abbrev pub SmallerAnswers : List ℕ → List ℕ → Option ℕ → Type 0
SmallerAnswers left right (Some x) = (suc x < length left) × (slice_index left (suc x) < slice_index right (suc x)) × ((y : ℕ) → y < x → slice_index right (suc y) ≤ slice_index left (suc y))
SmallerAnswers left right None = (y : ℕ) → suc y < length left → slice_index right (suc y) ≤ slice_index left (suc y)

-- every coefficient is kept and the constant falls, or the first reason
abbrev pub SumsDecide : List ℕ → List ℕ → ℕ → Result (Unit {0}) MeasureError → Type 0
SumsDecide left right rule (Ok _) = SmallerAnswers left right None × (slice_index right 0 < slice_index left 0)
SumsDecide left right rule (Err (Reason (reason.Variable n x))) = (n ≡ rule) × SmallerAnswers left right (Some x)
SumsDecide left right rule (Err (Reason (reason.Constant n))) = (n ≡ rule) × SmallerAnswers left right None × (slice_index left 0 ≤ slice_index right 0)
SumsDecide left right rule _ = ⊥

-- a side whose symbols have their numbers, whose variables are below a number, and that shows a large part at its root
pub record IsSideReady (es : Interpretation) (variables : ℕ) (t : Term) : Type 0 where
  pub ready : IsReady es (variables + 1) t
  pub shows : HasLargePart es t → IsLarge es t

pub record IsRuleReady (es : Interpretation) (r : Rule) : Type 0 where
  pub few : r.vars < 2 ^ 31
  pub left : IsSideReady es r.vars (view r.left)
  pub right : IsSideReady es r.vars (view r.right)

abbrev pub AreRulesReady : Interpretation → List Rule → Type 0
AreRulesReady es [] = Unit {0}
AreRulesReady es (r ∷ rs) = IsRuleReady es r × AreRulesReady es rs

-- the value falls at the rule, or the first reason why not
abbrev pub RuleAnswers : Interpretation → math.Rule → ℕ → Result (Unit {0}) MeasureError → Type 0
RuleAnswers es r number (Ok _) = Falls es r
RuleAnswers es r number (Err (Reason (reason.Overflow n))) = (n ≡ number) × Overflows es r
RuleAnswers es r number (Err (Reason (reason.Variable n x))) = (n ≡ number) × IsFirstSmaller es x r
RuleAnswers es r number (Err (Reason (reason.Constant n))) = (n ≡ number) × IsConstantKept es r
RuleAnswers es r number (Err (Reason (reason.Shape n))) = ⊥
RuleAnswers es r number (Err (Reason (reason.Coefficient n))) = ⊥
RuleAnswers es r number (Err (Reason (reason.Order n))) = ⊥
RuleAnswers es r number (Err (Unraveling n)) = ⊥
RuleAnswers es r number (Err NoMemory) = Unit {0}

-- every rule before the one with a number, from 1, falls, and the rule there has the property
pub record IsFirstAt (es : Interpretation) (rs : List math.Rule) (number : ℕ) (Why : math.Rule → Type 0) : Type 0 where
  pub place : ℕ
  pub is_number : number ≡ suc place
  pub rule : math.Rule
  pub is_rule : slice_get rs place ≡ Some rule
  pub before : (j : ℕ) (r : math.Rule) → j < place → slice_get rs j ≡ Some r → Falls es r
  pub here : Why rule

abbrev pub RulesAnswers : Interpretation → List math.Rule → Result (Unit {0}) MeasureError → Type 0
RulesAnswers es rs (Ok _) = (j : ℕ) (r : math.Rule) → slice_get rs j ≡ Some r → Falls es r
RulesAnswers es rs (Err (Reason (reason.Overflow n))) = IsFirstAt es rs n (Overflows es)
RulesAnswers es rs (Err (Reason (reason.Variable n x))) = IsFirstAt es rs n (IsFirstSmaller es x)
RulesAnswers es rs (Err (Reason (reason.Constant n))) = IsFirstAt es rs n (IsConstantKept es)
RulesAnswers es rs (Err (Reason (reason.Shape n))) = ⊥
RulesAnswers es rs (Err (Reason (reason.Coefficient n))) = ⊥
RulesAnswers es rs (Err (Reason (reason.Order n))) = ⊥
RulesAnswers es rs (Err (Unraveling n)) = ⊥
RulesAnswers es rs (Err NoMemory) = Unit {0}
