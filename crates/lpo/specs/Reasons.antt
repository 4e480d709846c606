-- What the functions that look for the first reason answer.
use Rattle.std.specs.Prelude.{ℕ, suc, ◌≡◌, List, length, Option, None, Some, Result, Ok, Err}
use Rattle.rewriting.specs.Rules as math
use Rattle.rewriting.specs.Prelude.{DoSidesFit, heads, unraveled, unraveled_rules}
use Rattle.interpretations.specs.Judgement.{not_good}
use Rattle.interpretations.specs.Size.{DoesUnravelingFit, IsFirstTooLarge}
use Rattle.path_orders.specs.Precedences.{Precedence}
use Rattle.path_orders.specs.Judged.{IsPrecedenceJudged}
use Rattle.cert_model.specs.ReasonView.{measure_reason_view}
use Rattle.cert_model.specs.declared.reasons.MeasureReason.{MeasureReason}
use Rattle.cert_model.specs.declared.reasons.MeasureReason.TheVariants.{Order}
use Rattle.unravel.specs.RuleAnswers.{IsLargeAt}
use Rattle.unravel.specs.declared.UnravelError.{UnravelError}
use Rattle.unravel.specs.declared.UnravelError.TheVariants.{TooLarge, NoMemory}
use Rattle.lpo.specs.Places.{ArePlaces, IsOneMissing}
use Rattle.lpo.specs.Rules.{UnorderedAnswers}

-- the judgement that the entries give where every side fits, or each symbol has its place
abbrev pub ShapeAnswers : math.System → Precedence → List ℕ → Option MeasureReason → Type 0
ShapeAnswers sys order places (Some reason) = DoesUnravelingFit sys → IsPrecedenceJudged sys order (not_good (measure_reason_view reason))
ShapeAnswers sys order places None = ArePlaces (heads sys) order (length order) places × (IsOneMissing places → ⊥)

-- the reason of the shape, or the first of these rules that is not ordered, or that there is none
abbrev pub ReasonAnswers : Option MeasureReason → List ℕ → List math.Rule → Option MeasureReason → Type 0
ReasonAnswers (Some shape) places rs reason = reason ≡ Some shape
ReasonAnswers None places rs None = UnorderedAnswers places rs None
ReasonAnswers None places rs (Some reason) = (i : ℕ) × (reason ≡ Order (suc i)) × UnorderedAnswers places rs (Some i)

-- the same of the rules that come from some rules, all of whose sides fit; or the first rule of which a side does not
abbrev pub RulesReasonAnswers : ℕ → List math.Rule → Option MeasureReason → List ℕ → Result (Option MeasureReason) UnravelError → Type 0
RulesReasonAnswers f rs shape places (Ok reason) = DoSidesFit (unraveled_rules f rs) × ReasonAnswers shape places (unraveled_rules f rs) reason
RulesReasonAnswers f rs shape places (Err (TooLarge rule)) = IsLargeAt f rs rule
RulesReasonAnswers f rs shape places (Err NoMemory) = Unit {0}

-- the same of a system
abbrev pub FirstReasonAnswers : math.System → Option MeasureReason → List ℕ → Result (Option MeasureReason) UnravelError → Type 0
FirstReasonAnswers sys shape places (Ok reason) = DoesUnravelingFit sys × ReasonAnswers shape places (unraveled sys).rules reason
FirstReasonAnswers sys shape places (Err (TooLarge rule)) = IsFirstTooLarge sys rule
FirstReasonAnswers sys shape places (Err NoMemory) = Unit {0}
