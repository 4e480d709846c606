-- What the parts of the judgement of an overlap's evidence answer.
use Rattle.std.specs.Prelude.{◌≡◌, ◌≢◌, ◌≤◌, ◌*◌, List, length, Option, None, Some, Result, Ok, Err}
use Rattle.rewriting.specs.declared.TheConstants.{MAX_CONDITIONS}
use Rattle.rewriting.specs.Terms as math
use Rattle.rewriting.specs.Prelude.{nil, cons, Fits, Condition, System}
use Rattle.unifier_run.specs.Run.{Binding, unifier, clash, too_large, IsOutcome}
use Rattle.unifier_run.specs.Overlaps.{Overlap}
use Rattle.unifier_run.specs.Irreducible.{DoAllClash}
use Rattle.caps.specs.Caps.{any}
use Rattle.caps.specs.Evidence.{IsPairOutcome, IsPairLarge}
use Rattle.certificates.specs.Prelude.{Derivation, Derives, IsFirstBad, EvidenceReason, conflict_left, conflict_unifies, conflict_large, BadStep, first_reducible, second_reducible}
use Rattle.certificates.specs.Prelude.{unfeasible_unifies, unfeasible_large, DoConditionsFit}
use Rattle.term_core.specs.View.{view}
use Rattle.term_core.specs.declared.terms.Term.{Term}
use Rattle.cert_model.specs.ReasonView.{evidence_reason_view}
use Rattle.refuter.specs.declared.Refusal.{Refusal}
use Rattle.refuter.specs.declared.Refusal.TheVariants.{Reason, NoMemory}

-- the terms of an overlap fit, and its conditions are few
pub record IsReady (o : Overlap) : Type 0 where
  pub left : Fits o.pair.left
  pub right : Fits o.pair.right
  pub conditions : DoConditionsFit o.pair.conditions
  pub few : length o.pair.conditions ≤ 2 * MAX_CONDITIONS
  pub counted : o.inner_conditions ≤ length o.pair.conditions

-- two conditions have one left side, and the right sides' caps clash; or the first reason why not
abbrev pub IsConflictOf : System → Condition → Condition → Option EvidenceReason → Type 0
IsConflictOf sys c d None = (c.left ≡ d.left) × IsPairOutcome sys any c.right d.right clash
IsConflictOf sys c d (Some conflict_left) = c.left ≢ d.left
IsConflictOf sys c d (Some conflict_unifies) = (c.left ≡ d.left) × ((m : List Binding) × IsPairOutcome sys any c.right d.right (unifier m))
IsConflictOf sys c d (Some conflict_large) = (c.left ≡ d.left) × IsPairLarge sys any c.right d.right
IsConflictOf sys c d (Some _) = ⊥

-- the derivation leads to the end, which fits
pub record IsEnd (sys : System) (hyps : List Condition) (start : math.Term) (d : Derivation) (end : math.Term) : Type 0 where
  pub derived : Derives sys hyps start d end
  pub fits : Fits end

-- the end of the derivation, or the reason that is made of its first bad step
abbrev pub EndAnswers : System → List Condition → math.Term → Derivation → (BadStep → EvidenceReason) → Result Term Refusal → Type 0
EndAnswers sys hyps start d made (Ok end) = IsEnd sys hyps start d (view end)
EndAnswers sys hyps start d made (Err (Reason reason)) = (bad : BadStep) × (evidence_reason_view reason ≡ made bad) × IsFirstBad sys hyps start d bad
EndAnswers sys hyps start d made (Err NoMemory) = Unit {0}

-- two terms are absolutely irreducible and do not unify, or the first reason why not
abbrev pub AreIrreducibleApart : System → math.Term → math.Term → Option EvidenceReason → Type 0
AreIrreducibleApart sys u v None = DoAllClash sys u × DoAllClash sys v × IsOutcome (cons u nil) (cons v nil) clash
AreIrreducibleApart sys u v (Some first_reducible) = DoAllClash sys u → ⊥
AreIrreducibleApart sys u v (Some second_reducible) = DoAllClash sys u × (DoAllClash sys v → ⊥)
AreIrreducibleApart sys u v (Some unfeasible_unifies) = DoAllClash sys u × DoAllClash sys v × ((m : List Binding) × IsOutcome (cons u nil) (cons v nil) (unifier m))
AreIrreducibleApart sys u v (Some unfeasible_large) = DoAllClash sys u × DoAllClash sys v × IsOutcome (cons u nil) (cons v nil) too_large
AreIrreducibleApart sys u v (Some _) = ⊥
