-- What the judging of a rule answers.
use Rattle.std.specs.Prelude.{ℕ, ◌≡◌, ◌<◌, ◌≤◌, Option, None, Some, length, false}
use Rattle.rewriting.specs.Prelude.{occurs_in, IsWithin, Condition, Rule, System, IsAt, known, IsStable}
use Rattle.certificates.specs.Prelude.{Class, IsInClass, IsRuleBlamed, IsFirstVariable, IsFresh, IsUnstable}
use Rattle.ctrs_classes.specs.declared.rules.Fault.{Fault}

-- the rule is in the class, or what is at fault
abbrev pub FaultAnswers : System → Class → Rule → Option Fault → Type 0
FaultAnswers sys class r None = IsInClass sys class r
FaultAnswers sys class r (Some f) = IsRuleBlamed sys class r f.cond f.variable

-- the variables of the left side are known before the i-th condition, or the first that is not
abbrev pub UndeterminedAnswers : Rule → ℕ → Condition → Option ℕ → Type 0
UndeterminedAnswers r i c None = IsWithin c.left (known r i)
UndeterminedAnswers r i c (Some x) = IsFirstVariable (λ y. occurs_in y (known r i) ≡ false) c.left x

-- the right side of the i-th condition is fresh and stable, or why not
abbrev pub UnstableAnswers : System → Rule → ℕ → Condition → Option (Option ℕ) → Type 0
UnstableAnswers sys r i c None = IsFresh r i c × IsStable sys c.right
UnstableAnswers sys r i c (Some variable) = IsUnstable sys r i c variable

-- the left sides of the first m conditions are known, and m is their number or the next one is not
pub record IsKnownPrefix (r : Rule) (m : ℕ) : Type 0 where
  pub at_most : m ≤ length r.conditions
  pub before : (i : ℕ) (c : Condition) → i < m → IsAt r.conditions i c → IsWithin c.left (known r i)
  pub next : (c : Condition) → IsAt r.conditions m c → IsWithin c.left (known r m) → ⊥
