-- The system that a `System` stands for, and what `make` answers.
use Rattle.std.specs.Prelude.{◌≡◌, ◌+◌, ◌≤◌, ℕ, map, List, [], ◌∷◌, ◌++◌, length, Result, Ok, Err}
use Rattle.rewriting.specs.declared.TheConstants.{MAX_CONDITIONS}
use Rattle.rewriting.specs.Prelude.{IsVariable, Fits, Signature, IsOver, Each, terms_of_rule, rule_variables, IsRule, IsSystem}
pub use Rattle.rewriting.specs.Signatures.{HasSymbolsBelow, HaveSymbolsBelow}
use Rattle.rewriting.specs.Rules as math
use Rattle.term_core.specs.RuleView.{rule_view, AreCounted}
use Rattle.term_core.specs.Numbering.{IsNumbered}
use Rattle.term_core.specs.declared.systems.Rule.{Rule}
use Rattle.term_core.specs.declared.systems.System.TheInside.{Inside}
use Rattle.term_core.specs.declared.systems.SystemFault.{SystemFault}
use Rattle.term_core.specs.declared.systems.SystemFault.TheVariants.{BadSymbol, BadArity, LeftVariable, BadVariables, TooLarge}

abbrev pub system_view : Inside → math.System
system_view s = record { arities = s.arities.items; rules = map rule_view s.rules.items; own = s.own }

-- every symbol of the rule is one of the symbols
abbrev pub AreSymbolsKnown : Signature → math.Rule → Type 0
AreSymbolsKnown arities r = Each (HasSymbolsBelow (length arities)) (terms_of_rule r)

-- every term of the rule is over the symbols
abbrev pub AreTermsOver : Signature → math.Rule → Type 0
AreTermsOver arities r = Each (IsOver arities) (terms_of_rule r)

-- few enough conditions, and every term fits
pub record IsSmall (r : math.Rule) : Type 0 where
  pub few_conditions : length r.conditions ≤ MAX_CONDITIONS
  pub fits : Each Fits (terms_of_rule r)

-- a rule as a system has it, with the number of its variables
pub record IsSound (arities : Signature) (r : Rule) : Type 0 where
  pub rule : IsRule arities (rule_view r)
  pub counted : r.vars ≡ length (rule_variables (rule_view r))

-- each of them is one
abbrev pub AreSound : Signature → List Rule → Type 0
AreSound arities [] = Unit {0}
AreSound arities (r ∷ rs) = IsSound arities r × AreSound arities rs

-- the rule with a number, from 1, where all before it are sound
pub record FirstAt (arities : Signature) (rules : List Rule) (number : ℕ) (rule : Rule) : Type 0 where
  pub before : List Rule
  pub after : List Rule
  pub split : rules ≡ before ++ rule ∷ after
  pub numbered : number ≡ length before + 1
  pub sound_before : AreSound arities before

abbrev pub fault_rule : SystemFault → ℕ
fault_rule (BadSymbol n) = n
fault_rule (BadArity n) = n
fault_rule (LeftVariable n) = n
fault_rule (BadVariables n) = n
fault_rule (TooLarge n) = n

-- what a fault says of its rule: it has this fault, and none of those before it
abbrev pub HasFault : Signature → Rule → SystemFault → Type 0
HasFault arities r (BadSymbol _) = AreSymbolsKnown arities (rule_view r) → ⊥
HasFault arities r (BadArity _) = AreSymbolsKnown arities (rule_view r) × (AreTermsOver arities (rule_view r) → ⊥)
HasFault arities r (LeftVariable _) = AreTermsOver arities (rule_view r) × IsVariable (rule_view r).left
HasFault arities r (BadVariables _) = AreTermsOver arities (rule_view r) × (IsVariable (rule_view r).left → ⊥) × (IsNumbered r → ⊥)
HasFault arities r (TooLarge _) = AreTermsOver arities (rule_view r) × (IsVariable (rule_view r).left → ⊥) × IsNumbered r × (IsSmall (rule_view r) → ⊥)

-- for one rule with a number
abbrev pub FaultAnswers : Signature → Rule → ℕ → Result (Unit {0}) SystemFault → Type 0
FaultAnswers arities r number (Ok _) = IsSound arities r
FaultAnswers arities r number (Err fault) = (fault_rule fault ≡ number) × HasFault arities r fault

-- the first rule with a fault, and its first fault
abbrev pub IsFaultOf : Signature → List Rule → SystemFault → Type 0
IsFaultOf arities rules fault = (r : Rule) × FirstAt arities rules (fault_rule fault) r × HasFault arities r fault

-- for all rules
abbrev pub FirstFaultAnswers : Signature → List Rule → Result (Unit {0}) SystemFault → Type 0
FirstFaultAnswers arities rules (Ok _) = AreSound arities rules
FirstFaultAnswers arities rules (Err fault) = IsFaultOf arities rules fault

-- the system of what was handed in, or its fault
abbrev pub MakeAnswers : Signature → List Rule → Result math.System SystemFault → Type 0
MakeAnswers arities rules (Ok s) = s ≡ math.system_of arities (map rule_view rules)
MakeAnswers arities rules (Err fault) = IsFaultOf arities rules fault

-- what a system keeps
pub record IsHeld (s : Inside) : Type 0 where
  pub system : IsSystem (system_view s)
  pub counted : AreCounted s.rules.items
