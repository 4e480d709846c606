-- What the parts of a critical pair answer, over rules whose variables are renamed apart already.
use Rattle.std.specs.Prelude.{ℕ, ◌≡◌, List, ◌++◌, map, length, Some, Vec, Result, Ok, Err}
use Rattle.std.specs.Global.{Global}
use Rattle.rewriting.specs.Terms as terms
use Rattle.rewriting.specs.Prelude.{Fits, Position, replace, Substitution, apply, sides, Each, CriticalPair, condition_under, conditions_under}
use Rattle.rewriting.specs.Rules as math
use Rattle.unifier_run.specs.Overlaps.{DoesPairFit}
use Rattle.term_core.specs.Prelude.{view, condition_view}
use Rattle.term_core.specs.declared.terms.Term.{Term}
use Rattle.term_core.specs.declared.terms.TermError.{TermError}
use Rattle.term_core.specs.declared.terms.TermError.TheVariants.{NoPosition, TooLarge, NoMemory}
use Rattle.term_core.specs.declared.systems.Cond.{Cond}
use Rattle.critical_pairs.specs.declared.Overlap.{Overlap}
use Rattle.critical_pairs.specs.View.{overlap_view}

-- the critical pair that m makes of an inner and an outer rule
pub record IsMade (m : Substitution) (p : Position) (inner outer : math.Rule) (pair : CriticalPair) : Type 0 where
  pub source : pair.source ≡ apply m outer.left
  pub left : replace (apply m outer.left) p (apply m inner.right) ≡ Some pair.left
  pub right : pair.right ≡ apply m outer.right
  pub conditions : pair.conditions ≡ conditions_under m inner.conditions ++ conditions_under m outer.conditions

-- the instance of a condition, where it fits
abbrev pub InstanceAnswers : Substitution → math.Condition → Result Cond TermError → Type 0
InstanceAnswers m c (Ok d) = (condition_view d ≡ condition_under m c) × Fits (apply m c.left) × Fits (apply m c.right)
InstanceAnswers m c (Err NoPosition) = ⊥
InstanceAnswers m c (Err TooLarge) = Fits (apply m c.left) × Fits (apply m c.right) → ⊥
InstanceAnswers m c (Err NoMemory) = Unit {0}

-- the instances of conditions, behind others
abbrev pub InstancesAnswers : Substitution → List math.Condition → List math.Condition → List math.Condition → Result (Unit {0}) TermError → Type 0
InstancesAnswers m cs before after (Ok u) = (after ≡ before ++ conditions_under m cs) × Each Fits (sides (conditions_under m cs))
InstancesAnswers m cs before after (Err NoPosition) = ⊥
InstancesAnswers m cs before after (Err TooLarge) = Each Fits (sides (conditions_under m cs)) → ⊥
InstancesAnswers m cs before after (Err NoMemory) = Unit {0}

-- the term with the instance of another at a position that it has
abbrev pub ContractedAnswers : terms.Term → Position → terms.Term → Result Term TermError → Type 0
ContractedAnswers t p u (Ok v) = (replace t p u ≡ Some (view v)) × Fits (view v)
ContractedAnswers t p u (Err NoPosition) = ⊥
ContractedAnswers t p u (Err TooLarge) = (v : terms.Term) → replace t p u ≡ Some v → Fits v → ⊥
ContractedAnswers t p u (Err NoMemory) = Unit {0}

-- an overlap with the numbers and the position that are told
pub record IsNumbered (i : ℕ) (p : Position) (j conditions : ℕ) (o : Overlap) : Type 0 where
  pub inner : o.inner ≡ i
  pub position : o.pos.items ≡ p
  pub outer : o.outer ≡ j
  pub counted : o.inner_conds ≡ conditions

abbrev pub PairAnswers : Substitution → ℕ → Position → ℕ → math.Rule → math.Rule → Result Overlap TermError → Type 0
PairAnswers m i p j inner outer (Ok o) = IsMade m p inner outer (overlap_view o).pair × DoesPairFit (overlap_view o).pair × IsNumbered i p j (length inner.conditions) o
PairAnswers m i p j inner outer (Err NoPosition) = ⊥
PairAnswers m i p j inner outer (Err TooLarge) = (pair : CriticalPair) → IsMade m p inner outer pair → DoesPairFit pair → ⊥
PairAnswers m i p j inner outer (Err NoMemory) = Unit {0}

-- the instances of the conditions of both rules
abbrev pub ConditionsAnswers : Substitution → List math.Condition → List math.Condition → Result (Vec Cond Global) TermError → Type 0
ConditionsAnswers m cs ds (Ok out) = (map condition_view out.items ≡ conditions_under m cs ++ conditions_under m ds) × Each Fits (sides (conditions_under m cs ++ conditions_under m ds))
ConditionsAnswers m cs ds (Err NoPosition) = ⊥
ConditionsAnswers m cs ds (Err TooLarge) = Each Fits (sides (conditions_under m cs ++ conditions_under m ds)) → ⊥
ConditionsAnswers m cs ds (Err NoMemory) = Unit {0}
