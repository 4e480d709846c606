-- What a run of two rules at a triple answers, and what its unifier makes there.
use Rattle.std.specs.Prelude.{ℕ, ◌≡◌, List, Option, None, Some, Result, Ok, Err}
use Rattle.rewriting.specs.Prelude.{Term, Position, Bindings, even, odd, Rule, System, IsPlace}
use Rattle.unifier_run.specs.Run.{Binding, unifier}
use Rattle.unifier_run.specs.Laws.{as_map}
use Rattle.unifier_run.specs.Overlaps as math
use Rattle.unifier_run.specs.Overlaps.{triple, IsOutcomeOf, IsOverlapOf, IsTooLargeAt}
use Rattle.unifier_run.specs.Triples.{DoesClash}
use Rattle.prepared_system.specs.Renamed.{rule_under}
use Rattle.critical_pairs.specs.View.{overlap_view}
use Rattle.critical_pairs.specs.declared.Overlap.{Overlap}
use Rattle.critical_pairs.specs.declared.OverlapError.{OverlapError}
use Rattle.critical_pairs.specs.declared.OverlapError.TheVariants.{PairTooLarge, TooManyPairs, NoMemory}

-- a triple of two rules and a position, where no variable stands
pub record IsSpotOf (sys : System) (i : ℕ) (p : Position) (j : ℕ) : Type 0 where
  pub inner : Rule
  pub outer : Rule
  pub part : Term
  pub place : IsPlace sys i p j inner outer part

-- its rules, renamed apart
abbrev pub AreRulesAt : System → ℕ → Position → ℕ → Rule → Rule → Type 0
AreRulesAt sys i p j low high = (spot : IsSpotOf sys i p j) → (low ≡ rule_under even spot.inner) × (high ≡ rule_under odd spot.outer)

-- the run at the triple has this unifier
pub record IsUnifierAt (sys : System) (i : ℕ) (p : Position) (j : ℕ) (m : Bindings) : Type 0 where
  pub spot : IsSpotOf sys i p j
  pub by : List Binding
  pub outcome : IsOutcomeOf spot.inner.left spot.part (unifier by)
  pub is : m ≡ as_map by

-- an overlap at the triple
abbrev pub IsOverlapAt : System → ℕ → Position → ℕ → math.Overlap → Type 0
IsOverlapAt sys i p j o = IsOverlapOf sys o × (triple o ≡ (i, (p, j)))

-- the error names the triple, or want of memory
abbrev pub IsRefusal : ℕ → Position → ℕ → OverlapError → Type 0
IsRefusal i p j (PairTooLarge k q l) = (k ≡ i) × (q.items ≡ p) × (l ≡ j)
IsRefusal i p j TooManyPairs = ⊥
IsRefusal i p j NoMemory = Unit {0}

-- the same, where the triple is too large
abbrev pub IsRefusedAt : System → ℕ → Position → ℕ → OverlapError → Type 0
IsRefusedAt sys i p j (PairTooLarge k q l) = IsTooLargeAt sys i p j × IsRefusal i p j (PairTooLarge k q l)
IsRefusedAt sys i p j TooManyPairs = ⊥
IsRefusedAt sys i p j NoMemory = Unit {0}

-- the unifier of the run at the triple, or none where it clashes
abbrev pub UnifierAnswers : System → ℕ → Position → ℕ → Result (Option Bindings) OverlapError → Type 0
UnifierAnswers sys i p j (Ok None) = DoesClash sys (i, (p, j))
UnifierAnswers sys i p j (Ok (Some m)) = IsUnifierAt sys i p j m
UnifierAnswers sys i p j (Err e) = IsRefusedAt sys i p j e

-- the overlap at the triple, or none where the run clashes
abbrev pub SpotAnswers : System → ℕ → Position → ℕ → Result (Option Overlap) OverlapError → Type 0
SpotAnswers sys i p j (Ok None) = DoesClash sys (i, (p, j))
SpotAnswers sys i p j (Ok (Some o)) = IsOverlapAt sys i p j (overlap_view o)
SpotAnswers sys i p j (Err e) = IsRefusedAt sys i p j e

-- what is made of an overlap at the triple
abbrev pub MadeAnswers : {M : Type 0} (is_of : M → math.Overlap → Type 0) → System → ℕ → Position → ℕ → Result M OverlapError → Type 0
MadeAnswers is_of sys i p j (Ok made) = (o : math.Overlap) × is_of made o × IsOverlapAt sys i p j o
MadeAnswers is_of sys i p j (Err e) = IsRefusedAt sys i p j e
