-- The list of a system's overlaps: a set of triples, sorted, each with its conditional critical pair under the unifier of
-- the run (after Ohlebusch, Advanced Topics in Term Rewriting, chapter 7).
use Rattle.std.specs.Prelude.{ℕ, ◌≡◌, ◌≤◌, ◌⊎◌, List, length}
use Rattle.unifier_run.specs.declared.TheConstants.{MOST_OVERLAPS}
use Rattle.rewriting.specs.Prelude.{IsAmong, IsSorted, Term, nil, cons, Fits, Position, apply, even, odd, Rule, System, sides, Each, IsEarlierOverlap, IsPlace, CriticalPair, IsCriticalPair}
use Rattle.unifier_run.specs.Run.{Binding, value, Outcome, unifier, clash, too_large, IsOutcome}

-- an inner rule's number, a position, an outer rule's number
abbrev pub Triple : Type 0
Triple = ℕ × (Position × ℕ)

-- the outcome of the run for an inner left side, its variables k as 2k, and a part of the outer one, its variables k as 2k + 1
abbrev pub IsOutcomeOf : Term → Term → Outcome → Type 0
IsOutcomeOf left part o = IsOutcome (cons (apply even left) nil) (cons (apply odd part) nil) o

-- an overlap with its critical pair, and how many of the first conditions are those of the inner rule
pub record Overlap : Type 0 where
  pub inner : ℕ
  pub position : Position
  pub outer : ℕ
  pub pair : CriticalPair
  pub inner_conditions : ℕ

abbrev pub triple : Overlap → Triple
triple o = (o.inner, (o.position, o.outer))

-- every term of a critical pair fits
pub record DoesPairFit (pair : CriticalPair) : Type 0 where
  pub source : Fits pair.source
  pub left : Fits pair.left
  pub right : Fits pair.right
  pub conditions : Each Fits (sides pair.conditions)

-- an overlap of the system: the run has a unifier, under which the critical pair is the one that is told, and its terms fit
pub record IsOverlapOf (sys : System) (o : Overlap) : Type 0 where
  pub inner : Rule
  pub outer : Rule
  pub part : Term
  pub place : IsPlace sys o.inner o.position o.outer inner outer part
  pub by : List Binding
  pub outcome : IsOutcomeOf inner.left part (unifier by)
  pub pair : IsCriticalPair (value by) o.position inner outer part o.pair
  pub fits : DoesPairFit o.pair
  pub counted : o.inner_conditions ≡ length inner.conditions

-- at a triple the run passes the size, or it has a unifier and a term of the critical pair does not fit
pub record IsTooLargeAt (sys : System) (i : ℕ) (p : Position) (j : ℕ) : Type 0 where
  pub inner : Rule
  pub outer : Rule
  pub part : Term
  pub place : IsPlace sys i p j inner outer part
  pub why : IsOutcomeOf inner.left part too_large
      ⊎ ((by : List Binding) × (pair : CriticalPair) × IsOutcomeOf inner.left part (unifier by) × IsCriticalPair (value by) p inner outer part pair × (DoesPairFit pair → ⊥))

-- overlaps are in the order of their triples
abbrev pub ComesBefore : Overlap → Overlap → Type 0
ComesBefore o q = IsEarlierOverlap (triple o) (triple q)

-- the list has exactly the overlaps at the triples that count, in order; at each other such triple the run ends in a clash
pub record AreOverlapsAt (sys : System) (Counts : Triple → Type 0) (os : List Overlap) : Type 0 where
  pub each : (o : Overlap) → IsAmong o os → IsOverlapOf sys o × Counts (triple o)
  pub sorted : IsSorted ComesBefore os
  pub whole : (i : ℕ) (p : Position) (j : ℕ) (inner outer : Rule) (part : Term) → IsPlace sys i p j inner outer part → Counts (i, (p, j))
      → IsOutcomeOf inner.left part clash ⊎ ((o : Overlap) × IsAmong o os × (triple o ≡ (i, (p, j))))

-- those at all triples, no more than may be
pub record AreOverlaps (sys : System) (os : List Overlap) : Type 0 where
  pub are : AreOverlapsAt sys (λ t. Unit {0}) os
  pub few : length os ≤ MOST_OVERLAPS

-- (i, p, j) is the first triple that is too large, and no more overlaps before it than may be
pub record IsPairTooLarge (sys : System) (i : ℕ) (p : Position) (j : ℕ) : Type 0 where
  pub is_large : IsTooLargeAt sys i p j
  pub before : List Overlap
  pub are_before : AreOverlapsAt sys (λ t. IsEarlierOverlap t (i, (p, j))) before
  pub few : length before ≤ MOST_OVERLAPS

-- there is an overlap with as many before it as may be, and no triple before it is too large
pub record AreTooManyOverlaps (sys : System) : Type 0 where
  pub next : Overlap
  pub is_overlap : IsOverlapOf sys next
  pub before : List Overlap
  pub are_before : AreOverlapsAt sys (λ t. IsEarlierOverlap t (triple next)) before
  pub many : length before ≡ MOST_OVERLAPS
