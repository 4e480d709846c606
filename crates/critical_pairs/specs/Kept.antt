-- Rules of a system that an earlier system has too, and the overlaps of two such rules.
use Rattle.std.specs.Prelude.{ℕ, zero, suc, ◌≡◌, ◌<◌, ◌-◌, ◌↔◌, List, [], ◌∷◌, map, get_or, set, Option, None, Some, IsSome}
use Rattle.rewriting.specs.Prelude.{IsAmong, IsSorted, Rule, System, rule_at, IsEarlierOverlap}
use Rattle.unifier_run.specs.Overlaps as math
use Rattle.unifier_run.specs.Overlaps.{Triple, triple, AreOverlaps, AreOverlapsAt}
use Rattle.critical_pairs.specs.View.{overlap_view}
use Rattle.critical_pairs.specs.declared.Overlap.{Overlap}
use Rattle.critical_pairs.specs.declared.kept.Kept.{Kept}

-- what a list of numbers has for rule number i, from 1
abbrev pub number_at : List (Option ℕ) → ℕ → Option ℕ
number_at numbers zero = None
number_at numbers (suc i) = get_or numbers i None

-- beside each rule stands the number of the same rule in the earlier system, or none; the numbers are above n and go up
abbrev pub AreOriginsFrom : ℕ → System → List (Option ℕ) → List Rule → Type 0
AreOriginsFrom n earlier [] [] = Unit {0}
AreOriginsFrom n earlier [] (r ∷ rs) = ⊥
AreOriginsFrom n earlier (o ∷ os) [] = ⊥
AreOriginsFrom n earlier (None ∷ os) (r ∷ rs) = AreOriginsFrom n earlier os rs
AreOriginsFrom n earlier (Some m ∷ os) (r ∷ rs) = (n < m) × (rule_at earlier m ≡ Some r) × AreOriginsFrom m earlier os rs

-- which rules of a system are rules of the earlier one, in the same order, and with which numbers there
abbrev pub AreOrigins : System → System → List (Option ℕ) → Type 0
AreOrigins earlier sys origins = AreOriginsFrom 0 earlier origins sys.rules

-- a list of the overlaps of an earlier system, of which the system has some rules
pub record AreKnown (earlier sys : System) (origins : List (Option ℕ)) (known : List math.Overlap) : Type 0 where
  pub origins_are : AreOrigins earlier sys origins
  pub overlaps_are : AreOverlaps earlier known

-- the numbers that the rules of the earlier system have now
abbrev pub AreNumbersNow : List (Option ℕ) → List (Option ℕ) → Type 0
AreNumbersNow origins now = (i m : ℕ) → (number_at origins i ≡ Some m) ↔ (number_at now m ≡ Some i)

-- rule number i of now has this origin
abbrev pub noted : List (Option ℕ) → Option ℕ → ℕ → List (Option ℕ)
noted now None i = now
noted now (Some m) i = set now (m - 1) (Some i)

-- an overlap with other numbers for its rules
abbrev pub with_numbers : math.Overlap → Option ℕ → Option ℕ → List math.Overlap
with_numbers o (Some i) (Some j) = record { inner = i; position = o.position; outer = j; pair = o.pair; inner_conditions = o.inner_conditions } ∷ []
with_numbers o (Some i) None = []
with_numbers o None b = []

-- with those of now, if both rules are still there
abbrev pub renumbered : List (Option ℕ) → math.Overlap → List math.Overlap
renumbered now o = with_numbers o (number_at now o.inner) (number_at now o.outer)

-- both rules of the triple are rules of the earlier system
abbrev pub IsOld : List (Option ℕ) → Triple → Type 0
IsOld origins (i, (p, j)) = IsSome (number_at origins i) × IsSome (number_at origins j)

-- of some triples in order, the overlaps at those that are old
pub record AreKept (sys : System) (ts : List Triple) (k : Kept) : Type 0 where
  pub order : IsSorted IsEarlierOverlap ts
  pub overlaps : AreOverlapsAt sys (λ t. IsOld k.origins.now t × IsAmong t ts) (map overlap_view k.overlaps.items)

-- the first overlap is taken where it is at the triple, and else none
abbrev pub TakeAnswers : Triple → List Overlap → List Overlap → Option Overlap → Type 0
TakeAnswers t before after (Some o) = (before ≡ o ∷ after) × (triple (overlap_view o) ≡ t)
TakeAnswers t before after None = (after ≡ before) × ((o : Overlap) (os : List Overlap) → before ≡ o ∷ os → triple (overlap_view o) ≡ t → ⊥)
