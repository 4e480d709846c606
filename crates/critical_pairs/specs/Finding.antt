-- What the next triple at which the run does not clash answers, and counting its overlap.
use Rattle.std.specs.Prelude.{ℕ, suc, ◌≡◌, ◌≤◌, [], Option, None, Some, Result, Ok, Err}
use Rattle.unifier_run.specs.declared.TheConstants.{MOST_OVERLAPS}
use Rattle.rewriting.specs.Rules.{System}
use Rattle.unifier_run.specs.Overlaps as math
use Rattle.unifier_run.specs.Overlaps.{Triple, IsTooLargeAt}
use Rattle.critical_pairs.specs.Offers.{Search, IsOffered, IsDone, IsRefused}
use Rattle.critical_pairs.specs.Cursors.{rest_of, StandsBefore}
use Rattle.critical_pairs.specs.declared.cursor.Cursor.{Cursor}
use Rattle.critical_pairs.specs.Spots.{IsUnifierAt}
use Rattle.critical_pairs.specs.declared.OverlapError.{OverlapError}
use Rattle.critical_pairs.specs.declared.search.Found.{Found}
use Rattle.critical_pairs.specs.declared.OverlapError.TheVariants.{PairTooLarge, TooManyPairs, NoMemory}

-- the triple before which the cursor stands
pub record StandsAt (sys : System) (c : Cursor) (t : Triple) : Type 0 where
  pub inner : ℕ
  pub stands : StandsBefore sys c inner
  pub is_triple : t ≡ (inner, (stands.at.0, c.outer))

-- the run has this unifier at the triple there, of which this is the inner rule
pub record IsFound (sys : System) (c : Cursor) (f : Found) : Type 0 where
  pub stands : StandsBefore sys c f.inner
  pub unifier : IsUnifierAt sys f.inner stands.at.0 c.outer f.unifier

-- the triple there is too large, or want of memory
abbrev pub IsRefusedThere : System → Cursor → OverlapError → Type 0
IsRefusedThere sys c (PairTooLarge i p j) = IsTooLargeAt sys i p.items j × StandsAt sys c (i, (p.items, j))
IsRefusedThere sys c TooManyPairs = ⊥
IsRefusedThere sys c NoMemory = Unit {0}

-- what is found there, or none where no triple is still to come
abbrev pub FindAnswers : System → Cursor → Result (Option Found) OverlapError → Type 0
FindAnswers sys c (Ok None) = rest_of sys c ≡ []
FindAnswers sys c (Ok (Some f)) = IsFound sys c f
FindAnswers sys c (Err e) = IsRefusedThere sys c e

-- one more overlap than n is counted, and the cursor is behind it
pub record IsCounted (before : Cursor) (n : ℕ) (after : Cursor) (m : ℕ) : Type 0 where
  pub outer : after.outer ≡ before.outer
  pub places : after.places ≡ before.places
  pub place : after.place ≡ before.place
  pub candidate : after.candidate ≡ suc before.candidate
  pub counted : m ≡ suc n
  pub few : m ≤ MOST_OVERLAPS

-- all is as it was where there are 20,000
abbrev pub CountAnswers : Cursor → ℕ → Cursor → ℕ → Result (Unit {0}) OverlapError → Type 0
CountAnswers before n after m (Ok u) = IsCounted before n after m
CountAnswers before n after m (Err e) = (e ≡ TooManyPairs) × (n ≡ MOST_OVERLAPS) × (after ≡ before) × (m ≡ n)

-- what is made of the next overlap, or none, or why it is refused
abbrev pub StepAnswers : {M : Type 0} (is_of : M → math.Overlap → Type 0) → Search → Search → Result (Option M) OverlapError → Type 0
StepAnswers is_of before after (Ok (Some made)) = (o : math.Overlap) × is_of made o × IsOffered before after o
StepAnswers is_of before after (Ok None) = IsDone before after
StepAnswers is_of before after (Err e) = IsRefused before e
