-- What a search for the overlaps of a system offers, one after the other.
use Rattle.std.specs.Prelude.{ℕ, suc, ◌≡◌, ◌≤◌, List, [], ◌∷◌, ◌++◌, Bool, true, false, Option, None, Some, Result, Ok, Err}
use Rattle.unifier_run.specs.declared.TheConstants.{MOST_OVERLAPS}
use Rattle.rewriting.specs.Prelude.{IsAmong, System}
use Rattle.unifier_run.specs.Overlaps as math
use Rattle.unifier_run.specs.Overlaps.{Triple, triple, IsOverlapOf, IsTooLargeAt}
use Rattle.unifier_run.specs.Triples.{all_triples, DoesClash}
use Rattle.critical_pairs.specs.View.{overlap_view}
use Rattle.critical_pairs.specs.declared.Overlap.{Overlap}
use Rattle.critical_pairs.specs.declared.OverlapError.{OverlapError}
use Rattle.critical_pairs.specs.declared.OverlapError.TheVariants.{PairTooLarge, TooManyPairs, NoMemory}

-- a search in a system: the triples that are still to come, in order, and how many overlaps it has offered
pub record Search : Type 0 where
  pub system : System
  pub rest : List Triple
  pub offered : ℕ

-- as it begins
abbrev pub search_of : System → Search
search_of sys = record { system = sys; rest = all_triples sys; offered = 0 }

-- the triples of `to` are those of `from` without some first ones, at each of which the run clashes
pub record DoesPass (sys : System) (from to : List Triple) : Type 0 where
  pub passed : List Triple
  pub split : from ≡ passed ++ to
  pub clash : (t : Triple) → IsAmong t passed → DoesClash sys t

-- the run clashes at each triple before this one
abbrev pub IsNext : System → List Triple → Triple → Type 0
IsNext sys ts t = (later : List Triple) × DoesPass sys ts (t ∷ later)

-- the overlap at the next triple is offered, and those behind it are still to come
pub record IsOffered (before after : Search) (o : math.Overlap) : Type 0 where
  pub is_overlap : IsOverlapOf before.system o
  pub passes : DoesPass before.system before.rest (triple o ∷ after.rest)
  pub counted : after.offered ≡ suc before.offered
  pub few : after.offered ≤ MOST_OVERLAPS

-- there is no further overlap, and nothing is still to come
pub record IsDone (before after : Search) : Type 0 where
  pub passes : DoesPass before.system before.rest []
  pub none : after.rest ≡ []
  pub counted : after.offered ≡ before.offered

-- there is a further overlap, after 20,000 were offered
pub record IsBeyond (before : Search) : Type 0 where
  pub further : math.Overlap
  pub is_overlap : IsOverlapOf before.system further
  pub is_next : IsNext before.system before.rest (triple further)
  pub many : before.offered ≡ MOST_OVERLAPS

-- nothing was offered, and no triple was lost but such at which the run clashes
pub record DoesStay (before after : Search) : Type 0 where
  pub passes : DoesPass before.system before.rest after.rest
  pub counted : after.offered ≡ before.offered

-- the next triple is too large, or there are too many overlaps, or want of memory
abbrev pub IsRefused : Search → OverlapError → Type 0
IsRefused before (PairTooLarge i p j) = IsNext before.system before.rest (i, (p.items, j)) × IsTooLargeAt before.system i p.items j
IsRefused before TooManyPairs = IsBeyond before
IsRefused before NoMemory = Unit {0}

-- the next overlap, or none, or why it is refused
abbrev pub OfferAnswers : Search → Search → Result (Option Overlap) OverlapError → Type 0
OfferAnswers before after (Ok (Some o)) = IsOffered before after (overlap_view o)
OfferAnswers before after (Ok None) = IsDone before after
OfferAnswers before after (Err e) = IsRefused before e

-- the same of an overlap that is passed: whether there was one
abbrev pub PassAnswers : Search → Search → Result Bool OverlapError → Type 0
PassAnswers before after (Ok true) = (o : math.Overlap) × IsOffered before after o
PassAnswers before after (Ok false) = IsDone before after
PassAnswers before after (Err e) = IsRefused before e
