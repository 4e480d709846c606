-- What the list of overlaps answers.
use Rattle.std.specs.Prelude.{◌≡◌, ◌≢◌, List, [], ◌∷◌, ◌++◌, map, length, Option, Some, None, Vec, Result, Ok, Err}
use Rattle.std.specs.Global.{Global}
use Rattle.unifier_run.specs.declared.TheConstants.{MOST_OVERLAPS}
use Rattle.rewriting.specs.Rules as rules
use Rattle.unifier_run.specs.Overlaps.{AreOverlaps, IsPairTooLarge, AreTooManyOverlaps}
use Rattle.critical_pairs.specs.View.{overlap_view}
use Rattle.critical_pairs.specs.declared.Overlap.{Overlap}
use Rattle.critical_pairs.specs.declared.OverlapError.{OverlapError}
use Rattle.critical_pairs.specs.declared.OverlapError.TheVariants.{PairTooLarge, TooManyPairs, NoMemory}

-- the overlaps in order, or the first refusal
abbrev pub OverlapsAnswers : rules.System → Result (Vec Overlap Global) OverlapError → Type 0
OverlapsAnswers sys (Ok os) = AreOverlaps sys (map overlap_view os.items)
OverlapsAnswers sys (Err (PairTooLarge inner pos outer)) = IsPairTooLarge sys inner pos.items outer
OverlapsAnswers sys (Err TooManyPairs) = AreTooManyOverlaps sys
OverlapsAnswers sys (Err NoMemory) = Unit {0}

-- one more overlap, if there is one, unless there are 20,000
abbrev pub PutAnswers : List Overlap → Option Overlap → List Overlap → Result (Unit {0}) OverlapError → Type 0
PutAnswers before None after (Ok u) = after ≡ before
PutAnswers before None after (Err e) = ⊥
PutAnswers before (Some o) after (Ok u) = (after ≡ before ++ o ∷ []) × (length before ≢ MOST_OVERLAPS)
PutAnswers before (Some o) after (Err (PairTooLarge inner pos outer)) = ⊥
PutAnswers before (Some o) after (Err TooManyPairs) = length before ≡ MOST_OVERLAPS
PutAnswers before (Some o) after (Err NoMemory) = Unit {0}
