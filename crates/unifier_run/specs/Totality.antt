-- Runs, trials and lists of overlaps: for each question there is an answer.
use Rattle.std.specs.Prelude.{ℕ, ◌≡◌, ◌≢◌, ◌⊎◌, List}
use Rattle.rewriting.specs.Prelude.{Term, Terms, count, Position, System}
use Rattle.unifier_run.specs.Run.{Outcome, clash, IsOutcome}
use Rattle.unifier_run.specs.Overlaps.{Overlap, AreOverlaps, IsPairTooLarge, AreTooManyOverlaps}
use Rattle.unifier_run.specs.Irreducible.{DoAllClash, IsFirstOutcome}

-- the run between two lists of one length has an outcome
abbrev pub RunsHaveOutcomes : Type 0
RunsHaveOutcomes = (ts us : Terms) → count ts ≡ count us → (o : Outcome) × IsOutcome ts us o

-- the trials on a term all clash, or there is a first that does not
abbrev pub TermsAreJudged : Type 0
TermsAreJudged = (sys : System) (t : Term) → DoAllClash sys t ⊎ ((o : Outcome) × (o ≢ clash) × IsFirstOutcome sys t o)

-- a system has its list of overlaps, or a first triple that is too large, or too many overlaps
abbrev pub OverlapsAreDefined : Type 0
OverlapsAreDefined =
    (sys : System) → ((os : List Overlap) × AreOverlaps sys os) ⊎ (((i : ℕ) × (p : Position) × (j : ℕ) × IsPairTooLarge sys i p j) ⊎ AreTooManyOverlaps sys)
