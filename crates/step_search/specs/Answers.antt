-- What tries, walks and the search for the standard steps answer.
use Rattle.std.specs.Prelude.{ℕ, ◌≡◌, ◌+◌, ◌<◌, ◌≤◌, List, map, Option, None, Some, Result, Ok, Err}
use Rattle.rewriting.specs.Rules.{System}
use Rattle.cc_count.specs.Counts.{Counts, Spends}
use Rattle.cc_count.specs.declared.Sought.{Sought}
use Rattle.cc_count.specs.declared.Sought.TheVariants.{Found, Nothing, Spent}
use Rattle.first_found.specs.Items.{GivesNothing, NoneGives, IsFirst, IsStopped, cost_of, one}
use Rattle.term_core.specs.declared.terms.NoMemory.{NoMemory}
use Rattle.certificates.specs.Certificates.{Simplification}
use Rattle.cert_model.specs.CertificateView.{simp_view}
use Rattle.simplifications.specs.Simplifying.{Simplifies}
use Rattle.simplified_spaces.specs.Tries as math
use Rattle.simplified_spaces.specs.Tries.{GivesStep, all_tries}
use Rattle.simplified_spaces.specs.Standard.{AreStandard}
use Rattle.simplified_spaces.specs.Walks.{LeadsOn}
use Rattle.simplify.specs.Changes.{after, IsChangeOf}
use Rattle.step_search.specs.declared.tries.Made.{Made}
use Rattle.step_search.specs.declared.rounds.SimpSearch.{SimpSearch}
use Rattle.step_search.specs.declared.rounds.SimpSearch.TheVariants as search

-- the step and what it changes, or it is not good
abbrev pub GoodAnswers : System → Simplification → Result (Option Made) NoMemory → Type 0
GoodAnswers sys s (Ok (Some m)) = (simp_view m.step ≡ s) × IsChangeOf sys m.change × Simplifies sys s (after sys m.change)
GoodAnswers sys s (Ok None) = (next : System) → Simplifies sys s next → ⊥
GoodAnswers sys s (Err e) = Unit {0}

-- what a try gives
abbrev pub TryAnswers : System → math.Try → Result (Option Made) NoMemory → Type 0
TryAnswers sys t (Ok (Some m)) = IsChangeOf sys m.change × GivesStep sys t (simp_view m.step, after sys m.change)
TryAnswers sys t (Ok None) = GivesNothing (GivesStep sys) t
TryAnswers sys t (Err e) = Unit {0}

-- the first good step of some tries, that there is none, or that the budget ended; and what was spent, also where memory is refused
abbrev pub WalkAnswers : System → List math.Try → Counts → Counts → Result (Sought Made) NoMemory → Type 0
WalkAnswers sys ts start end (Ok (Found m)) =
    IsChangeOf sys m.change × ((n : ℕ) × Spends start n end × IsFirst one (GivesStep sys) ts (simp_view m.step, after sys m.change) n)
WalkAnswers sys ts start end (Ok Nothing) = Spends start (cost_of one ts) end × NoneGives (GivesStep sys) ts
WalkAnswers sys ts start end (Ok Spent) = (n : ℕ) × Spends start n end × (end.left ≡ 0) × IsStopped one (GivesStep sys) ts n
WalkAnswers sys ts start end (Err e) = (n : ℕ) × Spends start n end × (n ≤ cost_of one ts)

-- these are the standard steps and the last system. The steps were found by `paid` tries out of `tried`, which are those of the
-- systems before the last; then all tries of the last system were made; and a unit was spent for each
pub record Finds (sys : System) (steps : List Simplification) (last : System) (start end : Counts) : Type 0 where
  pub tried : ℕ
  pub paid : ℕ
  pub made : LeadsOn sys steps last tried paid
  pub within : paid ≤ tried
  pub standard : AreStandard sys steps last (tried + all_tries last)
  pub spent : Spends start (paid + all_tries last) end

-- nothing is left, and each number of tries of the standard steps is greater than what was left at first
pub record RunsOut (sys : System) (start end : Counts) : Type 0 where
  pub spent : Spends start start.left end
  pub none_left : end.left ≡ 0
  pub dearer : (ss : List Simplification) (last : System) (w : ℕ) → AreStandard sys ss last w → start.left < w

-- so many units are no more than the tries of the standard steps
abbrev pub AreWithinTries : System → ℕ → Type 0
AreWithinTries sys n = (ss : List Simplification) (last : System) (w : ℕ) → AreStandard sys ss last w → n ≤ w

abbrev pub FindAnswers : System → Counts → Counts → Result SimpSearch NoMemory → Type 0
FindAnswers sys start end (Ok (search.Steps v last)) = Finds sys (map simp_view v.items) last start end
FindAnswers sys start end (Ok search.Spent) = RunsOut sys start end
FindAnswers sys start end (Err e) = (n : ℕ) × Spends start n end × AreWithinTries sys n
