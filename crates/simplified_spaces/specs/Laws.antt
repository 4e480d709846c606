-- Laws of tries and of standard steps.
use Rattle.std.specs.Prelude.{ℕ, ◌≡◌, ◌≤◌, ◌+◌, List, length}
use Rattle.rewriting.specs.Rules.{System}
use Rattle.first_found.specs.Items.{cost_of, IsFirst, one}
use Rattle.certificates.specs.Certificates.{Simplification}
use Rattle.simplifications.specs.Simplifying.{AllSimplify}
use Rattle.simplifications.specs.Laws.{parts}
use Rattle.simplified_spaces.specs.Tries.{tries, all_tries, GivesStep}
use Rattle.simplified_spaces.specs.Standard.{AreStandard}

-- the number of tries is that of the list
abbrev pub TriesAreCounted : Type 0
TriesAreCounted = (sys : System) → cost_of one (tries sys) ≡ all_tries sys

-- a good step is found within the tries
abbrev pub StepsAreWithinTries : Type 0
StepsAreWithinTries = (sys next : System) (s : Simplification) (n : ℕ) → IsFirst one (GivesStep sys) (tries sys) (s, next) n → n ≤ all_tries sys

-- standard steps are good, they are one list at most with one number, it cannot be that there are none, and they are no more than
-- the rules and conditions that they remove
pub record HasStandardSteps (sys : System) : Type 0 where
  pub good : (ss : List Simplification) (last : System) (w : ℕ) → AreStandard sys ss last w → AllSimplify sys ss last
  pub same_steps : (ss ts : List Simplification) (a b : System) (v w : ℕ) → AreStandard sys ss a v → AreStandard sys ts b w → ss ≡ ts
  pub same_last : (ss ts : List Simplification) (a b : System) (v w : ℕ) → AreStandard sys ss a v → AreStandard sys ts b w → a ≡ b
  pub same_number : (ss ts : List Simplification) (a b : System) (v w : ℕ) → AreStandard sys ss a v → AreStandard sys ts b w → v ≡ w
  pub not_none : ((ss : List Simplification) (last : System) (w : ℕ) → AreStandard sys ss last w → ⊥) → ⊥
  pub few : (ss : List Simplification) (last : System) (w : ℕ) → AreStandard sys ss last w → length ss + parts last ≤ parts sys

abbrev pub SystemsHaveStandardSteps : Type 0
SystemsHaveStandardSteps = (sys : System) → HasStandardSteps sys
