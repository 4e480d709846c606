-- What simplifications keep.
use Rattle.std.specs.Prelude.{ℕ, ◌≡◌, ◌⊎◌, ◌↔◌, ◌<◌, ◌+◌, List, length}
use Rattle.rewriting.specs.Prelude.{Commute, Term, System, IsSystem, IsWellFormed, condition_count, Steps, Reaches, IsConfluent, AreApart}
use Rattle.join_systems.specs.FileRelation.{IsFileTerm, FileReaches, IsFileConfluent, AreFileApart, IsFromFile}
use Rattle.certificates.specs.Prelude.{Simplification, SimplificationReason}
use Rattle.simplifications.specs.Simplifying.{Simplifies, AllSimplify, FailsAt}

-- the two systems have the same symbols, as many of them are the file's, and at every level the same terms are reached
pub record AreSameByLevels (sys other : System) : Type 0 where
  pub arities : other.arities ≡ sys.arities
  pub own : other.own ≡ sys.own
  pub levels : (n : ℕ) (u v : Term) → Steps sys n u v ↔ Steps other n u v

-- so it is along good steps
abbrev pub SimplificationsKeepLevels : Type 0
SimplificationsKeepLevels = (sys last : System) (ss : List Simplification) → IsWellFormed sys → AllSimplify sys ss last → AreSameByLevels sys last

-- what follows for two systems: reachability, confluence, terms that are apart, and levels that commute
pub record AreAlike (sys other : System) : Type 0 where
  pub reaches : (u v : Term) → Reaches sys u v ↔ Reaches other u v
  pub confluent : IsConfluent sys ↔ IsConfluent other
  pub apart : (u v : Term) → AreApart sys u v ↔ AreApart other u v
  pub commute : (m n : ℕ) → Commute (Steps sys m) (Steps sys n) ↔ Commute (Steps other m) (Steps other n)

abbrev pub SystemsOfOneLevelsAreAlike : Type 0
SystemsOfOneLevelsAreAlike = (sys other : System) → AreSameByLevels sys other → AreAlike sys other

-- good steps lead from join rules to join rules, since only the first ones can be dropped and nothing can be inlined; and from a system whose symbols are all the file's to one
abbrev pub SimplificationsKeepFiles : Type 0
SimplificationsKeepFiles = (sys last : System) (ss : List Simplification) → IsFromFile sys → AllSimplify sys ss last → IsFromFile last

-- the same file terms, and between them the same file's relation; it is confluent for both or for none, and the same file terms are apart
pub record AreOneFile (sys other : System) : Type 0 where
  pub terms : (t : Term) → IsFileTerm sys t ↔ IsFileTerm other t
  pub reaches : (u v : Term) → IsFileTerm sys u → IsFileTerm sys v → FileReaches sys u v ↔ FileReaches other u v
  pub confluent : IsFileConfluent sys ↔ IsFileConfluent other
  pub apart : (u v : Term) → IsFileTerm sys u → IsFileTerm sys v → AreFileApart sys u v ↔ AreFileApart other u v

-- so it is for two systems that are from files
abbrev pub SystemsOfOneLevelsAreOneFile : Type 0
SystemsOfOneLevelsAreOneFile =
    (sys other : System) → IsWellFormed sys → IsWellFormed other → IsFromFile sys → IsFromFile other → AreSameByLevels sys other → AreOneFile sys other

-- good steps lead from a system as files give it to one
abbrev pub SimplificationsMakeSystems : Type 0
SimplificationsMakeSystems = (sys last : System) (ss : List Simplification) → IsSystem sys → AllSimplify sys ss last → IsSystem last

-- rules and conditions
abbrev pub parts : System → ℕ
parts sys = length sys.rules + condition_count sys.rules

-- a good step leaves fewer of them
abbrev pub SimplificationsShrink : Type 0
SimplificationsShrink = (sys next : System) (s : Simplification) → Simplifies sys s next → parts next < parts sys

-- a list of steps leads to one system, or fails at one step for one reason, and never both
pub record HasOneAnswer (sys : System) (ss : List Simplification) : Type 0 where
  pub one_system : (a b : System) → AllSimplify sys ss a → AllSimplify sys ss b → a ≡ b
  pub one_reason : (i j : ℕ) (why other : SimplificationReason) → FailsAt sys ss i why → FailsAt sys ss j other → (i ≡ j) × (why ≡ other)
  pub never_both : (a : System) (i : ℕ) (why : SimplificationReason) → AllSimplify sys ss a → FailsAt sys ss i why → ⊥
  pub some : ((a : System) × AllSimplify sys ss a) ⊎ ((i : ℕ) × (why : SimplificationReason) × FailsAt sys ss i why)

abbrev pub SimplificationsHaveOneAnswer : Type 0
SimplificationsHaveOneAnswer = (sys : System) (ss : List Simplification) → HasOneAnswer sys ss
