-- Where a walk through the pruned grid stands.
use Rattle.std.specs.Prelude.{ℕ, ◌≡◌, ◌+◌, ◌<◌, List, [], ◌∷◌, ◌++◌, length, slice_get, Some, Bool, true, false, Result, Ok, Err}
use Rattle.rewriting.specs.Prelude.{System, Head, heads, unraveled}
use Rattle.certificates.specs.Certificates.{LinearEntry}
use Rattle.interpretations.specs.Linear.{Interpretation}
use Rattle.interpretations.specs.Judgement.{good}
use Rattle.interpretations.specs.Judged.{IsInterpretationJudged}
use Rattle.first_found.specs.Trees.{IsBarrenBelow}
use Rattle.first_found.specs.Paths.{HasWalked}
use Rattle.term_core.specs.declared.terms.NoMemory.{NoMemory}
use Rattle.measure_grid.specs.Grid.{columns}
use Rattle.measure_grid.specs.Dead.{IsDead}
use Rattle.measure_grid.specs.Pruned.{extensions, IsDeadPrefix, PrefixGives, start, IsPrunedBarren}
use Rattle.grid_search.specs.Columns.{IsFirstOf}
use Rattle.grid_search.specs.declared.walk.Seen.{Seen}
use Rattle.grid_search.specs.declared.walk.Seen.TheVariants.{Alive, Dead, Good}

-- the walk came to these entries, tried nothing that begins with them, and paid n; so many columns are behind
abbrev pub StandsAt : System → List (List LinearEntry) → Interpretation → ℕ → Type 0
StandsAt sys behind es n =
    HasWalked extensions (IsDeadPrefix sys) (PrefixGives sys) (length (columns sys)) (start sys) (length es) (length behind) (record { entries = es; behind = behind }) n

abbrev pub HasComeTo : System → Interpretation → ℕ → Type 0
HasComeTo sys es n = (behind : List (List LinearEntry)) × StandsAt sys behind es n

-- it came to these entries, and n units in all show that nothing good begins with them
pub record HasDoneWith (sys : System) (es : Interpretation) (n : ℕ) : Type 0 where
  pub behind : List (List LinearEntry)
  pub paid : ℕ
  pub units : ℕ
  pub came_to : StandsAt sys behind es paid
  pub barren : IsBarrenBelow extensions (IsDeadPrefix sys) (PrefixGives sys) (length behind) (record { entries = es; behind = behind }) units
  pub sum : n ≡ paid + units

-- it goes on at other entries, or it is done with all
abbrev pub GoesOn : System → Interpretation → ℕ → Bool → Type 0
GoesOn sys es n true = HasComeTo sys es n
GoesOn sys es n false = IsPrunedBarren sys n

-- the first entry of the next symbol is last
pub record HasOneMore (sys : System) (before after : Interpretation) : Type 0 where
  pub head : Head
  pub arity : ℕ
  pub entry : LinearEntry
  pub is_head : slice_get (heads sys) (length before) ≡ Some head
  pub is_arity : slice_get (unraveled sys).arities (length before) ≡ Some arity
  pub is_first : IsFirstOf head arity entry
  pub last : after ≡ before ++ entry ∷ []

-- dead entries, a good interpretation, or entries that are neither
abbrev pub VisitAnswers : System → Interpretation → Result Seen NoMemory → Type 0
VisitAnswers sys es (Ok Alive) = (IsDead sys es → ⊥) × (length es < length (heads sys))
VisitAnswers sys es (Ok Dead) = IsDead sys es
VisitAnswers sys es (Ok Good) = (length es ≡ length (heads sys)) × IsInterpretationJudged sys es good
VisitAnswers sys es (Err e) = Unit {0}
