-- The first entries of an interpretation.
use Rattle.std.specs.Prelude.{ℕ, ◌≡◌, ◌<◌, ◌≤◌, [], ◌∷◌, ◌++◌, length, Result, Ok, Err}
use Rattle.rewriting.specs.Prelude.{System, IsWellFormed, heads}
use Rattle.certificates.specs.Certificates.{LinearEntry}
use Rattle.interpretations.specs.Linear.{Interpretation, IsEntry, AreAllNumbersGood}
use Rattle.interpretations.specs.Size.{DoesUnravelingFit, IsFirstTooLarge}
use Rattle.measure_grid.specs.Dead.{IsDead}
use Rattle.measure.specs.declared.Partial.{Partial}
use Rattle.measure.specs.declared.Partial.TheVariants.{Dead, Unknown}
use Rattle.term_core.specs.declared.terms.NoMemory.{NoMemory}
use Rattle.unravel.specs.Answers.{IsUnraveled}
use Rattle.unravel.specs.declared.Unraveled.{Unraveled}
use Rattle.unravel.specs.declared.UnravelError.{UnravelError}
use Rattle.unravel.specs.declared.UnravelError.TheVariants as unravel
use Rattle.unravel.specs.declared.UnravelError.TheVariants.{TooLarge}

-- entries for the first symbols of the unraveled system, with good numbers
pub record IsPrefix (sys : System) (es : Interpretation) : Type 0 where
  pub few : length es ≤ length (heads sys)
  pub entries : (k : ℕ) → k < length es → IsEntry sys es k
  pub numbers : AreAllNumbersGood sys es

-- nothing that is known so far makes it dead: without its last entry it is not
abbrev pub IsAliveBefore : System → Interpretation → Type 0
IsAliveBefore sys es = (before : Interpretation) (last : LinearEntry) → es ≡ before ++ last ∷ [] → IsDead sys before → ⊥

-- dead exactly where the value does not fall at some rule all of whose symbols have an entry
abbrev pub PrefixAnswers : System → Interpretation → Result Partial NoMemory → Type 0
PrefixAnswers sys es (Ok Dead) = IsDead sys es
PrefixAnswers sys es (Ok Unknown) = IsDead sys es → ⊥
PrefixAnswers sys es (Err e) = Unit {0}

-- the judge of a system, all sides of whose unraveling fit, or the first rule of which a side does not
abbrev pub NewAnswers : System → Result System UnravelError → Type 0
NewAnswers sys (Ok judge) = (judge ≡ sys) × DoesUnravelingFit sys
NewAnswers sys (Err (TooLarge rule)) = IsFirstTooLarge sys rule
NewAnswers sys (Err unravel.NoMemory) = Unit {0}

-- the unraveling of some well-formed system, of whose interpretations these are first entries
pub record HasPrefix (u : Unraveled) (es : Interpretation) : Type 0 where
  pub system : System
  pub well : IsWellFormed system
  pub unraveled : IsUnraveled system u
  pub prefix : IsPrefix system es
