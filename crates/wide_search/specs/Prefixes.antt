-- The first entries to which a walk through interpretations comes.
use Rattle.std.specs.Prelude.{◌≡◌, ◌<◌, [], ◌∷◌, ◌++◌, length, Result, Ok, Err}
use Rattle.rewriting.specs.Prelude.{System, heads}
use Rattle.certificates.specs.Certificates.{LinearEntry}
use Rattle.interpretations.specs.Linear.{Interpretation}
use Rattle.measure_grid.specs.Dead.{IsDead}
use Rattle.grid_search.specs.Prefix.{IsPrefix}
use Rattle.term_core.specs.declared.terms.NoMemory.{NoMemory}
use Rattle.wide_search.specs.Tried.{AreTried}
use Rattle.wide_search.specs.declared.grid.Seen.{Seen}
use Rattle.wide_search.specs.declared.grid.Seen.TheVariants.{Alive, Dead, Good}

-- each entry's numbers are tried
abbrev pub AreAllTried : Interpretation → Type 0
AreAllTried [] = Unit {0}
AreAllTried (e ∷ es) = AreTried e.head e.coefficients × AreAllTried es

-- entries for the first symbols, of which no shorter beginning is dead
pub record IsNext (sys : System) (es : Interpretation) : Type 0 where
  pub prefix : IsPrefix sys es
  pub tried : AreAllTried es
  pub alive : (before : Interpretation) (last : LinearEntry) (more : Interpretation) → es ≡ before ++ last ∷ more → IsDead sys before → ⊥

-- the same, and they are not dead themselves
pub record IsAlive (sys : System) (es : Interpretation) : Type 0 where
  pub prefix : IsPrefix sys es
  pub tried : AreAllTried es
  pub alive : (before more : Interpretation) → es ≡ before ++ more → IsDead sys before → ⊥

-- where they are alive, there are symbols behind them
abbrev pub SeenAnswers : System → Interpretation → Result Seen NoMemory → Type 0
SeenAnswers sys es (Ok Alive) = IsAlive sys es × (length es < length (heads sys))
SeenAnswers sys es (Ok Dead) = Unit {0}
SeenAnswers sys es (Ok Good) = Unit {0}
SeenAnswers sys es (Err e) = Unit {0}
