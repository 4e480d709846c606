-- The finite map that a `Subst` stands for.
use Rattle.std.specs.Prelude.{◌≡◌, ℕ, List, map, Result, Ok, Err}
use Rattle.std.specs.FinMap.{from_entries}
use Rattle.rewriting.specs.Terms as math
use Rattle.rewriting.specs.Substitutions.{Bindings}
use Rattle.term_core.specs.View.{view}
use Rattle.term_core.specs.declared.terms.Term.{Term}
use Rattle.term_core.specs.declared.terms.TermError.{TermError}
use Rattle.term_core.specs.declared.terms.TermError.TheVariants.{NoPosition, TooLarge, NoMemory}

abbrev pub bindings_of : List (ℕ × Term) → Bindings
bindings_of es = from_entries (map (λ e. (e.0, view e.1)) es)

-- the instance, where it fits
abbrev pub ApplyAnswers : math.Term → Result Term TermError → Type 0
ApplyAnswers t (Ok u) = (view u ≡ t) × math.Fits (view u)
ApplyAnswers t (Err NoPosition) = ⊥
ApplyAnswers t (Err TooLarge) = math.Fits t → ⊥
ApplyAnswers t (Err NoMemory) = Unit {0}
