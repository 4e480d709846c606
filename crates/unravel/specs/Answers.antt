-- What `unravel` answers.
use Rattle.std.specs.Prelude.{◌≡◌, map, Result, Ok, Err}
use Rattle.rewriting.specs.Rules as math
use Rattle.rewriting.specs.Unraveling.{unraveled, heads}
use Rattle.interpretations.specs.Size.{DoesUnravelingFit, IsFirstTooLarge}
use Rattle.term_core.specs.HeadView.{head_view}
use Rattle.unravel.specs.declared.Unraveled.{Unraveled}
use Rattle.unravel.specs.declared.UnravelError.{UnravelError}
use Rattle.unravel.specs.declared.UnravelError.TheVariants.{TooLarge, NoMemory}

-- the unraveled system with its heads, and every side fits; or the first rule of which a side does not
pub record IsUnraveled (sys : math.System) (u : Unraveled) : Type 0 where
  pub system : u.system ≡ unraveled sys
  pub heads : map head_view u.heads.items ≡ heads sys
  pub fits : DoesUnravelingFit sys

abbrev pub UnravelAnswers : math.System → Result Unraveled UnravelError → Type 0
UnravelAnswers sys (Ok u) = IsUnraveled sys u
UnravelAnswers sys (Err (TooLarge rule)) = IsFirstTooLarge sys rule
UnravelAnswers sys (Err NoMemory) = Unit {0}
