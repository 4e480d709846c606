-- Both sides of conditions with their variables in numbers of their own: what comparing them answers.
use Rattle.std.specs.Prelude.{ℕ, ◌≡◌, ◌≤◌, ◌<◌, ◌^◌, true, List, length, Option, Some, None, Result, Ok, Err}
use Rattle.std.specs.Global.{Vec}
use Rattle.rewriting.specs.Prelude.{var, Terms, apply_all, occurs_in, Condition, System, left_sides, AreDistinct}
use Rattle.renumbering.specs.Rows.{naming}
use Rattle.caps.specs.Caps.{Caps, any, all_filled, AreCapsOf, AreCapsLarge}
use Rattle.term_core.specs.View.{views}
use Rattle.term_core.specs.declared.terms.Term.{Term}
use Rattle.term_core.specs.declared.terms.NoMemory.{NoMemory}

-- the caps of the left sides, with holes from 2^31 on; or a run inside passes the size
abbrev pub LeftsAnswer : System → List Condition → Result (Option (Vec Term)) NoMemory → Type 0
LeftsAnswer sys cs (Ok (Some us)) = (lefts : Caps) × AreCapsOf sys any (left_sides cs) lefts × (views us.items ≡ all_filled var (2 ^ 31) lefts)
LeftsAnswer sys cs (Ok None) = AreCapsLarge sys any (left_sides cs)
LeftsAnswer sys cs (Err e) = Unit {0}

-- us are the terms ts with numbers below 2^31 for their variables
pub record HaveRow (ts us : Terms) : Type 0 where
  pub row : List ℕ
  pub distinct : AreDistinct row
  pub few : length row ≤ 2 ^ 31
  pub names : ts ≡ apply_all (naming row) us
  pub below : (m : ℕ) → occurs_in m us ≡ true → m < length row
