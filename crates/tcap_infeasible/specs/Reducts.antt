-- What caps say of reducts.
use Rattle.std.specs.Prelude.{ℕ, Result, Ok, Err}
use Rattle.rewriting.specs.Terms as math
use Rattle.rewriting.specs.Prelude.{Substitution, apply, Matches, System, Reaches}
use Rattle.caps.specs.Laws.{IsReductOf}
use Rattle.term_core.specs.View.{view}
use Rattle.term_core.specs.declared.terms.NoMemory.{NoMemory}
use Rattle.tcap_infeasible.specs.declared.Cap.{Cap}
use Rattle.tcap_infeasible.specs.declared.Cap.TheVariants.{Capped, TooLarge}

-- every reduct of an instance of the term is an instance of the cap
abbrev pub KeepsReducts : System → math.Term → Result Cap NoMemory → Type 0
KeepsReducts sys t (Ok (Capped u)) = (s : Substitution) (w : math.Term) → Reaches sys (apply s t) w → Matches (view u) w
KeepsReducts sys t (Ok TooLarge) = Unit {0}
KeepsReducts sys t (Err e) = Unit {0}

-- every reduct of the term is the cap under a substitution that leaves the variables below n
abbrev pub KeepsOwnReducts : System → math.Term → ℕ → Result Cap NoMemory → Type 0
KeepsOwnReducts sys t n (Ok (Capped u)) = (w : math.Term) → Reaches sys t w → IsReductOf n (view u) w
KeepsOwnReducts sys t n (Ok TooLarge) = Unit {0}
KeepsOwnReducts sys t n (Err e) = Unit {0}
