-- What caps answer.
use Rattle.std.specs.Prelude.{ℕ, ◌≡◌, Result, Ok, Err}
use Rattle.rewriting.specs.Terms as math
use Rattle.rewriting.specs.Prelude.{System, Substitution}
use Rattle.caps.specs.Caps.{Cap as MathCap, IsCapOf, IsCapLarge, filled}
use Rattle.term_core.specs.View.{view}
use Rattle.term_core.specs.declared.terms.NoMemory.{NoMemory}
use Rattle.tcap_infeasible.specs.declared.Cap.{Cap}
use Rattle.tcap_infeasible.specs.declared.Cap.TheVariants.{Capped, TooLarge}

-- the term's cap, with the variables n, n + 1, .. in its holes and s of each variable that stays; or a run inside passes the size
abbrev pub CapAnswers : System → (ℕ → MathCap) → Substitution → math.Term → ℕ → Result Cap NoMemory → Type 0
CapAnswers sys leaf s t n (Ok (Capped u)) = (c : MathCap) × IsCapOf sys leaf t c × (view u ≡ filled s n c)
CapAnswers sys leaf s t n (Ok TooLarge) = IsCapLarge sys leaf t
CapAnswers sys leaf s t n (Err e) = Unit {0}
