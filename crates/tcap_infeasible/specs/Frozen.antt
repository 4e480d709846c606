-- What the parts of a cap answer: holes are numbered from n on, and variables that stay are constants.
use Rattle.std.specs.Prelude.{ℕ, ◌≡◌, ◌+◌, ◌<◌, ◌≤◌, ◌^◌, true, List, length, Result, Ok, Err}
use Rattle.rewriting.specs.Terms as math
use Rattle.rewriting.specs.Prelude.{Fits, var, nil, cons, Substitution, occurs, System}
use Rattle.rule_index.specs.Roots.{has_root}
use Rattle.unifier_run.specs.Run.{Binding, unifier, clash, too_large, IsOutcome}
use Rattle.unifier_run.specs.Irreducible.{DoRulesClash, IsFirstRule}
use Rattle.caps.specs.Caps.{Cap as MathCap, any, kept, holes, filled, past, constants, frozen, IsTop, IsCapOf, IsCapLarge}
use Rattle.term_core.specs.Prelude.{view}
use Rattle.term_core.specs.SystemView.{HasSymbolsBelow}
use Rattle.term_core.specs.declared.terms.NoMemory.{NoMemory}
use Rattle.tcap_infeasible.specs.declared.Cap.{Cap}
use Rattle.tcap_infeasible.specs.declared.Cap.TheVariants.{Capped, TooLarge}
use Rattle.tcap_infeasible.specs.declared.capping.Leaf.{Leaf}
use Rattle.tcap_infeasible.specs.declared.capping.Leaf.TheVariants.{Hole, Kept}
use Rattle.tcap_infeasible.specs.declared.capping.Top.{Top}
use Rattle.tcap_infeasible.specs.declared.capping.Top.TheVariants.{Stays, Opens, Passes}

-- the cap of a variable
abbrev pub leaf_of : Leaf → ℕ → MathCap
leaf_of Hole = any
leaf_of (Kept base) = kept

-- what stands for a variable that stays
abbrev pub standing : Leaf → Substitution
standing Hole = var
standing (Kept base) = constants base

-- the constants from the base on are symbols neither of the system nor of the term, and are in 32 bits
pub record IsBase (sys : System) (base : ℕ) (t : math.Term) : Type 0 where
  pub past_system : length sys.arities ≤ base
  pub past_term : HasSymbolsBelow base t
  pub room : (x : ℕ) → occurs x t ≡ true → base + x < 2 ^ 32

-- the variable has a constant in 32 bits, where variables stay
abbrev pub HasConstant : Leaf → ℕ → Type 0
HasConstant Hole x = Unit {0}
HasConstant (Kept base) x = base + x < 2 ^ 32

-- each variable that stays has such a constant, and no symbol is one
abbrev pub HasConstants : System → Leaf → math.Term → Type 0
HasConstants sys Hole t = Unit {0}
HasConstants sys (Kept base) t = IsBase sys base t

-- the term is the cap with holes from n on, which are no variables of rules; variables that stay are constants past the
-- symbols of the system and the cap; it fits, and has the root f
pub record IsHeld (sys : System) (f : ℕ) (t : math.Term) (n : ℕ) (c : MathCap) : Type 0 where
  pub base : ℕ
  pub far : past sys c ≤ base
  pub shown : t ≡ filled (constants base) n c
  pub root : has_root f t ≡ true
  pub fits : Fits t
  pub low : 2 ^ 31 ≤ n

-- the term is held so from some number on
pub record IsACap (sys : System) (f : ℕ) (t : math.Term) : Type 0 where
  pub start : ℕ
  pub cap : MathCap
  pub held : IsHeld sys f t start cap

-- what becomes of a symbol by one left side alone
abbrev pub LeftAnswers : math.Term → math.Term → Result Top NoMemory → Type 0
LeftAnswers l t (Ok Stays) = IsOutcome (cons l nil) (cons t nil) clash
LeftAnswers l t (Ok Opens) = (b : List Binding) × IsOutcome (cons l nil) (cons t nil) (unifier b)
LeftAnswers l t (Ok Passes) = IsOutcome (cons l nil) (cons t nil) too_large
LeftAnswers l t (Err e) = Unit {0}

-- all runs clash, or the first that does not gives a unifier, or passes the size
abbrev pub RootAnswers : System → math.Term → Result Top NoMemory → Type 0
RootAnswers sys t (Ok Stays) = DoRulesClash sys t
RootAnswers sys t (Ok Opens) = (b : List Binding) × IsFirstRule sys t (unifier b)
RootAnswers sys t (Ok Passes) = IsFirstRule sys t too_large
RootAnswers sys t (Err e) = Unit {0}

-- what becomes of a symbol over capped arguments, with the holes n, .., m - 1 and s of each variable that stays
abbrev pub TopAnswers : System → Substitution → MathCap → ℕ → ℕ → Result Cap NoMemory → Type 0
TopAnswers sys s c n m (Ok (Capped u)) = (d : MathCap) × IsTop sys c d × (view u ≡ filled s n d) × (m ≡ n + holes d)
TopAnswers sys s c n m (Ok TooLarge) = IsFirstRule sys (frozen sys c) too_large
TopAnswers sys s c n m (Err e) = Unit {0}

-- the term's cap, with the holes n, .., m - 1; or a run inside passes the size
abbrev pub FrozenAnswers : System → Leaf → math.Term → ℕ → ℕ → Result Cap NoMemory → Type 0
FrozenAnswers sys leaf t n m (Ok (Capped u)) = (c : MathCap) × IsCapOf sys (leaf_of leaf) t c × (view u ≡ filled (standing leaf) n c) × (m ≡ n + holes c)
FrozenAnswers sys leaf t n m (Ok TooLarge) = IsCapLarge sys (leaf_of leaf) t
FrozenAnswers sys leaf t n m (Err e) = Unit {0}
