-- A derivation without hypotheses is a reduction from its start to its end.
use Rattle.std.proofs.Common.{[], subst₂}
use Rattle.rewriting.specs.Systems.{IsWellFormed}
use Rattle.rewriting.proofs.Common.{Term, var, System, IsOver, Reaches}
use Rattle.certificates.specs.Prelude.{Derivation, Derives}
use Rattle.rewriting.proofs.Instances.{apply-var}
use Rattle.certificates.proofs.Sound.{derivation_reaches}

pub end_reached : (sys : System) (t : Term) (d : Derivation) (u : Term) → IsWellFormed sys → IsOver sys.arities t → Derives sys [] t d u → Reaches sys t u
end_reached sys t d u good over h =
    subst₂ (λ a b. Reaches sys a b) (apply-var t) (apply-var u) (derivation_reaches sys good [] tt t d u over h var 0 (λ x. tt) tt)
