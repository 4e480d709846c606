-- The left sides of a system's rules have roots among its symbols.
use Rattle.std.proofs.Common.{◌≡◌, ℕ, List, [], ◌∷◌, length, sym, subst}
use Rattle.std.proofs.lemmas.Option.{slice_get_within}
use Rattle.rewriting.specs.Prelude.{Term, var, app, Signature, IsOver, AreRules, IsSystem}
use Rattle.rewriting.specs.Rules as math
use Rattle.rule_index.specs.Index.{IsRootBelow, AreRootsBelow}

root_below : (arities : Signature) (t : Term) → IsOver arities t → IsRootBelow (length arities) t
root_below arities (var x) h = tt
root_below arities (app f ts) h = slice_get_within arities f _ h.0

roots_below : (arities : Signature) (rs : List math.Rule) → AreRules arities rs → AreRootsBelow (length arities) rs
roots_below arities [] h = tt
roots_below arities (r ∷ rs) (h, hs) = (root_below arities r.left h.is_over.over.0, roots_below arities rs hs)

pub roots_of_system : (sys : math.System) (n : ℕ) (rules : List math.Rule) → IsSystem sys → rules ≡ sys.rules → n ≡ length sys.arities → AreRootsBelow n rules
roots_of_system sys n rules h e c = subst (λ (m : ℕ). AreRootsBelow m rules) (sym c) (subst (AreRootsBelow (length sys.arities)) (sym e) (roots_below sys.arities sys.rules h.rules))
