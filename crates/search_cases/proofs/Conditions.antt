-- Conditions that fit, one by one.
use Rattle.std.proofs.Common.{◌≡◌, Bool, IsTrue, List, ◌∷◌, map, sym, subst}
use Rattle.rewriting.specs.Terms.{Fits}
use Rattle.certificates.specs.Sizes.{DoConditionsFit}
use Rattle.term_core.specs.Prelude.{view, condition_view}
use Rattle.term_core.specs.declared.systems.Cond.{Cond}

pub all_fit : (cs rest : List Cond) (c : Cond) (b : Bool) → cs ≡ c ∷ rest → Fits (view c.left) → Fits (view c.right) → (IsTrue b → DoConditionsFit (map condition_view rest))
    → IsTrue b → DoConditionsFit (map condition_view cs)
all_fit cs rest c b split left right h e = subst (λ z. DoConditionsFit (map condition_view z)) (sym split) (left, right, h e)
