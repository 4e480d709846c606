-- The list that tells which left sides are linear, as it is made and read.
use Rattle.std.proofs.Common.{ℕ, zero, suc, ◌≡◌, ◌↔◌, ◌-◌, ◌<◌, Bool, true, IsTrue, List, [], ◌∷◌, ◌++◌, map, length, take, get_or, Option, None, Some, IsSome, refl, sym, subst, arith, slice_get}
use Rattle.rewriting.specs.Prelude.{IsLinear, rule_at}
use Rattle.rewriting.specs.Rules as math
use Rattle.term_core.specs.RuleView.{rule_view}
use Rattle.term_core.specs.declared.systems.Rule.{Rule}
use Rattle.rule_index.specs.Linear.{TellLinear}

-- one more rule
pub told_next : (rs : List Rule) (k : ℕ) (r : Rule) (linear : List Bool) (b : Bool) → k < length rs → r ≡ get_or rs k r → TellLinear (map rule_view (take k rs)) linear
    → (IsTrue b ↔ IsLinear (rule_view r).left)
    → TellLinear (map rule_view (take (suc k) rs)) (linear ++ b ∷ [])
told_next [] k r linear b h e t one = absurd (omega (arith, h))
told_next (q ∷ rs) zero r [] b h e t one = (subst (λ z. IsTrue b ↔ IsLinear (rule_view z).left) e one, tt)
told_next (q ∷ rs) zero r (a ∷ linear) b h e t one = absurd t
told_next (q ∷ rs) (suc k) r [] b h e t one = absurd t
told_next (q ∷ rs) (suc k) r (a ∷ linear) b h e t one = (t.0, told_next rs k r linear b (omega (arith, h)) e t.1 one)

-- what is told of a rule, and that it is
pub told_at : (rs : List math.Rule) (linear : List Bool) (i : ℕ) (r : math.Rule) (d : Bool) → TellLinear rs linear → slice_get rs i ≡ Some r
    → (i < length linear) × (IsTrue (get_or linear i d) ↔ IsLinear r.left)
told_at [] linear i r d t e = absurd (cc)
told_at (q ∷ rs) [] i r d t e = absurd t
told_at (q ∷ rs) (b ∷ linear) zero r d t e = (let same : q ≡ r = cc in (omega arith, subst (λ z. IsTrue b ↔ IsLinear z.left) same t.0))
told_at (q ∷ rs) (b ∷ linear) (suc i) r d t e = (let rest = told_at rs linear i r d t.1 e in let h = rest.0 in (omega (arith, h), rest.1))

-- by the number of a rule
pub told_of : (sys : math.System) (linear : List Bool) (number : ℕ) (r : math.Rule) (d : Bool) → TellLinear sys.rules linear → rule_at sys number ≡ Some r
    → (number - 1 < length linear) × (IsTrue (get_or linear (number - 1) d) ↔ IsLinear r.left)
told_of sys linear zero r d t e = absurd (cc)
told_of sys linear (suc i) r d t e = (let same : suc i - 1 ≡ i = omega arith in subst (λ z. (z < length linear) × (IsTrue (get_or linear z d) ↔ IsLinear r.left)) (sym same)
    (told_at sys.rules linear i r d t e))

pub place_told : (sys : math.System) (linear : List Bool) (number : ℕ) → TellLinear sys.rules linear → IsSome (rule_at sys number) → number - 1 < length linear
place_told sys linear number t some = go (rule_at sys number) refl some
  where
    go : (o : Option math.Rule) → rule_at sys number ≡ o → IsSome o → number - 1 < length linear
    go None e h = absurd (cc)
    go (Some r) e h = (told_of sys linear number r true t e).0
