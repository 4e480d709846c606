-- The variables of conditions, and the instances of conditions behind others.
use Rattle.std.proofs.Common.{ℕ, zero, suc, ◌≡◌, ◌<◌, true, List, [], ◌∷◌, ◌++◌, map, length, get_or, refl, ap, subst, arith}
use Rattle.std.proofs.lemmas.Bool.{or_right, or_left}
use Rattle.rewriting.specs.Prelude.{Substitution, occurs, occurs_in, sides, condition_under, conditions_under}
use Rattle.rewriting.specs.Rules as math
use Rattle.term_core.specs.Prelude.{view, condition_view}
use Rattle.term_core.specs.declared.systems.Cond.{Cond}

pub left_occurs : (k : ℕ) (cs : List Cond) (i : ℕ) (c : Cond) → i < length cs → c ≡ get_or cs i c → occurs k (view c.left) ≡ true → occurs_in k (sides (map condition_view cs)) ≡ true
left_occurs k [] i c h e o = absurd (omega arith)
left_occurs k (d ∷ cs) zero c h e o = or_left _ _ (subst (λ z. occurs k (view z.left) ≡ true) e o)
left_occurs k (d ∷ cs) (suc i) c h e o = or_right _ _ (or_right _ _ (left_occurs k cs i c (omega arith) e o))

pub right_occurs : (k : ℕ) (cs : List Cond) (i : ℕ) (c : Cond) → i < length cs → c ≡ get_or cs i c → occurs k (view c.right) ≡ true → occurs_in k (sides (map condition_view cs)) ≡ true
right_occurs k [] i c h e o = absurd (omega arith)
right_occurs k (d ∷ cs) zero c h e o = or_right _ _ (or_left _ _ (subst (λ z. occurs k (view z.right) ≡ true) e o))
right_occurs k (d ∷ cs) (suc i) c h e o = or_right _ _ (or_right _ _ (right_occurs k cs i c (omega arith) e o))

pub under-append : (s : Substitution) (cs ds : List math.Condition) → conditions_under s (cs ++ ds) ≡ conditions_under s cs ++ conditions_under s ds
under-append s [] ds = refl
under-append s (c ∷ cs) ds = ap (λ z. condition_under s c ∷ z) (under-append s cs ds)
