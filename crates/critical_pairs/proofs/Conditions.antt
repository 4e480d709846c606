-- Conditions of a list, one by one.
use Rattle.std.proofs.Common.{ℕ, zero, suc, ◌≡◌, ◌<◌, List, [], ◌∷◌, ◌++◌, map, length, get_or, sym, ap, ◌∙◌, subst, arith}
use Rattle.rewriting.specs.Prelude.{Fits, Substitution, apply, sides, Each, conditions_under}
use Rattle.rewriting.specs.Rules as math
use Rattle.term_core.specs.Prelude.{view, condition_view}
use Rattle.term_core.specs.declared.systems.Cond.{Cond}

pub both_fit : (cs : List Cond) (i : ℕ) (c : Cond) → i < length cs → c ≡ get_or cs i c → Each Fits (sides (map condition_view cs)) → Fits (view c.left) × Fits (view c.right)
both_fit [] i c h e f = absurd (omega arith)
both_fit (d ∷ cs) zero c h e f = (subst (λ z. Fits (view z.left)) (sym e) f.0, subst (λ z. Fits (view z.right)) (sym e) f.1.0)
both_fit (d ∷ cs) (suc i) c h e f = both_fit cs i c (omega arith) e f.1.1

pub fit_append : (cs ds : List math.Condition) → Each Fits (sides cs) → Each Fits (sides ds) → Each Fits (sides (cs ++ ds))
fit_append [] ds h k = k
fit_append (c ∷ cs) ds h k = (h.0, (h.1.0, fit_append cs ds h.1.1 k))

pub fit_left : (cs ds : List math.Condition) → Each Fits (sides (cs ++ ds)) → Each Fits (sides cs)
fit_left [] ds h = tt
fit_left (c ∷ cs) ds h = (h.0, (h.1.0, fit_left cs ds h.1.1))

pub fit_right : (cs ds : List math.Condition) → Each Fits (sides (cs ++ ds)) → Each Fits (sides ds)
fit_right [] ds h = h
fit_right (c ∷ cs) ds h = fit_right cs ds h.1.1

-- the instances of all conditions fit, so those of one do
pub one_fits : (m : Substitution) (cs : List Cond) (i : ℕ) (c : Cond) → i < length cs → c ≡ get_or cs i c → Each Fits (sides (conditions_under m (map condition_view cs)))
    → Fits (apply m (view c.left)) × Fits (apply m (view c.right))
one_fits m [] i c h e f = absurd (omega arith)
one_fits m (d ∷ cs) zero c h e f = (subst (λ z. Fits (apply m (view z.left))) (sym e) f.0, subst (λ z. Fits (apply m (view z.right))) (sym e) f.1.0)
one_fits m (d ∷ cs) (suc i) c h e f = one_fits m cs i c (omega arith) e f.1.1

-- the instances of some conditions, and then of others, from none on
pub both_added : (m : Substitution) (cs ds start middle end : List math.Condition) → start ≡ []
    → (middle ≡ start ++ conditions_under m cs) × Each Fits (sides (conditions_under m cs)) → (end ≡ middle ++ conditions_under m ds) × Each Fits (sides (conditions_under m ds))
    → (end ≡ conditions_under m cs ++ conditions_under m ds) × Each Fits (sides (conditions_under m cs ++ conditions_under m ds))
both_added m cs ds start middle end e h k = (k.0 ∙ ap (λ z. z ++ conditions_under m ds) (h.0 ∙ ap (λ z. z ++ conditions_under m cs) e), fit_append _ _ h.1 k.1)
