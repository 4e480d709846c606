-- The laws of rigid caps, where no left side is a variable, and of two caps that clash.
use Rattle.std.proofs.Common.{ℕ, ◌≡◌, ◌<◌, true, refl, sym, ap, ◌∙◌, subst}
use Rattle.rewriting.specs.Prelude.{Term, var, app, nil, cons, IsVariable, Substitution, apply, occurs, even, odd, System, IsWellFormed, Reaches, AreApart}
use Rattle.rewriting.proofs.Unifiers.{both, apply-even, apply-odd}
use Rattle.unifier_run.specs.Run.{clash}
use Rattle.unifier_run.proofs.General.{no_unifier}
use Rattle.caps.specs.Caps.{Cap, any, kept, filled, frozen_from, IsCapOf}
use Rattle.caps.specs.Evidence.{past_both, IsPairOutcome, IsRigidOutcome}
use Rattle.caps.specs.Laws.{IsReductOf}
use Rattle.caps.proofs.Instances.{IsInstance, filling, apply-filled}
use Rattle.caps.proofs.Steps.{HasNoRedex, freezing, cap_safe, cap_instance, cap_keeps, reaches_keeps}
use Rattle.rewriting.proofs.Instances.{apply-var}
use Rattle.caps.proofs.Reducts.{reduct_instance}

variable_pattern : (s : Substitution) (l : Term) (x : ℕ) → apply s l ≡ var x → IsVariable l
variable_pattern s (var y) x e = tt
variable_pattern s (app f ts) x e = cc

-- a variable that stays is no instance of a left side
variable_safe : (sys : System) → IsWellFormed sys → (x : ℕ) → HasNoRedex sys (kept x)
variable_safe sys well x q s is e = (well is.0 q is.1).left (variable_pattern s q.left x e)

-- what a term reaches
rigid_instance : (sys : System) → IsWellFormed sys → (t : Term) (c : Cap) (w : Term) → IsCapOf sys kept t c → Reaches sys t w → IsInstance c w
rigid_instance sys well t c w is p = reaches_keeps sys c (cap_safe sys kept (variable_safe sys well) t c is) (subst (IsInstance c) (apply-var t) (cap_instance sys kept var (λ x. refl) t c is)) p

pub rigid_reducts : (sys : System) (t : Term) (c : Cap) (n : ℕ) (w : Term) → IsWellFormed sys → IsCapOf sys kept t c → ((x : ℕ) → occurs x t ≡ true → x < n) → Reaches sys t w
    → IsReductOf n (filled var n c) w
rigid_reducts sys t c n w well is below p =
    let f = filling n c w (rigid_instance sys well t c w is p) in
    record {
      by = f.by;
      leaves = f.leaves;
      instance = apply-filled var var f.by f.by (λ x. x < n) f.leaves (λ x. sym (apply-var (f.by x))) n c w (cap_keeps sys kept (λ x. x < n) t c below is) f.fills ∙ apply-var w;
    }

-- a common reduct, its variables as constants, is an instance of both caps
common_instance : (sys : System) (leaf : ℕ → Cap) (u v w : Term) → (o : IsPairOutcome sys leaf u v clash) → IsInstance o.first w → IsInstance o.second w → ⊥
common_instance sys leaf u v w o p q =
    let base = past_both sys o.first o.second in
    let f = freezing base o.first w p in
    let g = freezing base o.second w q in
    no_unifier (cons (apply even (frozen_from base o.first)) nil) (cons (apply odd (frozen_from base o.second)) nil) o.outcome (both f.by g.by)
    (ap (λ z. cons z nil) (apply-even f.by g.by (frozen_from base o.first) ∙ (f.freezes ∙ (sym g.freezes ∙ sym (apply-odd f.by g.by (frozen_from base o.second))))))

pub rigid_apart : (sys : System) (u v : Term) → IsWellFormed sys → IsRigidOutcome sys u v clash → AreApart sys u v
rigid_apart sys u v well o w p q =
    common_instance sys kept u v w o (rigid_instance sys well u o.first w o.is_first p) (rigid_instance sys well v o.second w o.is_second q)

pub caps_apart : (sys : System) (u v : Term) (s r : Substitution) (w : Term) → IsPairOutcome sys any u v clash → Reaches sys (apply s u) w → Reaches sys (apply r v) w → ⊥
caps_apart sys u v s r w o p q =
    common_instance sys any u v w o (reduct_instance sys u o.first s w o.is_first p) (reduct_instance sys v o.second r w o.is_second q)
