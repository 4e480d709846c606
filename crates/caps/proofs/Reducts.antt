-- The laws of caps from what steps keep.
use Rattle.std.proofs.Common.{ℕ, ◌≡◌, refl, sym, ap₂, ◌∙◌, subst, List, [], ◌∷◌}
use Rattle.rewriting.specs.Prelude.{Term, var, Terms, nil, cons, Substitution, apply, apply_all, values_of, Matches, even, odd, Condition, System, left_sides, right_sides, Reaches}
use Rattle.rewriting.specs.Prelude.{Meets, Steps, IsInfeasible}
use Rattle.rewriting.proofs.Closures.{Star-mono}
use Rattle.rewriting.proofs.Instances.{apply-var, apply_all-var}
use Rattle.rewriting.proofs.Unifiers.{both, apply-even, apply-odd}
use Rattle.unifier_run.specs.Run.{clash}
use Rattle.unifier_run.proofs.General.{no_unifier}
use Rattle.caps.specs.Caps.{Cap, Caps, any, filled, all_filled, IsCapOf, AreCapsOf}
use Rattle.caps.specs.Evidence.{IsCapOutcome}
use Rattle.caps.proofs.Instances.{IsInstance, AreInstances, filling, fillings, apply-filled, apply_all-filled}
use Rattle.caps.proofs.Steps.{cap_safe, cap_instance, cap_keeps, caps_keep, reaches_keeps}

apply_all-even : (s r : Substitution) (ts : Terms) → apply_all (both s r) (apply_all even ts) ≡ apply_all s ts
apply_all-even s r nil = refl
apply_all-even s r (cons t ts) = ap₂ cons (apply-even s r t) (apply_all-even s r ts)

apply_all-odd : (s r : Substitution) (ts : Terms) → apply_all (both s r) (apply_all odd ts) ≡ apply_all r ts
apply_all-odd s r nil = refl
apply_all-odd s r (cons t ts) = ap₂ cons (apply-odd s r t) (apply_all-odd s r ts)

-- what an instance reaches
pub reduct_instance : (sys : System) (t : Term) (c : Cap) (s : Substitution) (w : Term) → IsCapOf sys any t c → Reaches sys (apply s t) w → IsInstance c w
reduct_instance sys t c s w is p = reaches_keeps sys c (cap_safe sys any (λ x. tt) t c is) (cap_instance sys any s (λ x. tt) t c is) p

pub reducts_match : (sys : System) (t : Term) (c : Cap) (n : ℕ) (s : Substitution) (w : Term) → IsCapOf sys any t c → Reaches sys (apply s t) w → Matches (filled var n c) w
reducts_match sys t c n s w is p =
    let f = filling n c w (reduct_instance sys t c s w is p) in
    (f.by, apply-filled var var f.by f.by (λ x. ⊥) (λ x none. absurd none) (λ x. sym (apply-var (f.by x))) n c w (cap_keeps sys any (λ x. ⊥) t c (λ x o. tt) is) f.fills ∙ apply-var w)

-- conditions that are met
right_instances : (sys : System) (n : ℕ) (s : Substitution) (cs : List Condition) (ds : Caps) → AreCapsOf sys any (left_sides cs) ds → Meets (Steps sys n) s cs
    → AreInstances ds (apply_all s (right_sides cs))
right_instances sys n s [] ds e met = subst (λ z. AreInstances z nil) (sym e) refl
right_instances sys n s (c ∷ cs) ds (d, ds', e, h, hs) (p, met) =
    subst (λ z. AreInstances z (cons (apply s c.right) (apply_all s (right_sides cs)))) (sym e) (
      apply s c.right,
      apply_all s (right_sides cs),
      refl,
      reduct_instance sys c.left d s (apply s c.right) h (Star-mono (λ a b k. (n, k)) (apply s c.left) (apply s c.right) p),
      right_instances sys n s cs ds' hs met,
    )

pub never_met : (sys : System) (cs : List Condition) → IsCapOutcome sys cs clash → IsInfeasible sys cs
never_met sys cs o n b over met =
    let s = values_of b in
    let f = fillings 0 o.lefts (apply_all s (right_sides cs)) (right_instances sys n s cs o.lefts o.are met) in
    let filled_is = apply_all-filled var var f.by f.by (λ x. ⊥) (λ x none. absurd none) (λ x. sym (apply-var (f.by x))) 0 o.lefts (apply_all s (right_sides cs))
    (caps_keep sys any (λ x. ⊥) (left_sides cs) o.lefts (λ x y. tt) o.are) f.fills in
    no_unifier (apply_all even (all_filled var 0 o.lefts)) (apply_all odd (right_sides cs)) o.outcome (both f.by s)
    (apply_all-even f.by s (all_filled var 0 o.lefts) ∙ (filled_is ∙ (apply_all-var (apply_all s (right_sides cs)) ∙ sym (apply_all-odd f.by s (right_sides cs)))))
