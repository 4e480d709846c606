-- Equal sides may be taken apart in place of being dropped.
use Rattle.std.proofs.Common.{ℕ, ◌≡◌, ◌≤◌, refl, sym, ap, ◌∙◌, subst, List, arith}
use Rattle.rewriting.specs.Prelude.{Term, app, Terms, nil, cons, count, Fits, size_all, depth_all, Each, apply, apply_all, append}
use Rattle.rewriting.proofs.Equality.{same}
use Rattle.rewriting.proofs.Over.{count-apply}
use Rattle.rewriting.proofs.Instances.{inj_app}
use Rattle.unifier_run.specs.Run.{Binding, value, DoFit, Outcome, equal_sides, arguments, Runs, last_equation, next_equation}
use Rattle.unifier_run.proofs.Unique.{takes_same, same_on, run_along, ended_or_on}
use Rattle.unifier_run.proofs.Lists.{apply_all-append}
use Rattle.unifier_run.proofs.Agree.{Runs-agree}
use Rattle.unifier_run.proofs.General.{IsSettled, settled_fixed_all}

-- the arguments of a term that fits, fit
pub arguments_fit : (ts : Terms) → size_all ts ≤ 10000 → depth_all ts ≤ 400 → Each Fits ts
arguments_fit nil s d = tt
arguments_fit (cons t ts) s d = (record { nodes = omega (arith, s); levels = omega (arith, d) }, arguments_fit ts (omega (arith, s)) (omega (arith, d)))

-- and what was behind them goes on
pub undrop_equal : (b : List Binding) (ts us vs ws : Terms) (o : Outcome) → apply_all (value b) ts ≡ apply_all (value b) us → Each Fits (apply_all (value b) ts)
    → Runs b (append ts vs) (append us ws) o → Runs b vs ws o
undrop_equal b nil nil vs ws o e f r = r
undrop_equal b nil (cons u us) vs ws o e f r = absurd (cc)
undrop_equal b (cons t ts) nil vs ws o e f r = absurd (cc)
undrop_equal b (cons t ts) (cons u us) vs ws o e f r =
    let h : apply (value b) t ≡ apply (value b) u = cc in
    let k : apply_all (value b) ts ≡ apply_all (value b) us = cc in
    undrop_equal b ts us vs ws o k f.1 (behind_equal b t u (append ts vs) (append us ws) o h f.0 r)
  where
    behind_equal : (b : List Binding) (t u : Term) (vs ws : Terms) (o : Outcome) → apply (value b) t ≡ apply (value b) u → Fits (apply (value b) t) → Runs b (cons t vs) (cons u ws) o → Runs b vs ws o
    behind_equal b t u vs ws o h f (last_equation k) = absurd (ended_or_on _ _ _ _ (takes_same b _ _ _ _ k (equal_sides (f, subst Fits h f) h)))
    behind_equal b t u vs ws o h f (next_equation {c = c} {xs = xs} {ys = ys} k r) = run_along b c nil nil xs ys vs ws o
        (same_on b c nil nil xs ys (takes_same b _ _ _ _ (equal_sides (f, subst Fits h f) h) k)) r

pub in_front : (b : List Binding) (xs vs : Terms) → IsSettled b → apply_all (value b) (append xs vs) ≡ apply_all (value b) (append (apply_all (value b) xs) vs)
in_front b xs vs s =
    apply_all-append (value b) xs vs ∙ (ap (λ z. append z (apply_all (value b) vs)) (sym (settled_fixed_all b s xs)) ∙ sym (apply_all-append (value b) (apply_all (value b) xs) vs))

-- the arguments of both sides may take the place of an equation, also where the sides are equal
pub open_equation : (b : List Binding) (f : ℕ) (xs ys vs ws : Terms) (o : Outcome) → IsSettled b → DoFit (apply (value b) (app f xs)) (apply (value b) (app f ys)) → count xs ≡ count ys
    → Runs b (append xs vs) (append ys ws) o → Runs b (cons (app f xs) vs) (cons (app f ys) ws) o
open_equation b f xs ys vs ws o s fit c r = go (same (apply (value b) (app f xs)) (apply (value b) (app f ys)))
  where
    go : Dec (apply (value b) (app f xs) ≡ apply (value b) (app f ys)) → Runs b (cons (app f xs) vs) (cons (app f ys) ws) o
    go (yes e) =
        let inside : apply_all (value b) xs ≡ apply_all (value b) ys = inj_app f f _ _ e in
        next_equation (equal_sides fit e) (undrop_equal b xs ys vs ws o inside (arguments_fit _ (omega (arith, fit.0.nodes)) (omega (arith, fit.0.levels))) r)
    go (no k) =
        next_equation (arguments fit k (apply_all (value b) xs) (apply_all (value b) ys) (refl, count-apply _ xs ∙ (c ∙ sym (count-apply _ ys)), refl, refl))
        (Runs-agree r _ _ (in_front b xs vs s) (in_front b ys ws s))
