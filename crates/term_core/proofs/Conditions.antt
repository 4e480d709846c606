-- The sides of conditions, one condition after another.
use Rattle.std.proofs.Common.{◌≡◌, ℕ, zero, suc, ◌+◌, ◌<◌, List, [], ◌∷◌, map, length, get_or, drop, ap, sym, arith, add-one}
use Rattle.rewriting.specs.Prelude.{cons, sides}
use Rattle.term_core.specs.View.{view}
use Rattle.term_core.specs.RuleView.{condition_view}
use Rattle.term_core.specs.declared.systems.Cond.{Cond}

pub sides-drop : (cs : List Cond) (i : ℕ) (c : Cond) → i < length cs → c ≡ get_or cs i c
    → sides (map condition_view (drop i cs)) ≡ cons (view c.left) (cons (view c.right) (sides (map condition_view (drop (i + 1) cs))))
sides-drop cs i c h e = rw add-one (go cs i h e)
  where
    go : (ds : List Cond) (k : ℕ) → k < length ds → c ≡ get_or ds k c
        → sides (map condition_view (drop k ds)) ≡ cons (view c.left) (cons (view c.right) (sides (map condition_view (drop (suc k) ds))))
    go [] k h e = absurd (omega arith)
    go (d ∷ ds) zero h e = ap (λ q. cons (view q.left) (cons (view q.right) (sides (map condition_view ds)))) (sym e)
    go (d ∷ ds) (suc k) h e = go ds k (omega arith) e
