-- A cap is no larger than its term.
use Rattle.std.proofs.Common.{ℕ, ◌+◌, ◌≤◌, inl, inr, sym, subst, arith}
use Rattle.rewriting.specs.Prelude.{Term, Terms, var, app, nil, cons, size, size_all, depth, depth_all, System}
use Rattle.caps.specs.Caps.{Cap, Caps, node, holes, holes_in, filled, all_filled, IsTop, IsCapOf, AreCapsOf}
use Rattle.tcap_infeasible.specs.declared.capping.Leaf.{Leaf}
use Rattle.tcap_infeasible.specs.declared.capping.Leaf.TheVariants.{Hole, Kept}
use Rattle.tcap_infeasible.specs.Frozen.{leaf_of, standing}

-- no more nodes, levels or holes than the term has nodes and levels
pub record IsSmall (leaf : Leaf) (t : Term) (c : Cap) (n : ℕ) : Type 0 where
  pub nodes : size (filled (standing leaf) n c) ≤ size t
  pub levels : depth (filled (standing leaf) n c) ≤ depth t
  pub few : holes c ≤ size t

pub record AreSmall (leaf : Leaf) (ts : Terms) (cs : Caps) (n : ℕ) : Type 0 where
  pub nodes : size_all (all_filled (standing leaf) n cs) ≤ size_all ts
  pub levels : depth_all (all_filled (standing leaf) n cs) ≤ depth_all ts
  pub few : holes_in cs ≤ size_all ts

small_leaf : (leaf : Leaf) (x : ℕ) (n : ℕ) → IsSmall leaf (var x) (leaf_of leaf x) n
small_leaf Hole x n = record { nodes = omega arith; levels = omega arith; few = omega arith }
small_leaf (Kept base) x n = record { nodes = omega arith; levels = omega arith; few = omega arith }

small_top : (sys : System) (leaf : Leaf) (f : ℕ) (ts : Terms) (cs : Caps) (c : Cap) (n : ℕ) → IsTop sys (node f cs) c → AreSmall leaf ts cs n → IsSmall leaf (app f ts) c n
small_top sys leaf f ts cs c n (inl (k, e)) s =
    subst (λ z. IsSmall leaf (app f ts) z n) (sym e) (let a = s.nodes in let b = s.levels in let h = s.few in record { nodes = omega (arith, a); levels = omega (arith, b); few = omega (arith, h) })
small_top sys leaf f ts cs c n (inr (k, e)) s =
    subst (λ z. IsSmall leaf (app f ts) z n) (sym e) (record { nodes = omega arith; levels = omega arith; few = omega arith })

mutual
  pub cap_small : (sys : System) (leaf : Leaf) (t : Term) (c : Cap) (n : ℕ) → IsCapOf sys (leaf_of leaf) t c → IsSmall leaf t c n
  cap_small sys leaf (var x) c n e = subst (λ z. IsSmall leaf (var x) z n) (sym e) (small_leaf leaf x n)
  cap_small sys leaf (app f ts) c n (cs, are, top) = small_top sys leaf f ts cs c n top (caps_small sys leaf ts cs n are)

  pub caps_small : (sys : System) (leaf : Leaf) (ts : Terms) (cs : Caps) (n : ℕ) → AreCapsOf sys (leaf_of leaf) ts cs → AreSmall leaf ts cs n
  caps_small sys leaf nil cs n e = subst (λ z. AreSmall leaf nil z n) (sym e) (record { nodes = omega arith; levels = omega arith; few = omega arith })
  caps_small sys leaf (cons t ts) cs n (d, ds, e, is, are) =
      subst (λ z. AreSmall leaf (cons t ts) z n) (sym e)
      (let first = cap_small sys leaf t d n is in let rest = caps_small sys leaf ts ds (n + holes d) are in
      let a = first.nodes in let b = first.levels in let h = first.few in let p = rest.nodes in let q = rest.levels in let k = rest.few in
      record { nodes = omega (arith, a, p); levels = omega (arith, b, q); few = omega (arith, h, k) })
