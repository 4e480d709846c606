-- Where leaves stand for variables, terms keep their size and depth.
use Rattle.std.proofs.Common.{ℕ, suc, ◌≡◌, ◌+◌, max, refl, ap, ap₂, arith}
use Rattle.rewriting.specs.Terms.{Term, Terms, var, app, nil, cons, size, size_all, depth, depth_all, Fits}
use Rattle.rewriting.specs.Substitutions.{Substitution, apply, apply_all}

-- a leaf is a variable or a constant
pub record IsLeaf (t : Term) : Type 0 where
  pub nodes : size t ≡ 1
  pub levels : depth t ≡ 1

abbrev pub GivesLeaves : Substitution → Type 0
GivesLeaves s = (x : ℕ) → IsLeaf (s x)

pub variables_are_leaves : (f : ℕ → ℕ) → GivesLeaves (λ x. var (f x))
variables_are_leaves f x = record { nodes = refl; levels = refl }

module _ (s : Substitution) (leaves : GivesLeaves s) where
  mutual
    kept : (t : Term) → (size (apply s t) ≡ size t) × (depth (apply s t) ≡ depth t)
    kept (var x) = ((leaves x).nodes, (leaves x).levels)
    kept (app f ts) = let r = all_kept ts in (ap suc r.0, ap suc r.1)

    all_kept : (ts : Terms) → (size_all (apply_all s ts) ≡ size_all ts) × (depth_all (apply_all s ts) ≡ depth_all ts)
    all_kept nil = (refl, refl)
    all_kept (cons t ts) = let p = kept t in let q = all_kept ts in (ap₂ ◌+◌ p.0 q.0, ap₂ max p.1 q.1)

  pub fits_under : (t : Term) → Fits t → Fits (apply s t)
  fits_under t f = let same = kept t in record { nodes = omega (arith, same.0, f.nodes); levels = omega (arith, same.1, f.levels) }

  pub fits_before : (t : Term) → Fits (apply s t) → Fits t
  fits_before t f = let same = kept t in record { nodes = omega (arith, same.0, f.nodes); levels = omega (arith, same.1, f.levels) }
