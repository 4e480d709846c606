-- The sizes of arguments.
use Rattle.std.proofs.Common.{◌≡◌, ℕ, zero, suc, ◌<◌, ◌≤◌, List, [], ◌∷◌, length, get_or, Vec, Global, ap, ◌∙◌, arith}
use Rattle.rewriting.specs.Terms.{size, size_all}
use Rattle.term_core.specs.View.{view, views}
use Rattle.term_core.specs.declared.terms.Term.{Term, Fun}
use Rattle.term_core.proofs.Views.{view-Fun}

-- an argument is no larger than all of them
pub argument_size : (ts : List Term) (i : ℕ) (u : Term) → i < length ts → u ≡ get_or ts i u → size (view u) ≤ size_all (views ts)
argument_size [] i u low is = absurd (omega arith)
argument_size (t ∷ ts) zero u low is = let same = ap (λ (w : Term). size (view w)) is in omega arith
argument_size (t ∷ ts) (suc i) u low is = let rest = argument_size ts i u (omega arith) is in omega arith

-- and smaller than the term
pub size_inside : (t : Term) (f : ℕ) (v : Vec Term Global) (items : List Term) (i : ℕ) (u : Term) → t ≡ Fun f v → items ≡ v.items → i < length items → u ≡ get_or items i u
    → size (view u) < size (view t)
size_inside t f v items i u is same low here =
    let whole : size (view t) ≡ suc (size_all (views v.items)) = ap size (ap view is ∙ view-Fun f v) in
    let all : size_all (views items) ≡ size_all (views v.items) = ap (λ z. size_all (views z)) same in
    let part = argument_size items i u low here in
    omega (arith, whole, all, part)
