-- Walks over the arguments of a term.
use Rattle.std.proofs.Common.{◌≡◌, ℕ, zero, suc, ◌+◌, ◌<◌, ◌≤◌, ◌^◌, refl, sym, ap, ap₂, ◌∙◌, List, [], ◌∷◌, ◌++◌, drop, length, get_or, append_assoc, add-one, min, arith}
use Rattle.rewriting.specs.Terms as math
use Rattle.rewriting.specs.Terms.{var, app, size, size_all}
use Rattle.certificates.specs.Evidence as evidence
use Rattle.automata.specs.Closed.{state_of}
use Rattle.automata.specs.Growth.{inner, inner_in, top, tops, inside, inside_all, grown}
use Rattle.term_core.specs.View.{view, views}
use Rattle.term_core.specs.declared.terms.Term.{Term}
use Rattle.term_core.proofs.Views.{views-drop}
use Rattle.automaton_runs.proofs.BatchParts.{other_name}
use Rattle.automaton_grow.proofs.Sizes.{inner_size}

module _ (e : ℕ → ℕ) (ts : List Term) (i : ℕ) where
  pub tops_next : (t : Term) (qs more all : List ℕ) (n q k : ℕ) → i < length ts → t ≡ get_or ts i t → qs ++ tops e n (views (drop i ts)) ≡ all → more ≡ qs ++ q ∷ []
      → q ≡ top e n (view t) → k ≡ n + inner (view t)
      → more ++ tops e k (views (drop (i + 1) ts)) ≡ all
  tops_next t qs more all n q k h at inv put is next =
      ap₂ (λ z m. z ++ tops e m (views (drop (i + 1) ts))) (put ∙ ap (λ z. qs ++ z ∷ []) is) next
      ∙ append_assoc qs (top e n (view t) ∷ []) (tops e (n + inner (view t)) (views (drop (i + 1) ts)))
      ∙ ap (λ z. qs ++ tops e n z) (sym (views-drop ts i t h at)) ∙ inv

  inside_grown : (n : ℕ) (t : math.Term) → inside e n t ≡ grown e (n + 1) t n
  inside_grown n (var x) = refl
  inside_grown n (app f us) = rw add-one refl

  pub grown_next : (t : Term) (out more all : List evidence.Transition) (n k : ℕ) → i < length ts → t ≡ get_or ts i t → out ++ inside_all e n (views (drop i ts)) ≡ all
      → more ≡ out ++ grown e (n + 1) (view t) n → k ≡ n + inner (view t)
      → more ++ inside_all e k (views (drop (i + 1) ts)) ≡ all
  grown_next t out more all n k h at inv put next =
      ap₂ (λ z m. z ++ inside_all e m (views (drop (i + 1) ts))) (put ∙ ap (λ z. out ++ z) (sym (inside_grown n (view t)))) next
      ∙ append_assoc out (inside e n (view t)) (inside_all e (n + inner (view t)) (views (drop (i + 1) ts)))
      ∙ ap (λ z. out ++ inside_all e n z) (sym (views-drop ts i t h at)) ∙ inv

-- how many nodes are left
size_left : (ts : List Term) (i : ℕ) (t : Term) → i < length ts → t ≡ get_or ts i t → size_all (views (drop i ts)) ≡ size (view t) + size_all (views (drop (i + 1) ts))
size_left ts i t h e = ap size_all (views-drop ts i t h e)

-- where there is room for what is left, there is room behind the next argument
pub room_behind : (n : ℕ) (ts : List Term) (i : ℕ) (t : Term) → i < length ts → t ≡ get_or ts i t → n + size_all (views (drop i ts)) < 2 ^ 32
    → n + inner (view t) + size_all (views (drop (i + 1) ts)) < 2 ^ 32
room_behind n ts i t h e room = omega (arith, inner_size (view t), size_left ts i t h e, room)

pub inner_left : (ts : List Term) (i : ℕ) (t : Term) → i < length ts → t ≡ get_or ts i t → inner_in (views (drop i ts)) ≡ inner (view t) + inner_in (views (drop (i + 1) ts))
inner_left ts i t h e = ap inner_in (views-drop ts i t h e)

pub state_later : (xs cs : List ℕ) (i x : ℕ) → i < length xs → i < length cs → (x ≡ get_or xs i 0 → ⊥) → state_of (drop i xs) (drop i cs) x ≡ state_of (drop (i + 1) xs) (drop (i + 1) cs) x
state_later xs cs i x h k other = rw add-one (go xs cs i h k other)
  where
    go : (ys ds : List ℕ) (j : ℕ) → j < length ys → j < length ds → (x ≡ get_or ys j 0 → ⊥) → state_of (drop j ys) (drop j ds) x ≡ state_of (drop (suc j) ys) (drop (suc j) ds) x
    go [] ds j h k n = absurd (omega arith)
    go (y ∷ ys) [] j h k n = absurd (omega arith)
    go (y ∷ ys) (d ∷ ds) zero h k n = other_name x y d (state_of ys ds x) (λ e. n (sym e))
    go (y ∷ ys) (d ∷ ds) (suc j) h k n = go ys ds j (omega arith) (omega arith) n

pub state_none : (xs cs : List ℕ) (i x : ℕ) → min (length xs) (length cs) ≤ i → state_of (drop i xs) (drop i cs) x ≡ 0
state_none [] cs zero x h = refl
state_none [] cs (suc i) x h = refl
state_none (y ∷ xs) [] zero x h = refl
state_none (y ∷ xs) [] (suc i) x h = none (drop i xs)
  where
    none : (zs : List ℕ) → state_of zs [] x ≡ 0
    none [] = refl
    none (z ∷ zs) = refl
state_none (y ∷ xs) (c ∷ cs) zero x h = absurd (omega arith)
state_none (y ∷ xs) (c ∷ cs) (suc i) x h = state_none xs cs i x (omega arith)
