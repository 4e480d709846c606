-- What the values of a least match are.
use Rattle.std.proofs.Common.{◌≡◌, ℕ, zero, suc, ◌⊎◌, inl, inr, true, Some, None, nat_cmp, refl, sym, ap, ◌∙◌, subst, eqb-true}
use Rattle.std.proofs.lemmas.Bool.{false≢true}
use Rattle.std.specs.FinMap.{empty, get, get-empty}
use Rattle.rewriting.specs.Prelude.{Term, Terms, var, app, nil, cons, argument, Bindings, occurs, occurs_in, Solves, SolvesAll, IsLeastMatch}
use Rattle.rewriting.proofs.Instances.{or_cases}
use Rattle.rewriting.proofs.LeastMatches.{least_needs}
use Rattle.term_core.proofs.Arguments.{argument_zero}

-- a property that arguments inherit
abbrev pub Inherits : (Term → Type 0) → Type 0
Inherits P = (f : ℕ) (ts : Terms) (k : ℕ) (u : Term) → P (app f ts) → argument ts k ≡ Some u → P u

module _ (P : Term → Type 0) (inherits : Inherits P) (c : Bindings) (x : ℕ) (t : Term) (there : get c x ≡ Some t) where
  -- for each of some terms, by its number
  abbrev Each : Terms → Type 0
  Each ss = (k : ℕ) (u : Term) → argument ss k ≡ Some u → P u

  rest_of : (s : Term) (ss : Terms) → Each (cons s ss) → Each ss
  rest_of s ss h zero u e = (let none = argument_zero ss in cc)
  rest_of s ss h (suc k) u e = h (suc (suc k)) u e

  mutual
    solved_has : (p s : Term) → Solves c p s → P s → occurs x p ≡ true → P t
    solved_has (var y) s h q o =
        let same : x ≡ y = eqb-true x y o in
        let value : get c y ≡ Some t = ap (get c) (sym same) ∙ there in
        let is : s ≡ t = cc in
        subst P is q
    solved_has (app f ps) (var y) h q o = absurd h
    solved_has (app f ps) (app g ss) h q o = solved_all_have ps ss h.1 (λ k u e. inherits g ss k u q e) o

    solved_all_have : (ps ss : Terms) → SolvesAll c ps ss → Each ss → occurs_in x ps ≡ true → P t
    solved_all_have nil nil h q o = absurd (false≢true o)
    solved_all_have nil (cons s ss) h q o = absurd h
    solved_all_have (cons p ps) nil h q o = absurd h
    solved_all_have (cons p ps) (cons s ss) (h, hs) q o =
        or_cases (occurs x p) (occurs_in x ps) o (λ l. solved_has p s h (q 1 s refl) l) (λ r. solved_all_have ps ss hs (rest_of s ss q) r)

-- what the subject and the values beforehand have and arguments inherit, the values of the least match have
pub values_have : (P : Term → Type 0) → Inherits P → (b c : Bindings) (p s : Term) → IsLeastMatch b c p s → P s → ((x : ℕ) (t : Term) → get b x ≡ Some t → P t)
    → (x : ℕ) (t : Term) → get c x ≡ Some t → P t
values_have P inherits b c p s m q before x t e = go (least_needs b c p s m x t e)
  where
    go : (get b x ≡ Some t) ⊎ (occurs x p ≡ true) → P t
    go (inl h) = before x t h
    go (inr o) = solved_has P inherits c x t e p s m.solves q o

pub nothing_bound : (x : ℕ) (t : Term) → get (empty {R = nat_cmp}) x ≡ Some t → ⊥
nothing_bound x t e = (let bad : None ≡ Some t = sym (get-empty nat_cmp x) ∙ e in cc)
