-- What bound variables stand for keeps fitting where a new binding leaves the sizes.
use Rattle.std.proofs.Common.{ℕ, ◌≡◌, ◌⊎◌, inl, inr, Bool, true, false, nat_eq, if◌then◌else◌, refl, sym, ap, ap₂, ◌∙◌, subst, subst₂, List, [], ◌∷◌, map, length, take}
use Rattle.std.proofs.Common.{arith, eqb-true, eq-eqb}
use Rattle.std.proofs.lemmas.Bool.{false≢true, or_right, or_left}
use Rattle.rewriting.specs.Prelude.{Term, Terms, var, app, nil, cons, size, Fits, Substitution, apply, apply_all, occurs, occurs_in, replacing}
use Rattle.rewriting.proofs.Instances.{or_cases}
use Rattle.rewriting.proofs.Leaves.{IsLeaf, GivesLeaves, fits_under}
use Rattle.rewriting.proofs.Lengths.{size_positive}
use Rattle.unifier_run.specs.Run.{Binding, value, under, extended, DoAllFit}
use Rattle.unifier_run.proofs.Values.{value-extended}
use Rattle.unifier_run.proofs.General.{untouched}
use Rattle.unification.specs.Solving.{IsHead, bound_in_turn, MayBindInTurn, IsNewTo}
use Rattle.unification.proofs.Turns.{added, closed, all_closed}

-- what a variable stands for fits
pub value_fits : (b : List Binding) (x : ℕ) → DoAllFit b → Fits (value b x)
value_fits [] x h = record { nodes = omega arith; levels = omega arith }
value_fits (e ∷ b) x (h, k) = of_one (nat_eq x e.variable) (value_fits b x k)
  where
    of_one : (is : Bool) → Fits (value b x) → Fits (if is then e.term else value b x)
    of_one true f = h
    of_one false f = f

-- only x itself is given a term in which x occurs
abbrev GivesBack : ℕ → Substitution → Type 0
GivesBack x s = (y : ℕ) → occurs x (s y) ≡ true → y ≡ x

mutual
  occurred : (x : ℕ) (s : Substitution) → GivesBack x s → (t : Term) → occurs x (apply s t) ≡ true → occurs x t ≡ true
  occurred x s back (var y) o = eq-eqb x y (sym (back y o))
  occurred x s back (app f ts) o = occurred_in x s back ts o

  occurred_in : (x : ℕ) (s : Substitution) → GivesBack x s → (ts : Terms) → occurs_in x (apply_all s ts) ≡ true → occurs_in x ts ≡ true
  occurred_in x s back nil o = o
  occurred_in x s back (cons t ts) o = or_cases (occurs x (apply s t)) (occurs_in x (apply_all s ts)) o (λ q. or_left _ _ (occurred x s back t q)) (λ q. or_right _ _ (occurred_in x s back ts q))

variable_back : (x : ℕ) → GivesBack x var
variable_back x y o = sym (eqb-true x y o)

added_back : (x : ℕ) (b : List Binding) (e : Binding) → occurs x e.term ≡ false → GivesBack x (value b) → GivesBack x (value (added b e))
added_back x b e apart back y o = back y (occurred x (replacing e.variable v) replacing_back (value b y) (subst (λ z. occurs x z ≡ true) (value-extended b e.variable v y) o))
  where
    v : Term
    v = apply (value b) e.term

    v_apart : occurs x v ≡ true → ⊥
    v_apart q = false≢true (sym apart ∙ occurred x (value b) back e.term q)

    replacing_back : GivesBack x (replacing e.variable v)
    replacing_back z q = go (nat_eq z e.variable) q
      where
        go : (is : Bool) → occurs x (if is then v else var z) ≡ true → z ≡ x
        go true q = absurd (v_apart q)
        go false q = variable_back x z q

in_turn_back : (x : ℕ) (b es : List Binding) → IsNewTo x es → GivesBack x (value b) → GivesBack x (value (bound_in_turn b es))
in_turn_back x b [] new back = back
in_turn_back x b (e ∷ es) (apart, new) back = in_turn_back x (added b e) es new (added_back x b e apart back)

-- a new variable occurs in no bound term, and so these stay
stay : (x : ℕ) (v : Term) (s : Substitution) (es : List Binding) → GivesBack x s → IsNewTo x es → map (under x v) (map (closed s) es) ≡ map (closed s) es
stay x v s [] back new = refl
stay x v s (e ∷ es) back (apart, new) = ap₂ (λ z w. (record { variable = e.variable; term = z }) ∷ w)
    (untouched x v (apply s e.term) (absent (occurs x (apply s e.term)) refl)) (stay x v s es back new)
  where
    absent : (o : Bool) → occurs x (apply s e.term) ≡ o → occurs x (apply s e.term) ≡ false
    absent true q = absurd (false≢true (sym apart ∙ occurred x s back e.term q))
    absent false q = q

new_stay : (x : ℕ) (v : Term) (es : List Binding) → MayBindInTurn [] es → IsNewTo x es → map (under x v) (bound_in_turn [] es) ≡ bound_in_turn [] es
new_stay x v es may new =
    let whole = all_closed es may in
    ap (map (under x v)) whole ∙ (stay x v (value (bound_in_turn [] es)) es (in_turn_back x [] es new (variable_back x)) new ∙ sym whole)

leaf_under : (b : List Binding) (t : Term) → IsHead b t → size t ≡ 1 → IsLeaf (apply (value b) t)
leaf_under b (var y) head one = subst IsLeaf (sym (head y refl)) (record { nodes = refl; levels = refl })
leaf_under b (app f nil) head one = record { nodes = refl; levels = refl }
leaf_under b (app f (cons t ts)) head one = absurd (let h = size_positive t in omega (arith, h, one))

replacing_leaf : (x : ℕ) (v : Term) → IsLeaf v → GivesLeaves (replacing x v)
replacing_leaf x v leaf y = go (nat_eq y x)
  where
    go : (is : Bool) → IsLeaf (if is then v else var y)
    go true = leaf
    go false = record { nodes = refl; levels = refl }

leaf_fits : (x : ℕ) (v : Term) → IsLeaf v → (b : List Binding) → DoAllFit b → DoAllFit (map (under x v) b)
leaf_fits x v leaf [] h = tt
leaf_fits x v leaf (e ∷ b) (h, k) = (fits_under (replacing x v) (replacing_leaf x v leaf) e.term h, leaf_fits x v leaf b k)

earlier_ones : (b : List Binding) (x : ℕ) (v : Term) → DoAllFit (map (under x v) b) → DoAllFit (take (length b) (extended b x v))
earlier_ones b x v h = go b h
  where
    go : (b : List Binding) → DoAllFit (map (under x v) b) → DoAllFit (take (length b) (extended b x v))
    go [] h = tt
    go (e ∷ b) (h, k) = (h, go b k)

-- so a new binding leaves them where its term is a leaf, or its variable a new one
pub kept_fit : (es c : List Binding) (n x : ℕ) (t : Term) → MayBindInTurn [] es → IsHead (bound_in_turn [] es) t → DoAllFit (bound_in_turn [] es) → n ≡ length (bound_in_turn [] es)
    → c ≡ extended (bound_in_turn [] es) x (apply (value (bound_in_turn [] es)) t) → (size t ≡ 1) ⊎ IsNewTo x es → DoAllFit (take n c)
kept_fit es c n x t may head fit count is known = subst₂ (λ m z. DoAllFit (take m z)) (sym count) (sym is) (earlier_ones b x v (kept known))
  where
    b : List Binding
    b = bound_in_turn [] es

    v : Term
    v = apply (value b) t

    kept : (size t ≡ 1) ⊎ IsNewTo x es → DoAllFit (map (under x v) b)
    kept (inl one) = leaf_fits x v (leaf_under b t head one) b fit
    kept (inr new) = subst DoAllFit (sym (new_stay x v es may new)) fit
