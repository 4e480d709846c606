-- Where places of rows stand for variables and for symbols past those of a system, what they stand for.
use Rattle.std.proofs.Common.{ℕ, zero, suc, ◌≡◌, ◌+◌, ◌-◌, ◌<◌, ◌≤◌, inl, inr, Bool, true, false, nat_lt, List, [], ◌∷◌, length, max, Some, refl, sym, ap, ap₂, ◌∙◌}
use Rattle.std.proofs.Common.{subst, arith, slice_get, eqb-true, ◌++◌}
use Rattle.std.proofs.lemmas.Bool.{ltb-true, ltb-false}
use Rattle.std.proofs.lemmas.Option.{slice_get_within, get_or_from_slice_get}
use Rattle.rewriting.specs.Prelude.{Term, Terms, var, app, nil, cons, size, size_all, depth, depth_all, Fits, occurs, occurs_in, AreDistinct, IsFront}
use Rattle.rewriting.proofs.Instances.{or_cases}
use Rattle.unifier_run.proofs.Renamed.{renamed, all_renamed}
use Rattle.tcap_infeasible.specs.Keys.{IsKey, IsKeyed, AreKeyed}
use Rattle.renumbering.proofs.Parted.{parted, parted_below, parted_past, parted_one}
use Rattle.term_core.specs.SystemView.{HasSymbolsBelow, HaveSymbolsBelow}
use Rattle.renumbering.proofs.Filling.{total, filling, filling_within, filling_one, below_total}

-- what a symbol past the first n stands for, by its place in a row
abbrev pub shifted : ℕ → List ℕ → ℕ → ℕ
shifted n row = parted n (λ f. f) (λ m. n + filling row m)

pub shifted_below : (n : ℕ) (row : List ℕ) (f : ℕ) → f < n → shifted n row f ≡ f
shifted_below n row = parted_below n (λ f. f) (λ m. n + filling row m)

pub shifted_past : (n : ℕ) (row : List ℕ) (m : ℕ) → shifted n row (n + m) ≡ n + filling row m
shifted_past n row = parted_past n (λ f. f) (λ m. n + filling row m)

pub shifted_one : (n : ℕ) (row : List ℕ) → AreDistinct row → (x y : ℕ) → shifted n row x ≡ shifted n row y → x ≡ y
shifted_one n row distinct =
    parted_one n (λ f. f) (λ m. n + filling row m) (λ x y a b e. e) (λ x y e. filling_one row distinct x y (omega (arith, e))) (λ x y a e. omega (arith, a, e))

-- past the system's symbols and what a row stands for
abbrev pub end_of : ℕ → List ℕ → ℕ
end_of n foreign = n + suc (total foreign)

shifted_low : (n : ℕ) (foreign : List ℕ) (f : ℕ) → f < n + length foreign → shifted n foreign f < end_of n foreign
shifted_low n foreign f h = go (nat_lt f n) refl
  where
    go : (b : Bool) → nat_lt f n ≡ b → shifted n foreign f < end_of n foreign
    go true e = (let l = ltb-true f n e in rw e (omega (arith, l)))
    go false e =
        (let l = ltb-false f n e in
        let w = filling_within foreign (f - n) (omega (arith, l, h)) in
        let t = below_total foreign (f - n) in
        let low : n + filling foreign (f - n) < end_of n foreign = omega (arith, w, t) in
        rw e low)

-- the same where behind the places of foreign symbols there are constants, by places of a row of variables
abbrev pub spaced : ℕ → List ℕ → List ℕ → ℕ → ℕ
spaced n foreign row = parted (n + length foreign) (shifted n foreign) (λ m. end_of n foreign + filling row m)

pub spaced_within : (n : ℕ) (foreign row : List ℕ) (f : ℕ) → f < n + length foreign → spaced n foreign row f ≡ shifted n foreign f
spaced_within n foreign row = parted_below (n + length foreign) (shifted n foreign) (λ m. end_of n foreign + filling row m)

pub spaced_below : (n : ℕ) (foreign row : List ℕ) (f : ℕ) → f < n → spaced n foreign row f ≡ f
spaced_below n foreign row f h = spaced_within n foreign row f (omega (arith, h)) ∙ shifted_below n foreign f h

pub spaced_low : (n : ℕ) (foreign row : List ℕ) (f : ℕ) → f < n + length foreign → spaced n foreign row f < end_of n foreign
spaced_low n foreign row f h = let e = spaced_within n foreign row f h in let l = shifted_low n foreign f h in subst (λ z. z < end_of n foreign) (sym e) l

pub spaced_past : (n : ℕ) (foreign row : List ℕ) (m : ℕ) → spaced n foreign row (n + length foreign + m) ≡ end_of n foreign + filling row m
spaced_past n foreign row = parted_past (n + length foreign) (shifted n foreign) (λ m. end_of n foreign + filling row m)

pub spaced_one : (n : ℕ) (foreign row : List ℕ) → AreDistinct foreign → AreDistinct row → (x y : ℕ) → spaced n foreign row x ≡ spaced n foreign row y → x ≡ y
spaced_one n foreign row foreign_distinct distinct =
    parted_one (n + length foreign) (shifted n foreign) (λ m. end_of n foreign + filling row m) (λ x y a b. shifted_one n foreign foreign_distinct x y)
    (λ x y e. filling_one row distinct x y (omega (arith, e))) (λ x y a e. let l = shifted_low n foreign x a in omega (arith, l, e))

-- a place of a symbol is before the constants
key_low : (n : ℕ) (foreign : List ℕ) (f g : ℕ) → IsKey n foreign f g → g < n + length foreign
key_low n foreign f g (inl (h, e)) = omega (arith, h, e)
key_low n foreign f g (inr (h, (m, e, at))) = let l = slice_get_within foreign m (f - n) at in omega (arith, e, l)

-- from the relation to the renaming
pub key_shifted : (n : ℕ) (row : List ℕ) (f g : ℕ) → IsKey n row f g → shifted n row g ≡ f
key_shifted n row f g (inl (h, e)) = ap (shifted n row) e ∙ shifted_below n row f h
key_shifted n row f g (inr (h, (m, e, at))) =
    let value : filling row m ≡ f - n = filling_within row m (slice_get_within row m (f - n) at) ∙ get_or_from_slice_get row m (f - n) 0 at in
    ap (shifted n row) e ∙ (shifted_past n row m ∙ (let back : n + (f - n) ≡ f = omega (arith, h) in ap (λ z. n + z) value ∙ back))

pub key_spaced : (n : ℕ) (foreign row : List ℕ) (f g : ℕ) → IsKey n foreign f g → spaced n foreign row g ≡ f
key_spaced n foreign row f g key = spaced_within n foreign row g (key_low n foreign f g key) ∙ key_shifted n foreign f g key

mutual
  pub keyed_renamed : (n : ℕ) (foreign row : List ℕ) (t u : Term) → IsKeyed n foreign row t u → t ≡ renamed (filling row) (spaced n foreign row) u
  keyed_renamed n foreign row (var x) u (m, e, at) =
      (let value : filling row m ≡ x = filling_within row m (slice_get_within row m x at) ∙ get_or_from_slice_get row m x 0 at in ap var (sym value)
      ∙ ap (renamed (filling row) (spaced n foreign row)) (sym e))
  keyed_renamed n foreign row (app f ts) u (g, us, e, key, all) =
      ap₂ app (sym (key_spaced n foreign row f g key)) (all_keyed_renamed n foreign row ts us all) ∙ ap (renamed (filling row) (spaced n foreign row)) (sym e)

  all_keyed_renamed : (n : ℕ) (foreign row : List ℕ) (ts us : Terms) → AreKeyed n foreign row ts us → ts ≡ all_renamed (filling row) (spaced n foreign row) us
  all_keyed_renamed n foreign row nil us e = ap (all_renamed (filling row) (spaced n foreign row)) (sym e)
  all_keyed_renamed n foreign row (cons t ts) us (v, vs, e, one, all) =
      ap₂ cons (keyed_renamed n foreign row t v one) (all_keyed_renamed n foreign row ts vs all) ∙ ap (all_renamed (filling row) (spaced n foreign row)) (sym e)

mutual
  pub keyed_size : (n : ℕ) (foreign row : List ℕ) (t u : Term) → IsKeyed n foreign row t u → (size u ≡ size t) × (depth u ≡ depth t)
  keyed_size n foreign row (var x) u (m, e, at) = (ap size e, ap depth e)
  keyed_size n foreign row (app f ts) u (g, us, e, key, all) = (let k = keyed_sizes n foreign row ts us all in (ap size e ∙ ap suc k.0, ap depth e ∙ ap suc k.1))

  keyed_sizes : (n : ℕ) (foreign row : List ℕ) (ts us : Terms) → AreKeyed n foreign row ts us → (size_all us ≡ size_all ts) × (depth_all us ≡ depth_all ts)
  keyed_sizes n foreign row nil us e = (ap size_all e, ap depth_all e)
  keyed_sizes n foreign row (cons t ts) us (v, vs, e, one, all) =
      (let k = keyed_size n foreign row t v one in let ks = keyed_sizes n foreign row ts vs all in (ap size_all e ∙ ap₂ (λ a b. a + b) k.0 ks.0, ap depth_all e ∙ ap₂ max k.1 ks.1))

pub keyed_fits : (n : ℕ) (foreign row : List ℕ) (t u : Term) → IsKeyed n foreign row t u → Fits t → Fits u
keyed_fits n foreign row t u k fit =
    let s = keyed_size n foreign row t u k in record { nodes = subst (λ z. z ≤ 10000) (sym s.0) fit.nodes; levels = subst (λ z. z ≤ 400) (sym s.1) fit.levels }

mutual
  pub keyed_below : (n : ℕ) (foreign row : List ℕ) (t u : Term) → IsKeyed n foreign row t u → (k : ℕ) → occurs k u ≡ true → k < length row
  keyed_below n foreign row (var x) u (m, e, at) k o =
      (let same : k ≡ m = eqb-true k m (subst (λ z. occurs k z ≡ true) e o) in subst (λ z. z < length row) (sym same) (slice_get_within row m x at))
  keyed_below n foreign row (app f ts) u (g, us, e, key, all) k o = all_keyed_below n foreign row ts us all k (subst (λ z. occurs k z ≡ true) e o)

  all_keyed_below : (n : ℕ) (foreign row : List ℕ) (ts us : Terms) → AreKeyed n foreign row ts us → (k : ℕ) → occurs_in k us ≡ true → k < length row
  all_keyed_below n foreign row nil us e k o = (let bad : occurs_in k nil ≡ true = subst (λ z. occurs_in k z ≡ true) e o in absurd (cc))
  all_keyed_below n foreign row (cons t ts) us (v, vs, e, one, all) k o =
      or_cases (occurs k v) (occurs_in k vs) (subst (λ z. occurs_in k z ≡ true) e o) (keyed_below n foreign row t v one k) (all_keyed_below n foreign row ts vs all k)

mutual
  pub keyed_symbols : (n : ℕ) (foreign row : List ℕ) (t u : Term) → IsKeyed n foreign row t u → HasSymbolsBelow (n + length foreign) u
  keyed_symbols n foreign row (var x) u (m, e, at) = subst (HasSymbolsBelow (n + length foreign)) (sym e) tt
  keyed_symbols n foreign row (app f ts) u (g, us, e, key, all) = subst (HasSymbolsBelow (n + length foreign)) (sym e) (key_low n foreign f g key, all_keyed_symbols n foreign row ts us all)

  all_keyed_symbols : (n : ℕ) (foreign row : List ℕ) (ts us : Terms) → AreKeyed n foreign row ts us → HaveSymbolsBelow (n + length foreign) us
  all_keyed_symbols n foreign row nil us e = subst (HaveSymbolsBelow (n + length foreign)) (sym e) tt
  all_keyed_symbols n foreign row (cons t ts) us (v, vs, e, one, all) =
      subst (HaveSymbolsBelow (n + length foreign)) (sym e) (keyed_symbols n foreign row t v one, all_keyed_symbols n foreign row ts vs all)

-- a longer row
key_at : (row more : List ℕ) (m x : ℕ) → IsFront row more → slice_get row m ≡ Some x → slice_get more m ≡ Some x
key_at row more m x (rest, e) at = subst (λ z. slice_get z m ≡ Some x) (sym e) (go row m at)
  where
    go : (xs : List ℕ) (k : ℕ) → slice_get xs k ≡ Some x → slice_get (xs ++ rest) k ≡ Some x
    go [] k h = absurd (cc)
    go (y ∷ xs) zero h = h
    go (y ∷ xs) (suc k) h = go xs k h

pub key_grows : (n : ℕ) (row more : List ℕ) (f g : ℕ) → IsFront row more → IsKey n row f g → IsKey n more f g
key_grows n row more f g front (inl h) = inl h
key_grows n row more f g front (inr (h, (m, e, at))) = inr (h, (m, e, key_at row more m (f - n) front at))

mutual
  pub keyed_grows : (n : ℕ) (foreign more_foreign row more : List ℕ) (t u : Term) → IsFront foreign more_foreign → IsFront row more → IsKeyed n foreign row t u → IsKeyed n more_foreign more t u
  keyed_grows n foreign more_foreign row more (var x) u symbols front (m, e, at) = (m, e, key_at row more m x front at)
  keyed_grows n foreign more_foreign row more (app f ts) u symbols front (g, us, e, key, all) =
      (g, us, e, key_grows n foreign more_foreign f g symbols key, all_keyed_grows n foreign more_foreign row more ts us symbols front all)

  pub all_keyed_grows : (n : ℕ) (foreign more_foreign row more : List ℕ) (ts us : Terms) → IsFront foreign more_foreign → IsFront row more → AreKeyed n foreign row ts us
      → AreKeyed n more_foreign more ts us
  all_keyed_grows n foreign more_foreign row more nil us symbols front e = e
  all_keyed_grows n foreign more_foreign row more (cons t ts) us symbols front (v, vs, e, one, all) =
      (v, vs, e, keyed_grows n foreign more_foreign row more t v symbols front one, all_keyed_grows n foreign more_foreign row more ts vs symbols front all)
