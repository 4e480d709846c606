-- Places of a row for the arguments of a symbol, one after the other.
use Rattle.std.proofs.Common.{ℕ, suc, ◌≡◌, ◌+◌, ◌^◌, ◌<◌, ◌≤◌, List, [], ◌∷◌, ◌++◌, length, take, get_or, Vec, Global, refl, sym, ap, ◌∙◌, subst, subst₂, arith}
use Rattle.std.proofs.lemmas.List.{take_all}
use Rattle.rewriting.specs.Terms as math
use Rattle.rewriting.specs.Prelude.{Terms, app, nil, cons, size, size_all, with_new, AreDistinct, IsFront, append}
use Rattle.rewriting.proofs.Lists.{front_trans}
use Rattle.term_core.specs.View.{view, views}
use Rattle.term_core.specs.declared.terms.Term.{Term, Var, Fun}
use Rattle.term_core.proofs.Views.{view-Fun, view-Var}
use Rattle.tcap_infeasible.specs.Keys.{IsKey, IsKeyed, AreKeyed}
use Rattle.tcap_infeasible.proofs.Args.{views_with, size_take}
use Rattle.general_lemmas.proofs.Places.{take_read}
use Rattle.rewriting.proofs.Lengths.{variables_length}
use Rattle.tcap_infeasible.proofs.Keyed.{key_grows, all_keyed_grows}

-- a row grows by at most one variable
pub variable_grown : (old new : List ℕ) (t : Term) (x : ℕ) → t ≡ Var x → new ≡ with_new old x → length new ≤ length old + size (view t)
variable_grown old new t x is e =
    let count : length new ≡ length (with_new old x) = ap length e in
    let grown = variables_length old (math.var x) in
    let one : size (view t) ≡ 1 = ap size (ap view is ∙ view-Var x) in
    omega (arith, count, grown, one)

-- the first k terms have got their places
pub record HavePlaces (n : ℕ) (start_foreign foreign start row : List ℕ) (ts : List Term) (k : ℕ) (us : List Term) : Type 0 where
  pub foreign_front : IsFront start_foreign foreign
  pub front : IsFront start row
  pub foreign_distinct : AreDistinct start_foreign → AreDistinct foreign
  pub distinct : AreDistinct start → AreDistinct row
  pub foreign_grown : length foreign ≤ length start_foreign + size_all (views (take k ts))
  pub grown : length row ≤ length start + size_all (views (take k ts))
  pub are : AreKeyed n foreign row (views (take k ts)) (views us)

keyed_with : (n : ℕ) (foreign row : List ℕ) (ts us : Terms) (t u : math.Term) → AreKeyed n foreign row ts us → IsKeyed n foreign row t u
    → AreKeyed n foreign row (append ts (cons t nil)) (append us (cons u nil))
keyed_with n foreign row nil us t u e one = subst (λ z. AreKeyed n foreign row (cons t nil) (append z (cons u nil))) (sym e) (u, nil, refl, one, refl)
keyed_with n foreign row (cons x ts) us t u (v, vs, e, first, rest) one =
    subst (λ z. AreKeyed n foreign row (cons x (append ts (cons t nil))) (append z (cons u nil))) (sym e) (v, append vs (cons u nil), refl, first, keyed_with n foreign row ts vs t u rest one)

size_all_append : (ts : Terms) (t : math.Term) → size_all (append ts (cons t nil)) ≡ size_all ts + size t
size_all_append nil t = omega arith
size_all_append (cons x ts) t = let e = size_all_append ts t in omega (arith, e)

-- what one more term does to both rows
pub record IsPlaced (n : ℕ) (foreign more_foreign row more : List ℕ) (t u : math.Term) : Type 0 where
  pub foreign_front : IsFront foreign more_foreign
  pub front : IsFront row more
  pub foreign_distinct : AreDistinct foreign → AreDistinct more_foreign
  pub distinct : AreDistinct row → AreDistinct more
  pub foreign_grown : length more_foreign ≤ length foreign + size t
  pub grown : length more ≤ length row + size t
  pub is : IsKeyed n more_foreign more t u

pub one_place : (n : ℕ) (start_foreign foreign more_foreign start row more : List ℕ) (ts : List Term) (k : ℕ) (us vs : List Term) (t u : Term) → k < length ts → t ≡ get_or ts k t
    → HavePlaces n start_foreign foreign start row ts k us
    → IsPlaced n foreign more_foreign row more (view t) (view u) → vs ≡ us ++ u ∷ [] → HavePlaces n start_foreign more_foreign start more ts (k + 1) vs
one_place n start_foreign foreign more_foreign start row more ts k us vs t u h e before one pushed =
    let taken : views (take (k + 1) ts) ≡ append (views (take k ts)) (cons (view t) nil) = ap views (take_read ts k t h e) ∙ views_with (take k ts) t in
    let sized : size_all (views (take (k + 1) ts)) ≡ size_all (views (take k ts)) + size (view t) = ap size_all taken ∙ size_all_append (views (take k ts)) (view t) in
    record {
      foreign_front = front_trans start_foreign foreign more_foreign before.foreign_front one.foreign_front;
      front = front_trans start row more before.front one.front;
      foreign_distinct = λ d. one.foreign_distinct (before.foreign_distinct d);
      distinct = λ d. one.distinct (before.distinct d);
      foreign_grown = (let old = before.foreign_grown in let new = one.foreign_grown in omega (arith, sized, old, new));
      grown = (let old = before.grown in let new = one.grown in omega (arith, sized, old, new));
      are = subst₂ (AreKeyed n more_foreign more) (sym taken) (sym (ap views pushed ∙ views_with us u))
          (keyed_with n more_foreign more (views (take k ts)) (views us) (view t) (view u)
          (all_keyed_grows n foreign more_foreign row more (views (take k ts)) (views us) one.foreign_front one.front before.are) one.is);
    }

module _ (t : Term) (f : ℕ) (v : Vec Term Global) (items : List Term) (k : ℕ) (is : t ≡ Fun f v) (same : items ≡ v.items) where
  shape : view t ≡ app f (views items)
  shape = ap view is ∙ (view-Fun f v ∙ ap (λ z. app f (views z)) (sym same))

  module _ (n : ℕ) (old_foreign start_foreign foreign start row : List ℕ) (one : length start_foreign ≤ length old_foreign + 1) where
    pub place_room : (us : List Term) (arg : Term) → k < length items → arg ≡ get_or items k arg → HavePlaces n start_foreign foreign start row items k us
        → length old_foreign + size (view t) ≤ 2 ^ 31 → length foreign + size (view arg) ≤ 2 ^ 31
    place_room us arg h at places room =
        let whole : size (view t) ≡ suc (size_all (views items)) = ap size shape in
        let part = size_take items k arg h at in
        let grown = places.foreign_grown in
        omega (arith, whole, part, grown, one, room)

    pub whole_grown : (us : List Term) → length items ≤ k → HavePlaces n start_foreign foreign start row items k us
        → (length foreign ≤ length old_foreign + size (view t)) × (length row ≤ length start + size (view t))
    whole_grown us h places =
        let whole : size (view t) ≡ suc (size_all (views items)) = ap size shape in
        let all : size_all (views (take k items)) ≡ size_all (views items) = ap (λ z. size_all (views z)) (take_all k items h) in
        let symbols = places.foreign_grown in
        let variables = places.grown in
        (omega (arith, whole, all, symbols, one), omega (arith, whole, all, variables))

    pub whole_keyed : (w : Vec Term Global) (g : ℕ) → length items ≤ k → HavePlaces n start_foreign foreign start row items k w.items → IsKey n start_foreign f g
        → IsKeyed n foreign row (view t) (view (Fun g w))
    whole_keyed w g h places key =
        subst₂ (IsKeyed n foreign row) (sym shape) (sym (view-Fun g w))
        (g, views w.items, refl, key_grows n start_foreign foreign f g places.foreign_front key, subst (λ z. AreKeyed n foreign row (views z) (views w.items)) (take_all k items h) places.are)
