-- Names that are looked up one by one.
use Rattle.std.proofs.Common.{◌≡◌, ℕ, false, is_some, zero, suc, ◌+◌, ◌<◌, List, [], ◌∷◌, length, drop, get_or, slice_get, Option, None, Some, refl, sym, ap, subst, arith, add-one}
use Rattle.std.specs.Prelude.{option_map}
use Rattle.cops_syntax.specs.declared.tree.Name.{Name}
use Rattle.cops_syntax.specs.View.{name_view, names_view}
use Rattle.ari_text.specs.Functions.{arity_of, AreUndeclared, AreDeclared}

names_drop : (ns : List Name) (i : ℕ) (n : Name) → i < length ns → n ≡ get_or ns i n → names_view (drop i ns) ≡ name_view n ∷ names_view (drop (suc i) ns)
names_drop [] i n h e = absurd (omega arith)
names_drop (m ∷ ns) zero n h e = ap (λ q. name_view q ∷ names_view ns) (sym e)
names_drop (m ∷ ns) (suc i) n h e = names_drop ns i n (omega arith) e

symbols_drop : (ss : List (List ℕ × ℕ)) (n : ℕ) (name : List ℕ) (a : ℕ) → Some name ≡ option_map (λ s. s.0) (slice_get ss n) → Some a ≡ option_map (λ s. s.1) (slice_get ss n)
    → drop n ss ≡ (name, a) ∷ drop (suc n) ss
symbols_drop [] n name a e f = absurd cc
symbols_drop (s ∷ ss) zero name a e f =
    let same_name : name ≡ s.0 = cc in
    let same_arity : a ≡ s.1 = cc in
    sym (subst (λ (x : List ℕ). (x, a) ∷ ss ≡ s ∷ ss) (sym same_name) (subst (λ (k : ℕ). (s.0, k) ∷ ss ≡ s ∷ ss) (sym same_arity) refl))
symbols_drop (s ∷ ss) (suc n) name a e f = symbols_drop ss n name a e f

pub is_none : (o : Option ℕ) → false ≡ is_some o → o ≡ None
is_none None e = refl
is_none (Some n) e = absurd cc

module _ (fs : List (List ℕ × ℕ)) {A : Type 0} where
  pub one_name_more : (ns : List Name) (i : ℕ) (n : Name) → i < length ns → n ≡ get_or ns i n → arity_of fs n.text.now ≡ None → (AreUndeclared fs (names_view (drop i ns)) → A)
      → AreUndeclared fs (names_view (drop (i + 1) ns)) → A
  one_name_more ns i n l e u keep h = keep (subst (AreUndeclared fs) (sym (names_drop ns i n l e)) (u, subst (λ (k : ℕ). AreUndeclared fs (names_view (drop k ns))) (add-one _) h))

  pub one_symbol_more : (ss : List (List ℕ × ℕ)) (n : ℕ) (name : List ℕ) (a : ℕ) → Some name ≡ option_map (λ s. s.0) (slice_get ss n) → Some a ≡ option_map (λ s. s.1) (slice_get ss n)
      → arity_of fs name ≡ Some a → (AreDeclared fs (drop n ss) → A) → AreDeclared fs (drop (n + 1) ss) → A
  one_symbol_more ss n name a e f d keep h = keep (subst (AreDeclared fs) (sym (symbols_drop ss n name a e f)) (d, subst (λ (k : ℕ). AreDeclared fs (drop k ss)) (add-one _) h))
