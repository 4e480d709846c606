-- A set of names and the list that it stands for.
use Rattle.std.proofs.Common.{◌≡◌, ℕ, Bool, true, false, List, [], ◌∷◌, ◌++◌, map, Some, refl, sym, ap, ◌∙◌, Bor}
use Rattle.std.specs.Prelude.{if◌then◌else◌, ◌||◌}
use Rattle.std.specs.List.{list_any, position_or_len}
use Rattle.std.specs.Str.{bytes_eq}
use Rattle.std.proofs.lemmas.Slice.Eq.{bytes_eq-Decides}
use Rattle.cops_names.specs.NameLists.{name_index, is_among, with_name}
use Rattle.cops_names.proofs.Lists.{position_of_any, position_end, or_len_of_none}

abbrev pub texts : List (Bor (List ℕ)) → List (List ℕ)
texts ks = map (λ k. k.now) ks

pub any_is : (name : List ℕ) (ks : List (Bor (List ℕ))) → list_any (λ k. bytes_eq name k.now) ks ≡ is_among (texts ks) name
any_is name [] = refl
any_is name (k ∷ ks) = ap (λ (b : Bool). bytes_eq name k.now || b) (any_is name ks)

pub place_is : (name : List ℕ) (ks : List (Bor (List ℕ))) → position_or_len (λ k. bytes_eq name k.now) ks ≡ position_or_len (bytes_eq name) (texts ks)
place_is name [] = refl
place_is name (k ∷ ks) = rw (place_is name ks) refl

texts_end : (ks : List (Bor (List ℕ))) (k : Bor (List ℕ)) → texts (ks ++ k ∷ []) ≡ texts ks ++ k.now ∷ []
texts_end [] k = refl
texts_end (j ∷ ks) k = ap (λ (w : List (List ℕ)). j.now ∷ w) (texts_end ks k)

texts_if : (b : Bool) (ks : List (Bor (List ℕ))) (k : Bor (List ℕ)) → texts (if b then ks else (ks ++ k ∷ [])) ≡ (if b then texts ks else (texts ks ++ k.now ∷ []))
texts_if true ks k = refl
texts_if false ks k = texts_end ks k

pub texts_with : (ks after : List (Bor (List ℕ))) (k : Bor (List ℕ)) → after ≡ (if list_any (λ j. bytes_eq k.now j.now) ks then ks else (ks ++ k ∷ [])) → texts after ≡ with_name (texts ks) k.now
texts_with ks after k e =
    ap texts e ∙ texts_if (list_any (λ j. bytes_eq k.now j.now) ks) ks k
    ∙ ap (λ (b : Bool). if b then texts ks else (texts ks ++ k.now ∷ [])) (any_is k.now ks)

place_if : (names : List (List ℕ)) (name : List ℕ) (b : Bool) → is_among names name ≡ b → name_index (if b then names else (names ++ name ∷ [])) name ≡ Some (position_or_len (bytes_eq name) names)
place_if names name true h = position_of_any (bytes_eq name) names h
place_if names name false h = position_end (bytes_eq name) names name [] h ((bytes_eq-Decides name name).1 refl) ∙ ap Some (sym (or_len_of_none (bytes_eq name) names h))

-- the place that a name has once it is there
pub place_with : (names after : List (List ℕ)) (name : List ℕ) → after ≡ with_name names name → name_index after name ≡ Some (position_or_len (bytes_eq name) names)
place_with names after name e = ap (λ (w : List (List ℕ)). name_index w name) e ∙ place_if names name (is_among names name) refl
