-- Places in lists that are walked through.
use Rattle.std.proofs.Common.{ℕ, ◌≡◌, ◌+◌, ◌<◌, List, ◌∷◌, ◌++◌, map, take, drop, length, get_or, sym, ap, ◌∙◌}
use Rattle.std.proofs.lemmas.List.{drop_more, map-append, take-append-drop}

-- the items around one
pub split_at : {A B : Type 0} (f : A → B) (xs : List A) (i : ℕ) (d : A) → i < length xs → map f xs ≡ map f (take i xs) ++ f (get_or xs i d) ∷ map f (drop (i + 1) xs)
split_at {A = A} f xs i d l =
    ap (map f) (sym (take-append-drop i xs) ∙ ap (λ (ys : List A). take i xs ++ ys) (drop_more xs i d l)) ∙ map-append f (take i xs) (get_or xs i d ∷ drop (i + 1) xs)
