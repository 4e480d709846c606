-- Lists of lists, and lists that are joined.
use Rattle.std.proofs.Common.{◌≡◌, List, [], ◌∷◌, ◌++◌, flat_map, sym, ap, ap₂, refl, ◌∙◌, append_assoc, ℕ, zero, suc, ◌<◌, length, drop, arith}
use Rattle.std.proofs.lemmas.List.Concat.{flat_map-append}

pub flat_map_same : {X Y : Type 0} (f g : X → List Y) → ((x : X) → f x ≡ g x) → (xs : List X) → flat_map f xs ≡ flat_map g xs
flat_map_same f g same [] = refl
flat_map_same f g same (x ∷ xs) = ap₂ (λ ys zs. ys ++ zs) (same x) (flat_map_same f g same xs)

pub flat_map_of_parts : {X Y Z : Type 0} (f : Y → List Z) (g : X → List Y) (xs : List X) → flat_map f (flat_map g xs) ≡ flat_map (λ x. flat_map f (g x)) xs
flat_map_of_parts f g [] = refl
flat_map_of_parts f g (x ∷ xs) = flat_map-append f (g x) (flat_map g xs) ∙ ap (λ zs. flat_map f (g x) ++ zs) (flat_map_of_parts f g xs)

-- three parts taken together before what is behind them
pub three_parts : {X : Type 0} (xs ys zs behind : List X) → xs ++ (ys ++ (zs ++ behind)) ≡ (xs ++ (ys ++ zs)) ++ behind
three_parts {X} xs ys zs behind = ap (λ (w : List X). xs ++ w) (sym (append_assoc ys zs behind)) ∙ sym (append_assoc xs (ys ++ zs) behind)

pub not_nil : {X : Type 0} (xs : List X) → 0 < length xs → xs ≡ [] → ⊥
not_nil xs h e = let none = ap length e in omega (arith, h, none)

pub drop_whole : {X : Type 0} (xs : List X) (n : ℕ) → n ≡ length xs → drop n xs ≡ []
drop_whole (x ∷ xs) zero e = absurd cc
drop_whole (x ∷ xs) (suc n) e = drop_whole xs n (omega (arith, e))
drop_whole [] zero e = refl
drop_whole [] (suc n) e = refl
