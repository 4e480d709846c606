-- What stands at a place of a list, and the list up to a place and from it on. `x ≡ get_or xs i x` is what an index says of the element that it gives.
use Rattle.std.proofs.Common.{◌≡◌, ℕ, zero, suc, ◌+◌, ◌-◌, ◌<◌, List, [], ◌∷◌, ◌++◌, length, take, drop, length-drop, map, get_or, slice_get, option_map, unwrap_or, Some}
use Rattle.std.proofs.Common.{refl, sym, ap, ap₂, ◌∙◌, arith}
use Rattle.std.proofs.lemmas.List.{take_more, take_all, drop_more, map-append}
use Rattle.std.proofs.lemmas.Option.{slice_get-map, slice_get_read}

-- ---- a place of two lists

pub slice_get-append_left : {X : Type 0} (xs ys : List X) (i : ℕ) → i < length xs → slice_get (xs ++ ys) i ≡ slice_get xs i
slice_get-append_left [] ys i h = absurd (omega (arith, h))
slice_get-append_left (x ∷ xs) ys zero h = refl
slice_get-append_left (x ∷ xs) ys (suc i) h = slice_get-append_left xs ys i (omega (arith, h))

pub slice_get-append_right : {X : Type 0} (xs ys : List X) (i : ℕ) → slice_get (xs ++ ys) (length xs + i) ≡ slice_get ys i
slice_get-append_right [] ys i = let same : 0 + i ≡ i = omega arith in ap (slice_get ys) same
slice_get-append_right (x ∷ xs) ys i =
    let same : suc (length xs) + i ≡ suc (length xs + i) = omega arith in ap (slice_get (x ∷ (xs ++ ys))) same ∙ slice_get-append_right xs ys i

pub slice_get_longer : {X : Type 0} (xs ys : List X) (i : ℕ) (x : X) → slice_get xs i ≡ Some x → slice_get (xs ++ ys) i ≡ Some x
slice_get_longer [] ys i x e = absurd (cc)
slice_get_longer (z ∷ xs) ys zero x e = e
slice_get_longer (z ∷ xs) ys (suc i) x e = slice_get_longer xs ys i x e

pub slice_get_shorter : {X : Type 0} (xs ys : List X) (i : ℕ) (x : X) → i < length xs → slice_get (xs ++ ys) i ≡ Some x → slice_get xs i ≡ Some x
slice_get_shorter xs ys i x h e = sym (slice_get-append_left xs ys i h) ∙ e

pub slice_get_seam : {X : Type 0} (xs : List X) (x : X) (ys : List X) → slice_get (xs ++ x ∷ ys) (length xs) ≡ Some x
slice_get_seam [] x ys = refl
slice_get_seam (z ∷ xs) x ys = slice_get_seam xs x ys

-- ---- an element that is read

pub slice_get-map_read : {X Y : Type 0} (f : X → Y) (xs : List X) (i : ℕ) (x : X) → i < length xs → x ≡ get_or xs i x → slice_get (map f xs) i ≡ Some (f x)
slice_get-map_read f xs i x h e = slice_get-map f xs i ∙ ap (option_map f) (slice_get_read xs (length xs) i x refl h e)

pub take_read : {X : Type 0} (xs : List X) (i : ℕ) (x : X) → i < length xs → x ≡ get_or xs i x → take (i + 1) xs ≡ take i xs ++ x ∷ []
take_read {X} xs i x h e = take_more xs i x h ∙ ap (λ (y : X). take i xs ++ y ∷ []) (sym e)

pub map-take_read : {X Y : Type 0} (f : X → Y) (xs : List X) (i : ℕ) (x : X) → i < length xs → x ≡ get_or xs i x → map f (take (i + 1) xs) ≡ map f (take i xs) ++ f x ∷ []
map-take_read f xs i x h e = ap (map f) (take_read xs i x h e) ∙ map-append f (take i xs) (x ∷ [])

pub drop_read : {X : Type 0} (xs : List X) (i : ℕ) (x : X) → i < length xs → x ≡ get_or xs i x → drop i xs ≡ x ∷ drop (i + 1) xs
drop_read {X} xs i x h e = drop_more xs i x h ∙ ap (λ (y : X). y ∷ drop (i + 1) xs) (sym e)

pub map-drop_read : {X Y : Type 0} (f : X → Y) (xs : List X) (i : ℕ) (x : X) → i < length xs → x ≡ get_or xs i x → map f (drop i xs) ≡ f x ∷ map f (drop (i + 1) xs)
map-drop_read f xs i x h e = ap (map f) (drop_read xs i x h e)

-- the slice of a list from a place to its end
pub slice_rest : {X : Type 0} (xs : List X) (k : ℕ) → take (length xs - k) (drop k xs) ≡ drop k xs
slice_rest xs k = take_all (length xs - k) (drop k xs) (let long = length-drop k xs in omega (arith, long))

-- ---- lists with the same items at each place

pub same_lists : {A : Type 0} (xs ys : List A) → length xs ≡ length ys → ((k : ℕ) → k < length xs → slice_get xs k ≡ slice_get ys k) → xs ≡ ys
same_lists [] [] e h = refl
same_lists [] (y ∷ ys) e h = absurd (omega (arith, e))
same_lists (x ∷ xs) [] e h = absurd (omega (arith, e))
same_lists (x ∷ xs) (y ∷ ys) e h =
    ap₂ (λ z zs. z ∷ zs) (ap (λ o. unwrap_or o x) (h 0 (omega arith))) (same_lists xs ys (omega (arith, e)) (λ k less. h (suc k) (omega (arith, less))))

-- two items at one place that a view does not tell apart
pub same_there : {A B : Type 0} (v : A → B) (xs ys : List A) (k : ℕ) (x y : A) → slice_get xs k ≡ Some x → slice_get ys k ≡ Some y → v x ≡ v y → slice_get (map v xs) k ≡ slice_get (map v ys) k
same_there v xs ys k x y a b e = slice_get-map v xs k ∙ (ap (option_map v) a ∙ (ap Some e ∙ sym (slice_get-map v ys k ∙ ap (option_map v) b)))
