-- Names and the shapes that are marked for them.
use Rattle.std.proofs.Common.{◌≡◌, ℕ, ◌+◌, ◌<◌, ◌⊎◌, inl, inr, Bool, true, false, List, [], ◌∷◌, ◌++◌, length, map, take, get_or, set, refl, sym, ap, subst, ◌∙◌, Bor}
use Rattle.std.proofs.Common.{get_or-set_same, get_or-set_other}
use Rattle.std.proofs.lemmas.List.{take_more, map_push}
use Rattle.std.proofs.lemmas.Bool.{cases_eq}
use Rattle.std.proofs.lemmas.Slice.Eq.{bytes_eq-Decides}
use Rattle.std.specs.Str.{bytes_eq}
use Rattle.cops_names.specs.NameLists.{is_among}
use Rattle.cops_read.specs.Shapes.{shape_of, IsShown, AreShown}

-- a name without a marked shape is none of them
pub none_shown : (shapes : List Bool) (names : List (List ℕ)) (name : List ℕ) → AreShown shapes names → get_or shapes (shape_of name) false ≡ false → is_among names name ≡ false
none_shown shapes [] name a h = refl
none_shown shapes (n ∷ ns) name a h = by (bytes_eq name n) refl (none_shown shapes ns name a.1 h)
  where
    by : (b : Bool) → bytes_eq name n ≡ b → is_among ns name ≡ false → is_among (n ∷ ns) name ≡ false
    by true e none =
        let shown : get_or shapes (shape_of name) false ≡ true = subst (IsShown shapes) (sym ((bytes_eq-Decides name n).0 e)) a.0 in
        absurd (cc)
    by false e none = rw e none

-- one more mark
shown_with : (shapes : List Bool) (i : ℕ) (name : List ℕ) → i < length shapes → IsShown shapes name → IsShown (set shapes i true) name
shown_with shapes i name l h = by (cases_eq (shape_of name) i)
  where
    by : (shape_of name ≡ i) ⊎ (shape_of name ≡ i → ⊥) → IsShown (set shapes i true) name
    by (inl e) = ap (λ (k : ℕ). get_or (set shapes i true) k false) e ∙ get_or-set_same shapes i true false l
    by (inr n) = get_or-set_other shapes i (shape_of name) true false n ∙ h

all_shown_with : (shapes : List Bool) (i : ℕ) (names : List (List ℕ)) → i < length shapes → AreShown shapes names → AreShown (set shapes i true) names
all_shown_with shapes i [] l h = tt
all_shown_with shapes i (n ∷ ns) l h = (shown_with shapes i n l h.0, all_shown_with shapes i ns l h.1)

shown_push : (shapes : List Bool) (names : List (List ℕ)) (name : List ℕ) → AreShown shapes names → IsShown shapes name → AreShown shapes (names ++ name ∷ [])
shown_push shapes [] name h s = (s, tt)
shown_push shapes (n ∷ ns) name h s = (h.0, shown_push shapes ns name h.1 s)

-- the shape of one more name is marked
pub shown_next : (shapes : List Bool) (i n : ℕ) (names : List (Bor (List ℕ))) (d : Bor (List ℕ)) (name : List ℕ) → n < length names → i < length shapes
    → name ≡ (get_or names n d).now → i ≡ shape_of name
    → AreShown shapes (map (λ k. k.now) (take n names)) → AreShown (set shapes i true) (map (λ k. k.now) (take (n + 1) names))
shown_next shapes i n names d name less within is at h =
    let last : get_or (set shapes i true) (shape_of name) false ≡ true = ap (λ (k : ℕ). get_or (set shapes i true) k false) (sym at) ∙ get_or-set_same shapes i true false within in
    rw (take_more names n d less, map_push (λ (k : Bor (List ℕ)). k.now) (take n names) (get_or names n d))
    (shown_push (set shapes i true) (map (λ k. k.now) (take n names)) (get_or names n d).now (all_shown_with shapes i (map (λ k. k.now) (take n names)) within h)
    (subst (IsShown (set shapes i true)) is last))
