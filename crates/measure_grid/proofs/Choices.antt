-- Choices of a member of each list: what they are made of, the first and the last, which stands behind which, and that none
-- is there twice.
use Rattle.std.proofs.Common.{ℕ, zero, suc, ◌≡◌, ◌⊎◌, inl, inr, List, [], ◌∷◌, ◌++◌, map, flat_map, length, get_or, take, drop, slice_get, Some, refl, sym, ap, ap₂, ◌∙◌, subst}
use Rattle.std.proofs.Common.{append_assoc, append-nil, arith, ◌<◌}
use Rattle.std.proofs.lemmas.List.{map-append}
use Rattle.std.proofs.lemmas.List.Concat.{flat_map-append}
use Rattle.rewriting.specs.Lists.{IsAmong, AreDistinct}
use Rattle.rewriting.proofs.Lists.{among_middle, among_of_map}
use Rattle.rewriting.proofs.Members.{of_flat, distinct_append}
use Rattle.measure_grid.specs.Grid.{choices}

-- each item stands so to the list in its place
abbrev pub StandTo : {X : Type 0} → (X → List X → Type 0) → List X → List (List X) → Type 0
StandTo So [] [] = Unit {0}
StandTo So [] (l ∷ ls) = ⊥
StandTo So (x ∷ xs) [] = ⊥
StandTo So (x ∷ xs) (l ∷ ls) = So x l × StandTo So xs ls

-- one member of each list
abbrev pub AreFrom : {X : Type 0} → List X → List (List X) → Type 0
AreFrom xs ls = StandTo (λ x l. IsAmong x l) xs ls

pub choices_from : {X : Type 0} (ls : List (List X)) (c : List X) → IsAmong c (choices ls) → AreFrom c ls
choices_from [] c (inl e) = subst (λ z. AreFrom z []) (sym e) tt
choices_from [] c (inr h) = absurd h
choices_from {X} (xs ∷ rest) c h =
    let at = of_flat (λ (x : X). map (λ c. x ∷ c) (choices rest)) c xs h in
    let tail = among_of_map (λ c. at.0 ∷ c) c (choices rest) at.2 in
    subst (λ z. AreFrom z (xs ∷ rest)) (sym tail.2) (at.1, choices_from rest tail.0 tail.1)

pub from_length : {X : Type 0} (xs : List X) (ls : List (List X)) → AreFrom xs ls → length xs ≡ length ls
from_length [] [] h = refl
from_length [] (l ∷ ls) h = absurd h
from_length (x ∷ xs) [] h = absurd h
from_length (x ∷ xs) (l ∷ ls) (h, hs) = ap suc (from_length xs ls hs)

pub from_at : {X : Type 0} (xs : List X) (ls : List (List X)) (k : ℕ) (x : X) → AreFrom xs ls → slice_get xs k ≡ Some x → (l : List X) × (slice_get ls k ≡ Some l) × IsAmong x l
from_at [] ls k x h e = absurd (cc)
from_at (y ∷ xs) [] k x h e = absurd h
from_at (y ∷ xs) (l ∷ ls) zero x (h, hs) e = let same : y ≡ x = cc in (l, refl, subst (λ z. IsAmong z l) same h)
from_at (y ∷ xs) (l ∷ ls) (suc k) x (h, hs) e = from_at xs ls k x hs e

pub from_get : {X : Type 0} (xs : List X) (ls : List (List X)) (k : ℕ) (d : X) → AreFrom xs ls → k < length ls → IsAmong (get_or xs k d) (get_or ls k [])
from_get [] [] k d h l = absurd (omega (arith, l))
from_get [] (m ∷ ls) k d h l = absurd h
from_get (x ∷ xs) [] k d h l = absurd h
from_get (x ∷ xs) (m ∷ ls) zero d (h, hs) l = h
from_get (x ∷ xs) (m ∷ ls) (suc k) d (h, hs) l = from_get xs ls k d hs (omega (arith, l))

-- the list begins with x; it ends with x; y stands right behind x
abbrev pub Begins : {X : Type 0} → List X → X → Type 0
Begins {X} xs x = (behind : List X) × (xs ≡ x ∷ behind)

abbrev pub Ends : {X : Type 0} → List X → X → Type 0
Ends {X} xs x = (before : List X) × (xs ≡ before ++ x ∷ [])

abbrev pub Follows : {X : Type 0} → List X → X → X → Type 0
Follows {X} xs x y = (before : List X) × (behind : List X) × (xs ≡ before ++ x ∷ y ∷ behind)

module _ {X : Type 0} where
  begins_append : (xs ys : List X) (x : X) → Begins xs x → Begins (xs ++ ys) x
  begins_append xs ys x (behind, e) = (behind ++ ys, ap (λ (zs : List X). zs ++ ys) e)

  ends_append : (xs ys : List X) (x : X) → Ends ys x → Ends (xs ++ ys) x
  ends_append xs ys x (before, e) = (xs ++ before, ap (λ (zs : List X). xs ++ zs) e ∙ sym (append_assoc xs before (x ∷ [])))

  follows_left : (xs ys : List X) (x y : X) → Follows xs x y → Follows (xs ++ ys) x y
  follows_left xs ys x y (before, behind, e) = (before, behind ++ ys, ap (λ (zs : List X). zs ++ ys) e ∙ append_assoc before (x ∷ y ∷ behind) ys)

  follows_right : (xs ys : List X) (x y : X) → Follows ys x y → Follows (xs ++ ys) x y
  follows_right xs ys x y (before, behind, e) = (xs ++ before, behind, ap (λ (zs : List X). xs ++ zs) e ∙ sym (append_assoc xs before (x ∷ y ∷ behind)))

  follows_across : (xs ys : List X) (x y : X) → Ends xs x → Begins ys y → Follows (xs ++ ys) x y
  follows_across xs ys x y (before, e) (behind, d) = (before, behind, ap₂ (λ (us vs : List X). us ++ vs) e d ∙ append_assoc before (x ∷ []) (y ∷ behind))

module _ {X Y : Type 0} (f : X → Y) where
  pub begins_map : (xs : List X) (x : X) → Begins xs x → Begins (map f xs) (f x)
  begins_map xs x (behind, e) = (map f behind, ap (map f) e)

  pub ends_map : (xs : List X) (x : X) → Ends xs x → Ends (map f xs) (f x)
  ends_map xs x (before, e) = (map f before, ap (map f) e ∙ map-append f before (x ∷ []))

  pub follows_map : (xs : List X) (x y : X) → Follows xs x y → Follows (map f xs) (f x) (f y)
  follows_map xs x y (before, behind, e) = (map f before, map f behind, ap (map f) e ∙ map-append f before (x ∷ y ∷ behind))

module _ {X Y : Type 0} (f : X → List Y) where
  begins_flat : (xs : List X) (x : X) (y : Y) → Begins xs x → Begins (f x) y → Begins (flat_map f xs) y
  begins_flat xs x y (behind, e) h = subst (λ zs. Begins (flat_map f zs) y) (sym e) (begins_append (f x) (flat_map f behind) y h)

  ends_flat : (xs : List X) (x : X) (y : Y) → Ends xs x → Ends (f x) y → Ends (flat_map f xs) y
  ends_flat xs x y (before, e) h =
      subst (λ zs. Ends zs y) (sym (ap (flat_map f) e ∙ flat_map-append f before (x ∷ [])))
      (ends_append (flat_map f before) (f x ++ []) y (subst (λ zs. Ends zs y) (sym (append-nil (f x))) h))

  -- from the end of what is made of x to the begin of what is made of the next
  follows_over : (xs : List X) (w x : X) (y z : Y) → Follows xs w x → Ends (f w) y → Begins (f x) z → Follows (flat_map f xs) y z
  follows_over xs w x y z (before, behind, e) h k =
      subst (λ zs. Follows zs y z) (sym (ap (flat_map f) e ∙ flat_map-append f before (w ∷ x ∷ behind)))
      (follows_right (flat_map f before) (f w ++ (f x ++ flat_map f behind)) y z
      (follows_across (f w) (f x ++ flat_map f behind) y z h (begins_append (f x) (flat_map f behind) z k)))

  follows_within : (xs : List X) (x : X) (y z : Y) → IsAmong x xs → Follows (f x) y z → Follows (flat_map f xs) y z
  follows_within [] x y z a h = absurd a
  follows_within (w ∷ xs) x y z (inl e) h = follows_left (f w) (flat_map f xs) y z (subst (λ q. Follows (f q) y z) e h)
  follows_within (w ∷ xs) x y z (inr a) h = follows_right (f w) (flat_map f xs) y z (follows_within xs x y z a h)

-- the first of each list, the last of each
abbrev pub AreFirsts : {X : Type 0} → List X → List (List X) → Type 0
AreFirsts xs ls = StandTo (λ x l. Begins l x) xs ls

abbrev pub AreLasts : {X : Type 0} → List X → List (List X) → Type 0
AreLasts xs ls = StandTo (λ x l. Ends l x) xs ls

-- at one place the next member, the same before it, and behind it the firsts in place of the lasts
abbrev pub Advances : {X : Type 0} → List X → List X → List (List X) → Type 0
Advances [] ys ls = ⊥
Advances (x ∷ xs) [] ls = ⊥
Advances (x ∷ xs) (y ∷ ys) [] = ⊥
Advances (x ∷ xs) (y ∷ ys) (l ∷ ls) = (IsAmong x l × (y ≡ x) × Advances xs ys ls) ⊎ (Follows l x y × AreLasts xs ls × AreFirsts ys ls)

pub choices_begin : {X : Type 0} (xs : List X) (ls : List (List X)) → AreFirsts xs ls → Begins (choices ls) xs
choices_begin [] [] h = ([], refl)
choices_begin [] (l ∷ ls) h = absurd h
choices_begin (x ∷ xs) [] h = absurd h
choices_begin {X} (x ∷ xs) (l ∷ ls) (h, hs) =
    begins_flat (λ (z : X). map (λ c. z ∷ c) (choices ls)) l x (x ∷ xs) h (begins_map (λ c. x ∷ c) (choices ls) xs (choices_begin xs ls hs))

pub choices_end : {X : Type 0} (xs : List X) (ls : List (List X)) → AreLasts xs ls → Ends (choices ls) xs
choices_end [] [] h = ([], refl)
choices_end [] (l ∷ ls) h = absurd h
choices_end (x ∷ xs) [] h = absurd h
choices_end {X} (x ∷ xs) (l ∷ ls) (h, hs) =
    ends_flat (λ (z : X). map (λ c. z ∷ c) (choices ls)) l x (x ∷ xs) h (ends_map (λ c. x ∷ c) (choices ls) xs (choices_end xs ls hs))

pub choices_advance : {X : Type 0} (xs ys : List X) (ls : List (List X)) → Advances xs ys ls → Follows (choices ls) xs ys
choices_advance [] ys ls h = absurd h
choices_advance (x ∷ xs) [] ls h = absurd h
choices_advance (x ∷ xs) (y ∷ ys) [] h = absurd h
choices_advance {X} (x ∷ xs) (y ∷ ys) (l ∷ ls) (inl (a, e, h)) =
    subst (λ z. Follows (choices (l ∷ ls)) (x ∷ xs) (z ∷ ys)) (sym e)
    (follows_within (λ (z : X). map (λ c. z ∷ c) (choices ls)) l x (x ∷ xs) (x ∷ ys) a (follows_map (λ c. x ∷ c) (choices ls) xs ys (choices_advance xs ys ls h)))
choices_advance {X} (x ∷ xs) (y ∷ ys) (l ∷ ls) (inr (next, lasts, firsts)) =
    follows_over (λ (z : X). map (λ c. z ∷ c) (choices ls)) l x y (x ∷ xs) (y ∷ ys) next
    (ends_map (λ c. x ∷ c) (choices ls) xs (choices_end xs ls lasts)) (begins_map (λ c. y ∷ c) (choices ls) ys (choices_begin ys ls firsts))

-- the step at a place, from what stands before it, there and behind it
pub advances_at : {X : Type 0} (k : ℕ) (xs ys : List X) (ls : List (List X)) (x y : X) (us vs : List X) (l : List X) (ms : List (List X)) → AreFrom xs ls → take k ys ≡ take k xs
    → drop k xs ≡ x ∷ us → drop k ys ≡ y ∷ vs → drop k ls ≡ l ∷ ms → Follows l x y → AreLasts us ms → AreFirsts vs ms → Advances xs ys ls
advances_at zero xs ys ls x y us vs l ms from same at_x at_y at_l next lasts firsts =
    subst (λ zs. Advances zs ys ls) (sym at_x) (subst (λ zs. Advances (x ∷ us) zs ls) (sym at_y) (subst (λ zs. Advances (x ∷ us) (y ∷ vs) zs) (sym at_l) (inr (next, lasts, firsts))))
advances_at (suc k) [] ys ls x y us vs l ms from same at_x at_y at_l next lasts firsts = absurd (cc)
advances_at (suc k) (w ∷ xs) [] ls x y us vs l ms from same at_x at_y at_l next lasts firsts = absurd (cc)
advances_at (suc k) (w ∷ xs) (z ∷ ys) [] x y us vs l ms from same at_x at_y at_l next lasts firsts = absurd from
advances_at (suc k) (w ∷ xs) (z ∷ ys) (m ∷ ls) x y us vs l ms (a, from) same at_x at_y at_l next lasts firsts =
    let rest : take k ys ≡ take k xs = cc in inl (a, cc, advances_at k xs ys ls x y us vs l ms from rest at_x at_y at_l next lasts firsts)

module _ {X Y : Type 0} (f : X → Y) (once : (x y : X) → f x ≡ f y → x ≡ y) where
  pub distinct_map : (xs : List X) → AreDistinct xs → AreDistinct (map f xs)
  distinct_map [] d = tt
  distinct_map (x ∷ xs) (fresh, d) = ((λ a. let at = among_of_map f (f x) xs a in fresh (subst (λ z. IsAmong z xs) (sym (once x at.0 at.2)) at.1)), distinct_map xs d)

abbrev pub AreAllDistinct : {X : Type 0} → List (List X) → Type 0
AreAllDistinct [] = Unit {0}
AreAllDistinct (l ∷ ls) = AreDistinct l × AreAllDistinct ls

module _ {X : Type 0} (cs : List (List X)) (d : AreDistinct cs) where
  begun_with : (x : X) → AreDistinct (map (λ c. x ∷ c) cs)
  begun_with x = distinct_map (λ c. x ∷ c) (λ a b e. (cc)) cs d

  begun_apart : (x : X) (xs : List X) → (IsAmong x xs → ⊥) → (c : List X) → IsAmong c (map (λ c. x ∷ c) cs) → IsAmong c (flat_map (λ z. map (λ c. z ∷ c) cs) xs) → ⊥
  begun_apart x xs fresh c a b =
      let left = among_of_map (λ c. x ∷ c) c cs a in
      let at = of_flat (λ (z : X). map (λ c. z ∷ c) cs) c xs b in
      let right = among_of_map (λ c. at.0 ∷ c) c cs at.2 in
      let here : c ≡ x ∷ left.0 = left.2 in
      let there : c ≡ at.0 ∷ right.0 = right.2 in
      let same : at.0 ≡ x = cc in
      fresh (subst (λ z. IsAmong z xs) same at.1)

  distinct_each : (xs : List X) → AreDistinct xs → AreDistinct (flat_map (λ x. map (λ c. x ∷ c) cs) xs)
  distinct_each [] h = tt
  distinct_each (x ∷ xs) (fresh, h) = distinct_append (map (λ c. x ∷ c) cs) (flat_map (λ x. map (λ c. x ∷ c) cs) xs) (begun_with x) (distinct_each xs h) (begun_apart x xs fresh)

pub choices_distinct : {X : Type 0} (ls : List (List X)) → AreAllDistinct ls → AreDistinct (choices ls)
choices_distinct [] h = ((λ a. a), tt)
choices_distinct (l ∷ ls) (h, hs) = distinct_each (choices ls) (choices_distinct ls hs) l h

-- in a distinct list a member has one place
pub place_once : {X : Type 0} (x : X) (before behind other rest : List X) → AreDistinct (before ++ x ∷ behind) → before ++ x ∷ behind ≡ other ++ x ∷ rest → (before ≡ other) × (behind ≡ rest)
place_once x [] behind [] rest d e = (refl, cc)
place_once x [] behind (z ∷ other) rest d e =
    let tail : behind ≡ other ++ x ∷ rest = cc in absurd (d.0 (subst (IsAmong x) (sym tail) (among_middle x other rest)))
place_once x (y ∷ before) behind [] rest d e =
    let head : x ≡ y = cc in absurd (d.0 (subst (λ z. IsAmong z (before ++ x ∷ behind)) head (among_middle x before behind)))
place_once {X} x (y ∷ before) behind (z ∷ other) rest d e =
    let head : y ≡ z = cc in
    let tail : before ++ x ∷ behind ≡ other ++ x ∷ rest = cc in
    let at = place_once x before behind other rest d.1 tail in
    (ap₂ (λ (u : X) (us : List X). u ∷ us) head at.0, at.1)
