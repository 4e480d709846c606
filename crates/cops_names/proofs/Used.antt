-- Whether a name is used, by a symbol or by a variable; sets of names that grow.
use Rattle.std.proofs.Common.{◌≡◌, ℕ, suc, Bool, true, false, ◌||◌, List, [], ◌∷◌, ◌++◌, map, Option, None, Some, option_map, is_some, refl, sym, ap, ◌∙◌, if◌then◌else◌, zero, ◌+◌}
use Rattle.std.proofs.Common.{◌<◌, length, drop, get_or, add-one, arith}
use Rattle.std.specs.Str.{bytes_eq}
use Rattle.std.proofs.lemmas.Slice.Eq.{bytes_eq-Decides}
use Rattle.std.proofs.Math.Bool.{or_assoc}
use Rattle.cops_names.specs.NameTable.{number_of, all_of}
use Rattle.cops_names.specs.NameLists.{is_among, with_name, with_names}
use Rattle.cops_names.proofs.Lists.{position_here, position_later}

some_more : (o : Option ℕ) → is_some (option_map (λ n. suc n) o) ≡ is_some o
some_more None = refl
some_more (Some n) = refl

abbrev texts : List (List ℕ × ℕ) → List (List ℕ) → List (List ℕ)
texts symbols others = map (λ (s : List ℕ × ℕ). s.0) symbols ++ others

pub used_by : (symbols : List (List ℕ × ℕ)) (others : List (List ℕ)) (name : List ℕ) → is_among (texts symbols others) name ≡ (is_some (number_of symbols name) || is_among others name)
used_by [] others name = refl
used_by (s ∷ symbols) others name = go (used_by symbols others name) (bytes_eq name s.0) refl
  where
    go : is_among (texts symbols others) name ≡ (is_some (number_of symbols name) || is_among others name) → (b : Bool) → bytes_eq name s.0 ≡ b
        → is_among (texts (s ∷ symbols) others) name ≡ (is_some (number_of (s ∷ symbols) name) || is_among others name)
    go rest true e =
        ap (λ (b : Bool). b || is_among (texts symbols others) name) e
        ∙ sym (ap (λ (o : Option ℕ). is_some o || is_among others name) (position_here (λ (q : List ℕ × ℕ). bytes_eq name q.0) s symbols e))
    go rest false e =
        ap (λ (b : Bool). b || is_among (texts symbols others) name) e ∙ rest ∙ sym (ap (λ (b : Bool). b || is_among others name) (some_more (number_of symbols name)))
        ∙ sym (ap (λ (o : Option ℕ). is_some o || is_among others name) (position_later (λ (q : List ℕ × ℕ). bytes_eq name q.0) s symbols e))

-- what is among the names is among them with others, and so are the others
or_right : (b c : Bool) → c ≡ false → (b || c) ≡ b
or_right true c e = refl
or_right false c e = e

more_among : (xs : List (List ℕ)) (x name : List ℕ) → is_among (xs ++ x ∷ []) name ≡ (is_among xs name || bytes_eq name x)
more_among [] x name = or_right (bytes_eq name x) false refl
more_among (y ∷ xs) x name = ap (λ (b : Bool). bytes_eq name y || b) (more_among xs x name) ∙ sym (or_assoc (bytes_eq name y) (is_among xs name) (bytes_eq name x))

one_among : (xs : List (List ℕ)) (x name : List ℕ) → is_among (with_name xs x) name ≡ (is_among xs name || bytes_eq name x)
one_among xs x name = go (is_among xs x) refl
  where
    there : is_among xs x ≡ true → (b : Bool) → bytes_eq name x ≡ b → is_among xs name ≡ (is_among xs name || b)
    there h true e = ap (is_among xs) same ∙ h ∙ sym (ap (λ (b : Bool). b || true) (ap (is_among xs) same ∙ h))
      where
        same : name ≡ x
        same = (bytes_eq-Decides name x).0 e
    there h false e = sym (or_right (is_among xs name) false refl)

    go : (b : Bool) → is_among xs x ≡ b → is_among (if b then xs else (xs ++ x ∷ [])) name ≡ (is_among xs name || bytes_eq name x)
    go true h = there h (bytes_eq name x) refl
    go false h = more_among xs x name

pub all_among : (xs ys : List (List ℕ)) (name : List ℕ) → is_among (with_names xs ys) name ≡ (is_among xs name || is_among ys name)
all_among xs [] name = sym (or_right (is_among xs name) false refl)
all_among xs (y ∷ ys) name =
    all_among (with_name xs y) ys name ∙ ap (λ (b : Bool). b || is_among ys name) (one_among xs y name) ∙ or_assoc (is_among xs name) (bytes_eq name y) (is_among ys name)

pub with_both : (xs ys zs : List (List ℕ)) → with_names xs (ys ++ zs) ≡ with_names (with_names xs ys) zs
with_both xs [] zs = refl
with_both xs (y ∷ ys) zs = with_both (with_name xs y) ys zs

-- the names of lists from one on are its own and those of the later ones
pub all_of_drop : {A : Type 0} (f : A → List (List ℕ)) (xs : List A) (i : ℕ) (x : A) → i < length xs → x ≡ get_or xs i x → all_of (map f (drop i xs)) ≡ f x ++ all_of (map f (drop (i + 1) xs))
all_of_drop {A = A} f xs i x h e = rw add-one (go xs i h e)
  where
    go : (ys : List A) (k : ℕ) → k < length ys → x ≡ get_or ys k x → all_of (map f (drop k ys)) ≡ f x ++ all_of (map f (drop (suc k) ys))
    go [] k h e = absurd (omega arith)
    go (y ∷ ys) zero h e = ap (λ z. f z ++ all_of (map f ys)) (sym e)
    go (y ∷ ys) (suc k) h e = go ys k (omega arith) e
