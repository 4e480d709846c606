-- A text that is put part by part, and what is left of it.
use Rattle.std.proofs.Common.{◌≡◌, ◌≤◌, ◌<◌, ◌+◌, ◌-◌, ℕ, List, [], ◌∷◌, ◌++◌, get_or, map, take, drop, length, subst, sym, ◌∙◌, ap, arith}
use Rattle.std.proofs.lemmas.List.{take_all, drop_all, drop_more}
use Rattle.cert_writing.specs.Written.{each}

-- the bytes of a text may come in parts
abbrev pub InParts : {S : Type 0} → (S → List ℕ → S → Type 0) → Type 0
InParts {S} took = (s t u : S) (a b : List ℕ) → took s a t → took t b u → took s (a ++ b) u

-- what takes the text of a list's members from a place on has taken the whole text
pub record Leads {A S : Type 0} (took : S → List ℕ → S → Type 0) (whole : List ℕ) (text : List A → List ℕ) (xs : List A) (i : ℕ) (start now : S) : Type 0 where
  pub on : (end : S) → took now (text (drop i xs)) end → took start whole end

abbrev pub Left : {A S : Type 0} → (S → List ℕ → S → Type 0) → (List A → List ℕ) → List A → ℕ → S → S → Type 0
Left took text xs i start now = Leads took (text xs) text xs i start now

-- before the first member stands what was taken
pub lead_in : {A S : Type 0} {took : S → List ℕ → S → Type 0} {whole w : List ℕ} {text : List A → List ℕ} {xs : List A} {start now : S} → InParts took → took start w now
    → whole ≡ w ++ text xs → Leads took whole text xs 0 start now
lead_in {took = took} {w = w} {text = text} {xs = xs} {start = start} {now = now} parts h e =
    record { on = λ end k. subst (λ (v : List ℕ). took start v end) (sym e) (parts start now end w (text xs) h k) }

-- the next member
pub next_value : {A S : Type 0} {took : S → List ℕ → S → Type 0} {whole w : List ℕ} {text : List A → List ℕ} {xs : List A} {i : ℕ} {start now after : S} → InParts took → (d : A)
    → i < length xs → Leads took whole text xs i start now → took now w after → text (get_or xs i d ∷ drop (i + 1) xs) ≡ w ++ text (drop (i + 1) xs)
    → Leads took whole text xs (i + 1) start after
next_value {took = took} {w = w} {text = text} {xs = xs} {i = i} {now = now} {after = after} parts d lt l h e =
    let shown : text (drop i xs) ≡ w ++ text (drop (i + 1) xs) = ap text (drop_more xs i d lt) ∙ e in
    record { on = λ end k. l.on end (subst (λ (v : List ℕ). took now v end) (sym shown) (parts now after end w (text (drop (i + 1) xs)) h k)) }

-- the same of a member that is lent
pub next_left : {A S : Type 0} {took : S → List ℕ → S → Type 0} {whole w : List ℕ} {text : List A → List ℕ} {xs : List A} {i : ℕ} {start now after : S} {x : A} → InParts took
    → i < length xs → x ≡ get_or xs i x → Leads took whole text xs i start now → took now w after → text (x ∷ drop (i + 1) xs) ≡ w ++ text (drop (i + 1) xs)
    → Leads took whole text xs (i + 1) start after
next_left {text = text} {xs = xs} {i = i} {x = x} parts lt is l h e = next_value parts x lt l h (ap (λ y. text (y ∷ drop (i + 1) xs)) (sym is) ∙ e)

-- no member is left
pub none_left : {A S : Type 0} {took : S → List ℕ → S → Type 0} {whole : List ℕ} {text : List A → List ℕ} {xs : List A} {i : ℕ} {start now end : S} → length xs ≤ i
    → Leads took whole text xs i start now → took now (text []) end → took start whole end
none_left {took = took} {text = text} {xs = xs} {i = i} {now = now} {end = end} le l h = l.on end (subst (λ w. took now (text w) end) (sym (drop_all i xs le)) h)

-- the first of some members, and the others
pub first_and_others : {A : Type 0} (xs : List A) (x : A) → 1 ≤ length xs → xs ≡ get_or xs 0 x ∷ take (length xs - 1) (drop 1 xs)
first_and_others [] x some = absurd (omega arith)
first_and_others (y ∷ ys) x some = ap (λ zs. y ∷ zs) (sym (take_all (length (y ∷ ys) - 1) ys (omega arith)))

-- a list's text is that of its members one after the other
pub each_is : {A B : Type 0} (whole : List A → List ℕ) (text : A → List ℕ) (view : B → A) → whole [] ≡ [] → ((x : A) (xs : List A) → whole (x ∷ xs) ≡ text x ++ whole xs)
    → (xs : List B) → whole (map view xs) ≡ each (λ x. text (view x)) xs
each_is whole text view none more [] = none
each_is whole text view none more (x ∷ xs) = more (view x) (map view xs) ∙ ap (λ w. text (view x) ++ w) (each_is whole text view none more xs)
