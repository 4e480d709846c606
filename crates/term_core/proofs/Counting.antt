-- Counts that grow by what occurs.
use Rattle.std.proofs.Common.{◌≡◌, ℕ, zero, suc, ◌+◌, ◌-◌, ◌≤◌, ◌<◌, ◌⊎◌, inl, inr, Bool, true, false, List, [], ◌∷◌, map, length, get_or, set, replicate, refl, sym, ap, ap₂, ◌∙◌, arith, eq-eqb}
use Rattle.std.proofs.lemmas.Bool.{ne_eqb}
use Rattle.general_lemmas.proofs.Numbers.{le_or_lt}
use Rattle.rewriting.specs.Prelude.{var, occurrences}
use Rattle.term_core.specs.Counting.{bit, with_counts, HasTwo}

counts_same : (f : ℕ → ℕ) (k : ℕ) (ns : List ℕ) → ((j : ℕ) → k ≤ j → j < k + length ns → f j ≡ 0) → with_counts f k ns ≡ ns
counts_same f k [] h = refl
counts_same f k (n ∷ ns) h =
    let none : f k ≡ 0 = h k (omega arith) (omega arith) in
    let rest : with_counts f (suc k) ns ≡ ns = counts_same f (suc k) ns (λ j a b. h j (omega (arith, a)) (omega (arith, b))) in
    let first : n + f k ≡ n = omega (arith, none) in
    ap₂ (λ a b. a ∷ b) first rest

other : (x j : ℕ) → (x ≡ j → ⊥) → occurrences j (var x) ≡ 0
other x j h = rw (ne_eqb j x (λ e. h (sym e))) refl

itself : (x : ℕ) → occurrences x (var x) ≡ 1
itself x = rw (eq-eqb x x refl) refl

-- a variable before the row or behind it is not counted
pub counts_before : (x k : ℕ) (ns : List ℕ) → x < k → ns ≡ with_counts (λ y. occurrences y (var x)) k ns
counts_before x k ns h = sym (counts_same (λ y. occurrences y (var x)) k ns (λ j a b. other x j (λ e. omega (arith, a, e))))

pub counts_behind : (x k : ℕ) (ns : List ℕ) → k + length ns ≤ x → ns ≡ with_counts (λ y. occurrences y (var x)) k ns
counts_behind x k ns h = sym (counts_same (λ y. occurrences y (var x)) k ns (λ j a b. other x j (λ e. omega (arith, b, e))))

-- what was counted twice stays so
pub two_stays : (f : ℕ → ℕ) (k : ℕ) (ns : List ℕ) → HasTwo ns → HasTwo (with_counts f k ns)
two_stays f k [] h = h
two_stays f k (n ∷ ns) (inl h) = inl (omega (arith, h))
two_stays f k (n ∷ ns) (inr h) = inr (two_stays f (suc k) ns h)

-- counts that grow twice
pub counts_twice : (f g : ℕ → ℕ) (k : ℕ) (ns : List ℕ) → with_counts g k (with_counts f k ns) ≡ with_counts (λ x. f x + g x) k ns
counts_twice f g k [] = refl
counts_twice f g k (n ∷ ns) =
    let first : n + f k + g k ≡ n + (f k + g k) = omega arith in
    ap₂ (λ a b. a ∷ b) first (counts_twice f g (suc k) ns)

pub counts_nothing : (k : ℕ) (ns : List ℕ) → with_counts (λ x. 0) k ns ≡ ns
counts_nothing k ns = counts_same (λ x. 0) k ns (λ j a b. refl)

marked_twice : (x i k : ℕ) (bs : List Bool) → x ≡ k + i → i < length bs → get_or bs i false ≡ true → HasTwo (with_counts (λ y. occurrences y (var x)) k (map bit bs))
marked_twice x i k [] e h m = absurd (omega (arith, h))
marked_twice x zero k (b ∷ bs) e h m =
    let same : x ≡ k = omega (arith, e) in
    let one : bit b ≡ 1 = ap bit m in
    let more : occurrences k (var x) ≡ 1 = ap (λ y. occurrences y (var x)) (sym same) ∙ itself x in
    inl (omega (arith, one, more))
marked_twice x (suc i) k (b ∷ bs) e h m = inr (marked_twice x i (suc k) bs (omega (arith, e)) (omega (arith, h)) m)

-- a variable whose mark stands already is counted twice
pub counts_two : (x k : ℕ) (bs : List Bool) → k ≤ x → x - k < length bs → get_or bs (x - k) false ≡ true → HasTwo (with_counts (λ y. occurrences y (var x)) k (map bit bs))
counts_two x k bs h l m = marked_twice x (x - k) k bs (omega (arith, h)) l m

marked : (x i k : ℕ) (bs : List Bool) → x ≡ k + i → i < length bs → get_or bs i false ≡ false → map bit (set bs i true) ≡ with_counts (λ y. occurrences y (var x)) k (map bit bs)
marked x i k [] e h m = absurd (omega (arith, h))
marked x zero k (b ∷ bs) e h m =
    let same : x ≡ k = omega (arith, e) in
    let none : bit b ≡ 0 = ap bit m in
    let more : occurrences k (var x) ≡ 1 = ap (λ y. occurrences y (var x)) (sym same) ∙ itself x in
    let first : 1 ≡ bit b + occurrences k (var x) = omega (arith, none, more) in
    ap₂ (λ n ns. n ∷ ns) first (counts_before x (suc k) (map bit bs) (omega (arith, same)))
marked x (suc i) k (b ∷ bs) e h m =
    let none : occurrences k (var x) ≡ 0 = other x k (λ s. omega (arith, e, s)) in
    let first : bit b ≡ bit b + occurrences k (var x) = omega (arith, none) in
    ap₂ (λ n ns. n ∷ ns) first (marked x i (suc k) bs (omega (arith, e)) (omega (arith, h)) m)

-- a variable without a mark gets one
pub counts_marked : (x k : ℕ) (bs : List Bool) → k ≤ x → x - k < length bs → get_or bs (x - k) false ≡ false → map bit (set bs (x - k) true) ≡ with_counts (λ y. occurrences y (var x)) k (map bit bs)
counts_marked x k bs h l m = marked x (x - k) k bs (omega (arith, h)) l m

pub bit_small : (b : Bool) → bit b ≤ 1
bit_small true = omega arith
bit_small false = omega arith

once_at : (f : ℕ → ℕ) (k x : ℕ) (b : Bool) → k ≤ x → bit b ≡ 0 + f k → (suc k ≤ x) ⊎ (x < suc k) → (suc k ≤ x → f x ≤ 1) → f x ≤ 1
once_at f k x b h e (inl above) later = later above
once_at f k x b h e (inr here) later =
    let same : x ≡ k = omega (arith, h, here) in
    let small : bit b ≤ 1 = bit_small b in
    let value : f x ≡ f k = ap f same in
    omega (arith, e, small, value)

-- what is counted from nothing, by marks
pub counted_once : (f : ℕ → ℕ) (n k : ℕ) (bs : List Bool) → map bit bs ≡ with_counts f k (map bit (replicate n false)) → (x : ℕ) → k ≤ x → x < k + n → f x ≤ 1
counted_once f zero k bs e x h l = absurd (omega (arith, h, l))
counted_once f (suc n) k [] e x h l = cc
counted_once f (suc n) k (b ∷ bs) e x h l =
    let first : bit b ≡ 0 + f k = cc in
    let rest : map bit bs ≡ with_counts f (suc k) (map bit (replicate n false)) = cc in
    once_at f k x b h first (le_or_lt (suc k) x) (λ above. counted_once f n (suc k) bs rest x above (omega (arith, l)))

pub counted_twice : (f : ℕ → ℕ) (n k : ℕ) → HasTwo (with_counts f k (map bit (replicate n false))) → (x : ℕ) × (2 ≤ f x)
counted_twice f zero k h = absurd h
counted_twice f (suc n) k (inl h) = (k, omega (arith, h))
counted_twice f (suc n) k (inr h) = counted_twice f n (suc k) h
