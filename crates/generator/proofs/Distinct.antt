-- The names of a generated system are distinct.
use Rattle.std.proofs.Common.{◌≡◌, ℕ, zero, suc, ◌+◌, ◌-◌, ◌*◌, ◌<◌, ◌≤◌, ◌^◌, Bool, true, false, cond, List, [], ◌∷◌, ◌++◌, drop, length, length-append, Some, None, refl, sym, ap}
use Rattle.std.proofs.Common.{subst, ◌∙◌, arith, append_assoc, codes, decimal}
use Rattle.std.specs.Prelude.{flat_map, is_some, if◌then◌else◌, replicate, map}
use Rattle.std.specs.List.{range_with_len, list_any, position_or_len}
use Rattle.std.specs.Prelude.{position, nat_lt}
use Rattle.std.specs.Fmt.{digits}
use Rattle.std.specs.Str.{bytes_eq}
use Rattle.std.specs.Str.Parse.{AllDigits}
use Rattle.std.proofs.lemmas.Bool.{false_from_ne_true, le-ltb}
use Rattle.std.proofs.lemmas.Fmt.{decimal_is_IsNumeral, decimal_injective}
use Rattle.std.proofs.lemmas.List.Folds.{list_any-append}
use Rattle.std.proofs.lemmas.Slice.Eq.{bytes_eq-Decides}
use Rattle.cops_names.specs.NameTable.{number_of}
use Rattle.cops_names.proofs.Lists.{or_len_of_none}
use Rattle.cops_read.proofs.Uses.{with_fresh}
use Rattle.generated_systems.specs.Generated.{p_name, f_name, symbols_for, variables_for, generated_names, arities}
use Rattle.cops_read.specs.Meaning.{with_symbol}
use Rattle.generator.proofs.Ranges.{one_number_more}

none_passes : {A : Type 0} (p : A → Bool) (xs : List A) → list_any p xs ≡ false → position p xs ≡ None
none_passes p xs h =
    ap (λ (m : ℕ). cond (nat_lt m (length xs)) (Some (position_or_len p xs)) None) (or_len_of_none p xs h)
    ∙ ap (λ (b : Bool). cond b (Some (position_or_len p xs)) None) (le-ltb (length xs) (length xs) (omega arith))

-- whether a symbol has the name
abbrev has : List ℕ → List (List ℕ × ℕ) → Bool
has name symbols = list_any (λ s. bytes_eq name s.0) symbols

lacks : (symbols : List (List ℕ × ℕ)) (name : List ℕ) → has name symbols ≡ false → number_of symbols name ≡ None
lacks symbols name h = none_passes (λ (s : List ℕ × ℕ). bytes_eq name s.0) symbols h

differs : (xs ys : List ℕ) → (xs ≡ ys → ⊥) → bytes_eq xs ys ≡ false
differs xs ys h = false_from_ne_true (bytes_eq xs ys) (λ e. h ((bytes_eq-Decides xs ys).0 e))

small : (n : ℕ) → n < 200 → suc n < 2 ^ 64
small n h = omega arith

same_number : (j k : ℕ) → j < 200 → k < 200 → decimal (suc j) ≡ decimal (suc k) → j ≡ k
same_number j k g h e = let s = decimal_injective (suc j) (suc k) (small j g) (small k h) e in omega arith

p_names_differ : (j k : ℕ) → j < k → k < 200 → bytes_eq (p_name k) (p_name j) ≡ false
p_names_differ j k l h = differs (p_name k) (p_name j) (λ e.
    let tails : decimal (suc k) ≡ decimal (suc j) = ap (drop 1) e in let s = same_number k j h (omega arith) tails in omega arith)

f_names_differ : (j k : ℕ) → j < k → k < 200 → bytes_eq (f_name k) (f_name j) ≡ false
f_names_differ j k l h = differs (f_name k) (f_name j) (λ e.
    let tails : decimal (suc k) ≡ decimal (suc j) = ap (drop 1) e in let s = same_number k j h (omega arith) tails in omega arith)

first_p : p_name 0 ≡ codes "p1"
unfolding digits
first_p = refl

first_f : f_name 0 ≡ codes "f1"
unfolding digits
first_f = refl

not_first_p : (k : ℕ) → 1 ≤ k → k < 200 → bytes_eq (p_name k) (codes "p1") ≡ false
not_first_p k g h = subst (λ (name : List ℕ). bytes_eq (p_name k) name ≡ false) first_p (p_names_differ 0 k (omega arith) h)

not_first_f : (k : ℕ) → 1 ≤ k → k < 200 → bytes_eq (f_name k) (codes "f1") ≡ false
not_first_f k g h = subst (λ (name : List ℕ). bytes_eq (f_name k) name ≡ false) first_f (f_names_differ 0 k (omega arith) h)

not_false : (k : ℕ) → k < 200 → bytes_eq (f_name k) (codes "false") ≡ false
not_false k h = differs (f_name k) (codes "false") (λ e.
    let tails : decimal (suc k) ≡ codes "alse" = ap (drop 1) e in
    let digits = subst (AllDigits 10) tails (decimal_is_IsNumeral (suc k) (small k h)).0.1 in
    omega (arith, digits.0))

-- the names for k are none of those for the m numbers from a on
p_among : (k a m : ℕ) → a + m ≤ k → k < 200 → has (p_name k) (flat_map symbols_for (range_with_len a m)) ≡ false
p_among k a zero h l = refl
p_among k a (suc m) h l = rw (p_names_differ a k (omega arith) l) (p_among k (a + 1) m (omega arith) l)

f_among : (k a m : ℕ) → a + m ≤ k → k < 200 → has (f_name k) (flat_map symbols_for (range_with_len a m)) ≡ false
f_among k a zero h l = refl
f_among k a (suc m) h l = rw (f_names_differ a k (omega arith) l) (f_among k (a + 1) m (omega arith) l)

pub p_is_new : (k : ℕ) → 1 ≤ k → k < 200 → number_of (generated_names k).symbols (p_name k) ≡ None
p_is_new k g h = lacks (generated_names k).symbols (p_name k) (rw (not_first_p k g h) (p_among k 1 (k - 1) (omega arith) h))

pub f_is_new : (k : ℕ) → 1 ≤ k → k < 200 → number_of ((generated_names k).symbols ++ (p_name k, 1) ∷ []) (f_name k) ≡ None
f_is_new k g h = lacks ((generated_names k).symbols ++ (p_name k, 1) ∷ []) (f_name k)
    (list_any-append (λ (s : List ℕ × ℕ). bytes_eq (f_name k) s.0) (generated_names k).symbols ((p_name k, 1) ∷ [])
    ∙ rw (not_false k h, not_first_f k g h, f_among k 1 (k - 1) (omega arith) h) refl)

-- the symbols of the system behind the one with number k
pub next_symbols : (k : ℕ) → 1 ≤ k → (generated_names k).symbols ++ symbols_for k ≡ (generated_names (suc k)).symbols
next_symbols k g =
    ap (λ (xs : List (List ℕ × ℕ)). (generated_names 1).symbols ++ xs) (sym (one_number_more symbols_for 1 (k - 1) k (suc k - 1) (omega arith) (omega arith)))

two_added : (k : ℕ) → 1 ≤ k → k < 200 → with_symbol (with_symbol (generated_names k).symbols (p_name k) 1) (f_name k) 1 ≡ (generated_names (suc k)).symbols
two_added k g h =
    ap (λ (xs : List (List ℕ × ℕ)). with_symbol xs (f_name k) 1) (with_fresh (generated_names k).symbols (p_name k) 1 (p_is_new k g h))
    ∙ with_fresh ((generated_names k).symbols ++ (p_name k, 1) ∷ []) (f_name k) 1 (f_is_new k g h)
    ∙ append_assoc (generated_names k).symbols ((p_name k, 1) ∷ []) ((f_name k, 1) ∷ [])
    ∙ next_symbols k g

pub added_symbols : (k number : ℕ) (p f : List ℕ) (old one both : List (List ℕ × ℕ)) → 1 ≤ k → k < 200 → number ≡ suc k → p ≡ codes "p" ++ decimal number → f ≡ codes "f" ++ decimal number
    → old ≡ (generated_names k).symbols → one ≡ with_symbol old p 1 → both ≡ with_symbol one f 1 → both ≡ (generated_names (suc k)).symbols
added_symbols k number p f old one both g h n pn fn o e1 e2 =
    let p_is : p ≡ p_name k = pn ∙ ap (λ (i : ℕ). codes "p" ++ decimal i) n in
    let f_is : f ≡ f_name k = fn ∙ ap (λ (i : ℕ). codes "f" ++ decimal i) n in
    e2 ∙ ap (λ (xs : List (List ℕ × ℕ)). with_symbol xs f 1) (e1 ∙ ap (λ (xs : List (List ℕ × ℕ)). with_symbol xs p 1) o ∙ ap (λ (name : List ℕ). with_symbol (generated_names k).symbols name 1) p_is)
    ∙ ap (λ (name : List ℕ). with_symbol (with_symbol (generated_names k).symbols (p_name k) 1) name 1) f_is
    ∙ two_added k g h

pairs : (a m : ℕ) → length (flat_map symbols_for (range_with_len a m)) ≡ 2 * m
pairs a zero = refl
pairs a (suc m) = let h = pairs (a + 1) m in omega arith

pub symbol_count : (k : ℕ) → 1 ≤ k → length (generated_names k).symbols ≡ 4 + 2 * k
symbol_count k g = let h = pairs 1 (k - 1) in omega arith

pub with_one_more : (symbols : List (List ℕ × ℕ)) (name : List ℕ) (arity : ℕ) → length (with_symbol symbols name arity) ≤ length symbols + 1
with_one_more symbols name arity = by (is_some (number_of symbols name))
  where
    by : (b : Bool) → length (if b then symbols else (symbols ++ (name, arity) ∷ [])) ≤ length symbols + 1
    by true = omega arith
    by false = omega (arith, length-append symbols ((name, arity) ∷ []))

ones : (a m : ℕ) → map (λ s. s.1) (flat_map symbols_for (range_with_len a m)) ≡ replicate (2 * m) 1
ones a zero = refl
ones a (suc m) =
    let two : suc (suc (2 * m)) ≡ 2 * suc m = omega arith in
    ap (λ (xs : List ℕ). 1 ∷ 1 ∷ xs) (ones (a + 1) m) ∙ ap (λ (i : ℕ). replicate i 1) two

pub arities_are : (n : ℕ) → map (λ s. s.1) (generated_names n).symbols ≡ arities n
arities_are n = ap (λ (xs : List ℕ). 1 ∷ 0 ∷ 0 ∷ 1 ∷ 0 ∷ 1 ∷ xs) (ones 1 (n - 1))

pub variable_count : (a m : ℕ) → length (flat_map variables_for (range_with_len a m)) ≡ 4 * m
variable_count a zero = refl
variable_count a (suc m) = let h = variable_count (a + 1) m in omega arith
