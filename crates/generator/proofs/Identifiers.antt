-- The names of a generated system are identifiers of a text.
use Rattle.std.proofs.Common.{◌⊎◌, inl, inr, eqb, false, ◌≡◌, ℕ, zero, suc, ◌+◌, ◌<◌, ◌≤◌, Bool, true, List, [], ◌∷◌, length, refl, ap, ◌∙◌, arith, codes, decimal, lt-ltb, ne_eqb}
use Rattle.std.specs.Prelude.{flat_map, ◌&&◌, ◌||◌, not, if◌then◌else◌}
use Rattle.std.specs.Int.{IsInRange}
use Rattle.std.specs.List.{range_with_len}
use Rattle.std.specs.Str.Parse.{AllDigits}
use Rattle.std.proofs.lemmas.Fmt.{decimal_is_IsNumeral, length-decimal-le}
use Rattle.std.proofs.lemmas.Str.Parse.{digit_from_value}
use Rattle.file_text.specs.Bytes.{is_id, begins_arrow, begins_equal, run_len}
use Rattle.file_text.proofs.Names.{IsName}
use Rattle.cops_write.proofs.Trees.{HasNames, RulesHaveNames}
use Rattle.generated_systems.specs.Generated.{p_name, f_name}
use Rattle.generator.proofs.Trees.{next_tree, trees_for}

module _ (d : ℕ) (h : IsInRange 48 57 d) where
  is_no : (b : ℕ) → b < 48 ⊎ 57 < b → eqb d b ≡ false
  is_no b o = ne_eqb d b (λ e. by o e)
    where
      by : b < 48 ⊎ 57 < b → d ≡ b → ⊥
      by (inl l) e = omega (arith, h.0)
      by (inr l) e = omega (arith, h.1)

  digit_is_id : is_id d ≡ true
  digit_is_id =
      rw (
        lt-ltb 32 d (omega (arith, h.0)),
        lt-ltb d 127 (omega (arith, h.1)),
        is_no 40 (inl (omega arith)),
        is_no 41 (inl (omega arith)),
        is_no 44 (inl (omega arith)),
        is_no 124 (inr (omega arith)),
        is_no 34 (inl (omega arith)),
        is_no 92 (inr (omega arith)),
      )
      refl

  no_sign : (ds : List ℕ) → (begins_arrow (d ∷ ds) || begins_equal (d ∷ ds)) ≡ false
  no_sign [] = refl
  no_sign (e ∷ ds) = rw (is_no 45 (inl (omega arith)), is_no 61 (inr (omega arith))) refl

  goes_on : (ds : List ℕ) → (is_id d && not (begins_arrow (d ∷ ds) || begins_equal (d ∷ ds))) ≡ true
  goes_on ds = rw (digit_is_id, no_sign ds) refl

digits_run : (ds : List ℕ) → AllDigits 10 ds → run_len ds ≡ length ds
unfolding run_len
digits_run [] h = refl
digits_run (d ∷ ds) h = ap (λ (b : Bool). if b then suc (run_len ds) else 0) (goes_on d (digit_from_value d h.0) ds) ∙ ap suc (digits_run ds h.1)

p_runs : (ds : List ℕ) → run_len (112 ∷ ds) ≡ suc (run_len ds)
unfolding run_len
p_runs [] = refl
p_runs (d ∷ ds) = refl

f_runs : (ds : List ℕ) → run_len (102 ∷ ds) ≡ suc (run_len ds)
unfolding run_len
f_runs [] = refl
f_runs (d ∷ ds) = refl

-- a number of a system is short
pub few_digits : (k : ℕ) → k < 200 → length (decimal (suc k)) ≤ 3
few_digits k h = length-decimal-le 3 (suc k) (omega arith) (omega arith) (omega arith)

number_runs : (k : ℕ) → k < 200 → run_len (decimal (suc k)) ≡ length (decimal (suc k))
number_runs k h = digits_run (decimal (suc k)) (decimal_is_IsNumeral (suc k) (omega arith)).0.1

p_is_name : (k : ℕ) → k < 200 → IsName (p_name k)
p_is_name k h = record { some = omega arith; whole = p_runs (decimal (suc k)) ∙ ap suc (number_runs k h); short = let l = few_digits k h in omega arith }

f_is_name : (k : ℕ) → k < 200 → IsName (f_name k)
f_is_name k h = record { some = omega arith; whole = f_runs (decimal (suc k)) ∙ ap suc (number_runs k h); short = let l = few_digits k h in omega arith }

z_is_name : IsName (codes "z")
unfolding run_len
z_is_name = record { some = omega arith; whole = refl; short = omega arith }

true_is_name : IsName (codes "true")
unfolding run_len
true_is_name = record { some = omega arith; whole = refl; short = omega arith }

s_is_name : IsName (codes "s")
unfolding run_len
s_is_name = record { some = omega arith; whole = refl; short = omega arith }

false_is_name : IsName (codes "false")
unfolding run_len
false_is_name = record { some = omega arith; whole = refl; short = omega arith }

x_is_name : IsName (codes "x")
unfolding run_len
x_is_name = record { some = omega arith; whole = refl; short = omega arith }

next_has_names : (k : ℕ) → k < 200 → HasNames (next_tree k)
next_has_names zero h = (s_is_name, (x_is_name, tt))
next_has_names (suc k) h = (f_is_name k (omega arith), (x_is_name, tt))

pub have_names : (a m : ℕ) → a + m ≤ 200 → RulesHaveNames (flat_map trees_for (range_with_len a m))
have_names a zero l = tt
have_names a (suc m) l =
    let p = p_is_name a (omega arith) in
    let f = f_is_name a (omega arith) in
    let next = next_has_names a (omega arith) in (
      (p, (z_is_name, tt)),
      true_is_name,
      tt,
      (
        (p, ((s_is_name, (x_is_name, tt)), tt)),
        false_is_name,
        tt,
        (
          (f, (x_is_name, tt)),
          x_is_name,
          (tt, ((p, (x_is_name, tt)), true_is_name, tt)),
          (
            (f, (x_is_name, tt)),
            next,
            (tt, ((p, (x_is_name, tt)), false_is_name, tt)),
            have_names (a + 1) m (omega arith),
          ),
        ),
      ),
    )
