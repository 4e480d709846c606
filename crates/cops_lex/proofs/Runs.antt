-- Longest runs and comments, as a loop goes over them.
use Rattle.std.proofs.Common.{◌≡◌, ℕ, suc, ◌+◌, ◌<◌, ◌≤◌, Bool, true, false, cond, eqb, List, length, drop, get_or, Option, Some, None, option_map, refl, sym, ap, ◌∙◌, ◌&&◌, ◌||◌, not, arith}
use Rattle.std.proofs.Math.ListN.{drop_of_length-le}
use Rattle.std.proofs.lemmas.Bool.{eqb-true, false_from_ne_true, or_right}
use Rattle.std.proofs.lemmas.List.{drop_more}
use Rattle.file_text.specs.Bytes.{is_white, is_id, begins_arrow, begins_equal, white_len, run_len, count_after, closing_len, comment_len}

pub white_more : (bytes : List ℕ) (n : ℕ) → n < length bytes → is_white (get_or bytes n 0) ≡ true → white_len (drop n bytes) ≡ suc (white_len (drop (n + 1) bytes))
unfolding white_len
white_more bytes n lt w = ap white_len (drop_more bytes n 0 lt) ∙ ap (λ (b : Bool). cond b (suc (white_len (drop (n + 1) bytes))) 0) w

pub white_stops : (bytes : List ℕ) (n : ℕ) → n < length bytes → is_white (get_or bytes n 0) ≡ false → white_len (drop n bytes) ≡ 0
unfolding white_len
white_stops bytes n lt w = ap white_len (drop_more bytes n 0 lt) ∙ ap (λ (b : Bool). cond b (suc (white_len (drop (n + 1) bytes))) 0) w

pub white_end : (bytes : List ℕ) (n : ℕ) → length bytes ≤ n → white_len (drop n bytes) ≡ 0
unfolding white_len
white_end bytes n le = ap white_len (drop_of_length-le bytes le)

-- the run at a place goes on there, by three tests
abbrev goes_on : List ℕ → ℕ → Bool → Bool → Bool → ℕ
goes_on bytes n i a e = cond (i && not (a || e)) (suc (run_len (drop (n + 1) bytes))) 0

run_here : (bytes : List ℕ) (n : ℕ) → n < length bytes → run_len (drop n bytes) ≡ goes_on bytes n (is_id (get_or bytes n 0)) (begins_arrow (drop n bytes)) (begins_equal (drop n bytes))
unfolding run_len
run_here bytes n lt =
    let here = drop_more bytes n 0 lt in
    ap run_len here ∙ ap (λ (bs : List ℕ). goes_on bytes n (is_id (get_or bytes n 0)) (begins_arrow bs) (begins_equal bs)) (sym here)

pub run_more : (bytes : List ℕ) (n : ℕ) → n < length bytes → is_id (get_or bytes n 0) ≡ true → begins_arrow (drop n bytes) ≡ false → begins_equal (drop n bytes) ≡ false
    → run_len (drop n bytes) ≡ suc (run_len (drop (n + 1) bytes))
run_more bytes n lt i a e = run_here bytes n lt ∙ rw (i, a, e) refl

pub run_stops_byte : (bytes : List ℕ) (n : ℕ) → n < length bytes → is_id (get_or bytes n 0) ≡ false → run_len (drop n bytes) ≡ 0
run_stops_byte bytes n lt i = run_here bytes n lt ∙ rw i refl

stopped : (bytes : List ℕ) (n : ℕ) (i a e : Bool) → (a || e) ≡ true → goes_on bytes n i a e ≡ 0
stopped bytes n true a e s = rw s refl
stopped bytes n false a e s = refl

pub run_stops_arrow : (bytes : List ℕ) (n : ℕ) → n < length bytes → begins_arrow (drop n bytes) ≡ true → run_len (drop n bytes) ≡ 0
run_stops_arrow bytes n lt a =
    run_here bytes n lt
    ∙ stopped bytes n (is_id (get_or bytes n 0)) (begins_arrow (drop n bytes)) (begins_equal (drop n bytes)) (ap (λ (b : Bool). b || begins_equal (drop n bytes)) a)

pub run_stops_equal : (bytes : List ℕ) (n : ℕ) → n < length bytes → begins_equal (drop n bytes) ≡ true → run_len (drop n bytes) ≡ 0
run_stops_equal bytes n lt e =
    run_here bytes n lt
    ∙ stopped bytes n (is_id (get_or bytes n 0)) (begins_arrow (drop n bytes)) (begins_equal (drop n bytes)) (or_right (begins_arrow (drop n bytes)) (begins_equal (drop n bytes)) e)

pub run_end : (bytes : List ℕ) (n : ℕ) → length bytes ≤ n → run_len (drop n bytes) ≡ 0
unfolding run_len
run_end bytes n le = ap run_len (drop_of_length-le bytes le)

-- a length counted from a place
abbrev from_place : ℕ → Option ℕ → Option ℕ
from_place n o = option_map (λ k. n + k) o

moved : (n : ℕ) (o : Option ℕ) → from_place n (option_map (λ k. suc k) o) ≡ from_place (n + 1) o
moved n None = refl
moved n (Some k) = let e : n + suc k ≡ n + 1 + k = omega arith in ap (λ m. Some m) e

pub comment_start : (bytes : List ℕ) → option_map (λ k. 0 + k) (closing_len 0 bytes) ≡ comment_len bytes
comment_start bytes = go (closing_len 0 bytes)
  where
    go : (o : Option ℕ) → from_place 0 o ≡ o
    go None = refl
    go (Some k) = let e : 0 + k ≡ k = omega arith in ap (λ m. Some m) e

abbrev choice : Bool → ℕ → List ℕ → Option ℕ
choice b count bs = cond b (Some 1) (option_map (λ k. suc k) (closing_len count bs))

closing_here : (bytes : List ℕ) (n count : ℕ) → n < length bytes
    → closing_len count (drop n bytes) ≡ choice (eqb (count_after count (get_or bytes n 0)) 0) (count_after count (get_or bytes n 0)) (drop (n + 1) bytes)
unfolding closing_len
closing_here bytes n count lt = ap (closing_len count) (drop_more bytes n 0 lt)

pub comment_more : (bytes : List ℕ) (n count m : ℕ) → n < length bytes → m ≡ count_after count (get_or bytes n 0) → (m ≡ 0 → ⊥)
    → option_map (λ k. n + 1 + k) (closing_len m (drop (n + 1) bytes)) ≡ option_map (λ k. n + k) (closing_len count (drop n bytes))
comment_more bytes n count m lt e more =
    let none : eqb (count_after count (get_or bytes n 0)) 0 ≡ false = ap (λ k. eqb k 0) (sym e) ∙ false_from_ne_true (eqb m 0) (λ h. more (eqb-true m 0 h)) in
    let here : from_place n (closing_len count (drop n bytes)) ≡ from_place (n + 1) (closing_len (count_after count (get_or bytes n 0)) (drop (n + 1) bytes)) =
    ap (from_place n) (closing_here bytes n count lt)
    ∙ ap (λ (b : Bool). from_place n (choice b (count_after count (get_or bytes n 0)) (drop (n + 1) bytes))) none
    ∙ moved n (closing_len (count_after count (get_or bytes n 0)) (drop (n + 1) bytes)) in
    ap (λ k. from_place (n + 1) (closing_len k (drop (n + 1) bytes))) e ∙ sym here

pub comment_ends : (bytes : List ℕ) (n count m : ℕ) → n < length bytes → m ≡ count_after count (get_or bytes n 0) → m ≡ 0
    → Some (n + 1) ≡ option_map (λ k. n + k) (closing_len count (drop n bytes))
comment_ends bytes n count m lt e z =
    let none : eqb (count_after count (get_or bytes n 0)) 0 ≡ true = ap (λ k. eqb k 0) (sym e ∙ z) in
    sym (ap (from_place n) (closing_here bytes n count lt)
    ∙ ap (λ (b : Bool). from_place n (choice b (count_after count (get_or bytes n 0)) (drop (n + 1) bytes))) none)

pub comment_never : (bytes : List ℕ) (n count : ℕ) → length bytes ≤ n → None ≡ option_map (λ k. n + k) (closing_len count (drop n bytes))
unfolding closing_len
comment_never bytes n count le = ap (λ (bs : List ℕ). from_place n (closing_len count bs)) (sym (drop_of_length-le bytes le))
