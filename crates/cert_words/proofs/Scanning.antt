-- How far words are read at a place inside bytes.
use Rattle.cert_words.proofs.Prelude.{◌≡◌, ◌+◌, ◌<◌, ℕ, suc, List, ◌∷◌, Option, Some, None, option_map, length, drop, get_or, sym, ap, ◌∙◌, add-one, arith, drop-cons, Mode, Scan, scan}
use Rattle.cert_words.proofs.Prelude.{scan_next, next, mode_view, number_more, is_digit, Bool, true, false, if◌then◌else◌, [], refl}
use Rattle.cert_words.specs.declared.scans.Mode as code

-- behind so many bytes of the longest front that begins a word, with the rest of it
pub record ScansOn (begins : Mode) (bytes : List ℕ) (m : Mode) (at : ℕ) : Type 0 where
  pub size : (scan begins bytes).size ≡ at + (scan m (drop at bytes)).size
  pub mode : (scan begins bytes).mode ≡ (scan m (drop at bytes)).mode

-- with the byte here
here : (m : Mode) (bytes : List ℕ) (at : ℕ) (n : Option Mode) → at < length bytes → n ≡ next m (get_or bytes at 0) → scan m (drop at bytes) ≡ scan_next m n (λ k. scan k (drop (at + 1) bytes))
here m bytes at n h e = rw (add-one, drop-cons bytes at 0 h) (ap (λ (k : Option Mode). scan_next m k (λ j. scan j (drop (suc at) bytes))) (sym e))

-- no word goes on with the byte here
pub scan_stops : (begins m : Mode) (bytes : List ℕ) (at : ℕ) (r : Option code.Mode) → ScansOn begins bytes m at → at < length bytes
    → option_map mode_view r ≡ next m (get_or bytes at 0) → r ≡ None → (at ≡ (scan begins bytes).size) × (m ≡ (scan begins bytes).mode)
scan_stops begins m bytes at r s h e none =
    let it = here m bytes at None h (sym (ap (option_map mode_view) none) ∙ e) in
    let size : (scan m (drop at bytes)).size ≡ 0 = ap (λ (x : Scan). x.size) it in
    let mode : (scan m (drop at bytes)).mode ≡ m = ap (λ (x : Scan). x.mode) it in
    (omega (arith, size, s.size), sym (s.mode ∙ mode))

pub scan_goes_on : (begins m : Mode) (bytes : List ℕ) (at : ℕ) (r : Option code.Mode) (k : code.Mode) → ScansOn begins bytes m at → at < length bytes
    → option_map mode_view r ≡ next m (get_or bytes at 0) → r ≡ Some k → ScansOn begins bytes (mode_view k) (at + 1)
scan_goes_on begins m bytes at r k s h e some =
    let it = here m bytes at (Some (mode_view k)) h (sym (ap (option_map mode_view) some) ∙ e) in
    let size : (scan m (drop at bytes)).size ≡ suc (scan (mode_view k) (drop (at + 1) bytes)).size = ap (λ (x : Scan). x.size) it in
    let mode : (scan m (drop at bytes)).mode ≡ (scan (mode_view k) (drop (at + 1) bytes)).mode = ap (λ (x : Scan). x.mode) it in
    record { size = omega (arith, size, s.size); mode = s.mode ∙ mode }

-- digits go on as digits
pub digits_on : (bytes : List ℕ) → (scan number_more bytes).mode ≡ number_more
digits_on [] = refl
digits_on (b ∷ bs) = by (is_digit b) (digits_on bs)
  where
    by : (t : Bool) → (scan number_more bs).mode ≡ number_more → (scan_next number_more (if t then Some number_more else None) (λ n. scan n bs)).mode ≡ number_more
    by true e = e
    by false e = refl
