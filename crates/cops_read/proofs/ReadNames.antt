-- The table in full and the names with arities that are cut off.
use Rattle.std.proofs.Common.{◌≡◌, ◌≤◌, ◌<◌, ◌^◌, ℕ, zero, suc, Bool, true, false, List, [], ◌∷◌, ◌++◌, length, All, refl, ap, sym, ◌∙◌, arith}
use Rattle.std.specs.Prelude.{option_map, slice_get, None, IsTrue}
use Rattle.std.specs.Bool.{OnTrue}
use Rattle.std.specs.List.{position_or_len}
use Rattle.std.proofs.lemmas.List.Elements.{All-head, All-tail}
use Rattle.cops_names.specs.NameTable.{NameTable, number_of}
use Rattle.cops_read.specs.ReadNames.{in_full, AreCut}
use Rattle.cops_read.proofs.Uses.{is_name}

pub lengths : (ss : List (List ℕ × ℕ)) (ns : List ℕ) → AreCut ss ns → length (in_full ss ns) ≡ length ss
lengths [] [] h = refl
lengths [] (n ∷ ns) h = absurd h
lengths (s ∷ ss) [] h = absurd h
lengths (s ∷ ss) (n ∷ ns) h = ap suc (lengths ss ns h.1)

places : (name : List ℕ) (ss : List (List ℕ × ℕ)) (ns : List ℕ) → AreCut ss ns → position_or_len (is_name name) (in_full ss ns) ≡ position_or_len (is_name name) ss
places name [] [] h = refl
places name [] (n ∷ ns) h = absurd h
places name (s ∷ ss) [] h = absurd h
places name (s ∷ ss) (n ∷ ns) h = rw (places name ss ns h.1) refl

pub numbers : (name : List ℕ) (ss : List (List ℕ × ℕ)) (ns : List ℕ) → AreCut ss ns → number_of (in_full ss ns) name ≡ number_of ss name
numbers name ss ns h = rw (places name ss ns h, lengths ss ns h) refl

pub arities : (ss : List (List ℕ × ℕ)) (ns : List ℕ) (i : ℕ) → AreCut ss ns → option_map (λ s. s.1) (slice_get (in_full ss ns) i) ≡ slice_get ns i
arities [] [] i h = refl
arities [] (n ∷ ns) i h = absurd h
arities (s ∷ ss) [] i h = absurd h
arities (s ∷ ss) (n ∷ ns) zero h = refl
arities (s ∷ ss) (n ∷ ns) (suc i) h = arities ss ns i h.1

pub put_last : (ss : List (List ℕ × ℕ)) (ns : List ℕ) (name : List ℕ) (m n : ℕ) → AreCut ss ns → in_full (ss ++ (name, m) ∷ []) (ns ++ n ∷ []) ≡ in_full ss ns ++ (name, n) ∷ []
put_last [] [] name m n h = refl
put_last [] (k ∷ ns) name m n h = absurd h
put_last (s ∷ ss) [] name m n h = absurd h
put_last (s ∷ ss) (k ∷ ns) name m n h = ap (λ (t : List (List ℕ × ℕ)). (s.0, k) ∷ t) (put_last ss ns name m n h.1)

pub still_cut : (ss : List (List ℕ × ℕ)) (ns : List ℕ) (name : List ℕ) (m n : ℕ) → AreCut ss ns → (n < 2 ^ 32 → m ≡ n) → AreCut (ss ++ (name, m) ∷ []) (ns ++ n ∷ [])
still_cut [] [] name m n h same = (same, tt)
still_cut [] (k ∷ ns) name m n h same = absurd h
still_cut (s ∷ ss) [] name m n h same = absurd h
still_cut (s ∷ ss) (k ∷ ns) name m n h same = (h.0, still_cut ss ns name m n h.1 same)

-- where no arity is beyond the limit, none was cut off
pub none_cut : (ss : List (List ℕ × ℕ)) (ns : List ℕ) → AreCut ss ns → All (λ s. s.1 ≤ 20) (in_full ss ns) → ss ≡ in_full ss ns
none_cut [] [] h few = refl
none_cut [] (n ∷ ns) h few = absurd h
none_cut (s ∷ ss) [] h few = absurd h
none_cut (s ∷ ss) (n ∷ ns) h few =
    let least = All-head (λ (e : List ℕ × ℕ). e.1 ≤ 20) (s.0, n) (in_full ss ns) few in
    let same : s.1 ≡ n = h.0 (omega (arith, least)) in
    ap (λ (m : ℕ). (s.0, m) ∷ ss) same
    ∙ ap (λ (t : List (List ℕ × ℕ)). (s.0, n) ∷ t) (none_cut ss ns h.1 (All-tail (λ (e : List ℕ × ℕ). e.1 ≤ 20) (s.0, n) (in_full ss ns) few))

on_true : (b : Bool) (P : Type 0) → IsTrue b → OnTrue b P → P
on_true true P h p = p
on_true false P h p = cc

-- a name that the table lacks was put last
pub added : (ss after table : List (List ℕ × ℕ)) (ns name : List ℕ) (m : ℕ) (b : Bool) → AreCut ss ns → in_full ss ns ≡ table → number_of table name ≡ None
    → (number_of ss name ≡ None → IsTrue b) → OnTrue b (after ≡ ss ++ (name, m) ∷ []) → after ≡ ss ++ (name, m) ∷ []
added ss after table ns name m b cut is absent truth last =
    on_true b (after ≡ ss ++ (name, m) ∷ []) (truth (sym (numbers name ss ns cut) ∙ ap (λ (t : List (List ℕ × ℕ)). number_of t name) is ∙ absent)) last

abbrev pub with_symbols : List (List (List ℕ)) → List (List ℕ × ℕ) → NameTable
with_symbols variables symbols = record { symbols = symbols; variables = variables }
