-- The certificate has a text that is not too long: it has no automata, and an entry has at most 40 bytes.
use Rattle.std.proofs.Common.{ℕ, zero, suc, ◌≡◌, ◌+◌, ◌*◌, ◌<◌, ◌≤◌, List, [], ◌++◌, map, length, decimal, codes, refl, sym, subst, length-append, arith}
use Rattle.std.specs.List.{range_with_len}
use Rattle.std.proofs.lemmas.Fmt.{length-decimal-le}
use Rattle.std.proofs.lemmas.List.FromFn.{length-map-range_with_len}
use Rattle.certificates.specs.Prelude.{Automaton, PairEntry}
use Rattle.cops_names.specs.NameTable.{NameTable}
use Rattle.cert_grammar.specs.Prelude.{second_version, Uses, by_number, used_by_pairs, evidence_text, pairs_text, ArePairs, with_new, number_in, unfolded_length, heading_text, body_text}
use Rattle.cert_grammar.specs.Prelude.{certificate_text, IsShared}
use Rattle.search_spaces.specs.Texts.{most_bytes}
use Rattle.search_spaces.specs.Entries.{entry_for}
use Rattle.generated_systems.specs.Certificate.{overlap_for, conflict, generated_entries, generated_certificate}
use Rattle.generated_systems.specs.Laws.{CertificatesHaveTexts}

abbrev entry : ℕ → PairEntry
entry k = entry_for (overlap_for k) conflict

can_be_spelt : (names : NameTable) (a m : ℕ) → a + m ≤ 20000 → ArePairs names (map entry (range_with_len a m))
can_be_spelt names a zero l = tt
can_be_spelt names a (suc m) l = (omega (arith, l), tt, omega (arith, l), (omega arith, omega arith), can_be_spelt names (a + 1) m (omega (arith, l)))

-- how long two lists in a row are, a word before a list, a number before a list
record HasAtMost (n : ℕ) (bytes : List ℕ) : Type 0 where
  bound : length bytes ≤ n

both : (a b : ℕ) (xs ys : List ℕ) → HasAtMost a xs → HasAtMost b ys → HasAtMost (a + b) (xs ++ ys)
both a b xs ys h k = let e = length-append xs ys in let first = h.bound in let second = k.bound in record { bound = omega (arith, e, first, second) }

word : (a b : ℕ) (xs ys : List ℕ) → length xs ≡ a → HasAtMost b ys → HasAtMost (a + b) (xs ++ ys)
word a b xs ys h k = both a b xs ys (record { bound = omega (arith, h) }) k

number : (n b : ℕ) (ys : List ℕ) → n < 100000 → HasAtMost b ys → HasAtMost (5 + b) (decimal n ++ ys)
number n b ys l k = both 5 b (decimal n) ys (record { bound = length-decimal-le 5 n (omega arith) l (omega (arith, l)) }) k

nothing : HasAtMost 0 []
nothing = record { bound = omega arith }

conflict_length : (names : NameTable) (uses : Uses) → HasAtMost 21 (evidence_text names uses conflict)
conflict_length names uses = word 9 12 (codes "conflict ") _ refl (number 1 7 _ (omega arith) (word 1 6 (codes " ") _ refl (number 1 1 _ (omega arith) (word 1 0 (codes "\n") [] refl nothing))))

entry_length : (names : NameTable) (uses : Uses) (k : ℕ) → k < 20000
    → HasAtMost 40 (codes "pair " ++ (decimal (4 * k + 3) ++ (codes " " ++ (codes "e" ++ (codes " " ++ (decimal (4 * k + 4) ++ (codes " " ++ evidence_text names uses conflict)))))))
entry_length names uses k l =
    word 5 35 (codes "pair ") _ refl (number (4 * k + 3) 30 _ (omega (arith, l)) (word 1 29 (codes " ") _ refl (word 1 28 (codes "e") _ refl
    (word 1 27 (codes " ") _ refl (number (4 * k + 4) 22 _ (omega (arith, l)) (word 1 21 (codes " ") _ refl (conflict_length names uses)))))))

pairs_length : (names : NameTable) (uses : Uses) (a m : ℕ) → a + m ≤ 20000 → HasAtMost (40 * m) (pairs_text names uses (map entry (range_with_len a m)))
pairs_length names uses a zero l = nothing
pairs_length names uses a (suc m) l =
    let number_of : 40 + 40 * m ≡ 40 * suc m = omega arith in
    subst (λ n. HasAtMost n (pairs_text names uses (map entry (range_with_len a (suc m))))) number_of
    (both 40 (40 * m) _ (pairs_text names uses (map entry (range_with_len (a + 1) m))) (entry_length names uses a (omega (arith, l))) (pairs_length names uses (a + 1) m (omega (arith, l))))

-- no entry uses an automaton
no_uses : (a m : ℕ) → used_by_pairs (map entry (range_with_len a m)) ≡ []
no_uses a zero = refl
no_uses a (suc m) = no_uses (a + 1) m

-- the text, if these automata are used
abbrev text_over : NameTable → ℕ → List Automaton → List ℕ
text_over names n us = heading_text second_version names (with_new names [] us) ++ (body_text names (by_number (number_in names (with_new names [] us))) (generated_certificate n) ++ codes "end\n")

heading_length : (names : NameTable) → HasAtMost 22 (heading_text second_version names [])
heading_length names = word 16 6 (codes "concon 2\nshared ") _ refl (number 0 1 _ (omega arith) (word 1 0 (codes "\n") [] refl nothing))

text_length : (names : NameTable) (n : ℕ) → n ≤ 20000 → HasAtMost (22 + ((6 + 40 * n) + 4)) (text_over names n [])
text_length names n few =
    both 22 _ (heading_text second_version names []) _ (heading_length names)
    (both (6 + 40 * n) 4 _ (codes "end\n") (word 6 _ (codes "ortho\n") _ refl (pairs_length names (by_number (number_in names [])) 0 n (omega (arith, few))))
    (word 4 0 (codes "end\n") [] refl nothing))

whole_length : (names : NameTable) (n : ℕ) → n ≤ 20000 → HasAtMost (22 + ((6 + 40 * n) + 4)) (certificate_text second_version names (generated_certificate n))
whole_length names n few = subst (λ (us : List Automaton). HasAtMost (22 + ((6 + 40 * n) + 4)) (text_over names n us)) (sym (no_uses 0 n)) (text_length names n few)

pub have_texts : CertificatesHaveTexts
have_texts names n few = ((tt, (length_few, can_be_spelt names 0 n (omega (arith, few))), shared), short)
  where
    length_few : length (generated_entries n) ≤ 20000
    length_few = (let e = length-map-range_with_len entry 0 n in omega (arith, e, few))

    shared : IsShared second_version names (generated_certificate n)
    shared = subst (λ (us : List Automaton). (length (with_new names [] us) ≤ 1000) × (unfolded_length names us ≤ 67108864)) (sym (no_uses 0 n)) (omega arith, omega arith)

    short : length (certificate_text second_version names (generated_certificate n)) ≤ most_bytes
    short = (let whole = (whole_length names n few).bound in omega (arith, whole, few))
