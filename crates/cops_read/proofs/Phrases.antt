-- Lists of phrases from a place on and up to it, and their identifiers.
use Rattle.std.proofs.Common.{◌≡◌, ℕ, zero, suc, ◌+◌, ◌<◌, ◌≤◌, true, false, List, [], ◌∷◌, ◌++◌, length, drop, map, get_or, Some, refl, sym, ap, ◌∙◌, arith, add-one, length-append}
use Rattle.std.proofs.lemmas.Option.{slice_get_read}
use Rattle.std.specs.Prelude.{slice_get}
use Rattle.file_text.specs.Syntax.{Phrase, Phrases, word, call, none, more, with_last, count, Node, flat, flat_all}
use Rattle.cops_read.specs.Walks.{nodes, all_nodes}

-- the first identifier of a phrase, and its arguments
abbrev pub head_of : Phrase → Node
head_of (word f) = record { name = f; brackets = false; arguments = 0 }
head_of (call f ts) = record { name = f; brackets = true; arguments = count ts }

abbrev pub arguments_of : Phrase → Phrases
arguments_of (word f) = none
arguments_of (call f ts) = ts

pub flat_is : (p : Phrase) → flat p ≡ head_of p ∷ flat_all (arguments_of p)
flat_is (word f) = refl
flat_is (call f ts) = refl

pub count_is : (p : Phrase) → (head_of p).arguments ≡ count (arguments_of p)
count_is (word f) = refl
count_is (call f ts) = refl

mutual
  pub flat_length : (p : Phrase) → length (flat p) ≡ nodes p
  flat_length (word f) = refl
  flat_length (call f ts) = ap suc (flat_all_length ts)

  pub flat_all_length : (ps : Phrases) → length (flat_all ps) ≡ all_nodes ps
  flat_all_length none = refl
  flat_all_length (more t ts) = let a = flat_length t in let b = flat_all_length ts in omega (arith, length-append (flat t) (flat_all ts))

-- the list without so many phrases, and these phrases
abbrev pub drop_phrases : ℕ → Phrases → Phrases
drop_phrases zero ps = ps
drop_phrases (suc i) none = none
drop_phrases (suc i) (more t ts) = drop_phrases i ts

abbrev pub take_phrases : ℕ → Phrases → Phrases
take_phrases zero ps = none
take_phrases (suc i) none = none
take_phrases (suc i) (more t ts) = more t (take_phrases i ts)

pub record IsNext (ps : Phrases) (i : ℕ) : Type 0 where
  pub phrase : Phrase
  pub later : drop_phrases i ps ≡ more phrase (drop_phrases (suc i) ps)
  pub front : take_phrases (suc i) ps ≡ with_last (take_phrases i ps) phrase

pub next_phrase : (ps : Phrases) (i : ℕ) → i < count ps → IsNext ps i
next_phrase none i l = absurd (omega arith)
next_phrase (more t ts) zero l = record { phrase = t; later = refl; front = refl }
next_phrase (more t ts) (suc i) l =
    let n = next_phrase ts i (omega arith) in
    record { phrase = n.phrase; later = n.later; front = ap (more t) n.front }

pub dropped_all : (ps : Phrases) (i : ℕ) → count ps ≤ i → drop_phrases i ps ≡ none
dropped_all none zero l = refl
dropped_all none (suc i) l = refl
dropped_all (more t ts) zero l = absurd (omega arith)
dropped_all (more t ts) (suc i) l = dropped_all ts i (omega arith)

pub taken_all : (ps : Phrases) (i : ℕ) → count ps ≤ i → take_phrases i ps ≡ ps
taken_all none zero l = refl
taken_all none (suc i) l = refl
taken_all (more t ts) zero l = absurd (omega arith)
taken_all (more t ts) (suc i) l = ap (more t) (taken_all ts i (omega arith))

-- identifiers of the program, from a place on
module _ {N : Type 0} (node : N → Node) where
  head_is : (ns : List N) (i : ℕ) (n : N) (p : Phrase) (rest : List Node) → slice_get ns i ≡ Some n → map node (drop i ns) ≡ flat p ++ rest → node n ≡ head_of p
  head_is [] i n p rest e h = cc
  head_is (m ∷ ns) zero n p rest e h =
      let h' : node m ∷ map node ns ≡ head_of p ∷ (flat_all (arguments_of p) ++ rest) = h ∙ ap (λ (xs : List Node). xs ++ rest) (flat_is p) in
      let same : m ≡ n = cc in
      ap node (sym same) ∙ (let first : node m ≡ head_of p = cc in first)
  head_is (m ∷ ns) (suc i) n p rest e h = head_is ns i n p rest e h

  behind_head : (ns : List N) (i : ℕ) (p : Phrase) (rest : List Node) → map node (drop i ns) ≡ flat p ++ rest → map node (drop (suc i) ns) ≡ flat_all (arguments_of p) ++ rest
  behind_head [] zero p rest h = absurd (let h' : [] ≡ head_of p ∷ (flat_all (arguments_of p) ++ rest) = h ∙ ap (λ (xs : List Node). xs ++ rest) (flat_is p) in cc)
  behind_head [] (suc i) p rest h = absurd (let h' : [] ≡ head_of p ∷ (flat_all (arguments_of p) ++ rest) = h ∙ ap (λ (xs : List Node). xs ++ rest) (flat_is p) in cc)
  behind_head (m ∷ ns) zero p rest h =
      let h' : node m ∷ map node ns ≡ head_of p ∷ (flat_all (arguments_of p) ++ rest) = h ∙ ap (λ (xs : List Node). xs ++ rest) (flat_is p) in
      let behind_it : map node ns ≡ flat_all (arguments_of p) ++ rest = cc in behind_it
  behind_head (m ∷ ns) (suc i) p rest h = behind_head ns i p rest h

  -- the identifier at a place is the first of the phrase
  pub here : (ns : List N) (i : ℕ) (n : N) (p : Phrase) (rest : List Node) → i < length ns → n ≡ get_or ns i n → map node (drop i ns) ≡ flat p ++ rest → node n ≡ head_of p
  here ns i n p rest l e h = head_is ns i n p rest (slice_get_read ns (length ns) i n refl l e) h

  pub later : (ns : List N) (i : ℕ) (p : Phrase) (rest : List Node) → map node (drop i ns) ≡ flat p ++ rest → map node (drop (i + 1) ns) ≡ flat_all (arguments_of p) ++ rest
  later ns i p rest h = rw add-one (behind_head ns i p rest h)

  -- behind a list of identifiers the rest follows
  pub behind : (ns : List N) (i : ℕ) (xs rest : List Node) → map node (drop i ns) ≡ xs ++ rest → map node (drop (i + length xs) ns) ≡ rest
  behind ns i [] rest h = rw (let e : i + 0 ≡ i = omega arith in e) h
  behind [] zero (x ∷ xs) rest h = cc
  behind [] (suc i) (x ∷ xs) rest h = cc
  behind (n ∷ ns) zero (x ∷ xs) rest h =
      let later : map node ns ≡ xs ++ rest = cc in
      let e : 0 + suc (length xs) ≡ suc (0 + length xs) = omega arith in
      rw e (behind ns 0 xs rest later)
  behind (n ∷ ns) (suc i) (x ∷ xs) rest h =
      let e : suc i + suc (length xs) ≡ suc (i + suc (length xs)) = omega arith in
      rw e (behind ns i (x ∷ xs) rest h)

  -- a phrase has a first identifier
  pub stands_within : (ns : List N) (i : ℕ) (p : Phrase) (rest : List Node) → map node (drop i ns) ≡ flat p ++ rest → i < length ns
  stands_within [] zero p rest h = absurd (let h' : [] ≡ head_of p ∷ (flat_all (arguments_of p) ++ rest) = h ∙ ap (λ (xs : List Node). xs ++ rest) (flat_is p) in cc)
  stands_within [] (suc i) p rest h = absurd (let h' : [] ≡ head_of p ∷ (flat_all (arguments_of p) ++ rest) = h ∙ ap (λ (xs : List Node). xs ++ rest) (flat_is p) in cc)
  stands_within (n ∷ ns) zero p rest h = omega arith
  stands_within (n ∷ ns) (suc i) p rest h = let l = stands_within ns i p rest h in omega (arith, l)
