-- Shared automata and their texts, each once.
use Rattle.std.proofs.Common.{◌≡◌, ◌<◌, ◌+◌, ℕ, suc, Bool, true, false, not, cond, List, [], ◌∷◌, ◌++◌, length, min, get_or, drop, map, decimal, codes, Some, None, refl, sym, ap}
use Rattle.std.proofs.Common.{◌∙◌, arith, nat_lt, add-one, drop-cons, length-append}
use Rattle.std.proofs.lemmas.Bool.{ltb-false}
use Rattle.std.specs.Prelude.{if◌then◌else◌, position}
use Rattle.std.specs.Global.{Vec}
use Rattle.std.specs.List.{list_any, position_or_len}
use Rattle.std.specs.Str.{bytes_eq}
use Rattle.std.proofs.lemmas.List.Sums.{prefix_len-le-length}
use Rattle.std.proofs.lemmas.List.{length-map}
use Rattle.certificates.specs.Prelude.{Automaton, Certificate}
use Rattle.cops_names.specs.NameTable.{NameTable}
use Rattle.cert_grammar.specs.Prelude.{automaton_text, is_among, place_among, texts_of, with_new, shared_by, unfolded_length, second_version, by_number, automata_text, body_text}
use Rattle.cert_grammar.specs.Prelude.{certificate_text}
use Rattle.cert_shares.proofs.Ends.{same_eq, any_among, texts_if}
use Rattle.cert_writing.specs.Written.{greatest, IsCounted}
use Rattle.cert_writing.specs.SharedAutomata.{with_text, with_texts, joined}

-- ---- texts in place of automata

pub new_texts : (names : NameTable) (old automata : List Automaton) → texts_of names (with_new names old automata) ≡ with_texts (texts_of names old) (texts_of names automata)
new_texts names old [] = refl
new_texts names old (a ∷ others) =
    new_texts names (if is_among t (texts_of names old) then old else (old ++ a ∷ [])) others
    ∙ ap (λ (ts : List (List ℕ)). with_texts ts (texts_of names others)) (texts_if (automaton_text names) (is_among t (texts_of names old)) old a)
  where
    t : List ℕ
    t = automaton_text names a

pub joined_texts : (names : NameTable) (automata : List Automaton) → automata_text names automata ≡ joined (texts_of names automata)
joined_texts names [] = refl
joined_texts names (a ∷ others) = ap (λ (ts : List ℕ). automaton_text names a ++ ts) (joined_texts names others)

pub unfolded_is : (names : NameTable) (automata : List Automaton) → length (automata_text names automata) ≡ unfolded_length names automata
unfolded_is names [] = refl
unfolded_is names (a ∷ others) = let t = automaton_text names a in let u = automata_text names others in let e = unfolded_is names others in omega (arith, length-append t u, e)

-- a count from nothing
pub counted_all : (text : List ℕ) (count : ℕ) (refused : Bool) → IsCounted 0 false text count refused → refused ≡ false → count ≡ min (length text) greatest
counted_all text count refused h f = (h f).1 (omega arith) ∙ ap (λ (n : ℕ). min n greatest) (let e : 0 + length text ≡ length text = omega arith in e)

-- ---- the code's list of texts

-- the text of the next automaton
pub texts_next : {A : Type 0} (all : List A → List (List ℕ)) (text : A → List ℕ) → ((x : A) (xs : List A) → all (x ∷ xs) ≡ text x ∷ all xs)
    → (now after : List (List ℕ)) (xs : List A) (i : ℕ) (x : A) → i < length xs → x ≡ get_or xs i x → after ≡ with_text now (text x) → with_texts after (all (drop (i + 1) xs))
    ≡ with_texts now (all (drop i xs))
texts_next {A} all text unfolds now after xs i x lt is e =
    let y = get_or xs i x in
    let shown : all (drop i xs) ≡ text x ∷ all (drop (i + 1) xs) = rw add-one (ap all (drop-cons xs i x lt) ∙ unfolds y (drop (suc i) xs) ∙ ap (λ (z : A). text z ∷ all (drop (suc i) xs)) (sym is)) in
    ap (λ (w : List (List ℕ)). with_texts w (all (drop (i + 1) xs))) e ∙ ap (with_texts now) (sym shown)

abbrev pub texts : List (Vec ℕ) → List (List ℕ)
texts ks = map (λ v. v.items) ks

abbrev is_text : List ℕ → Vec ℕ → Bool
is_text t v = bytes_eq t v.items

-- a text that is put into the set
pub inserted : (ks after : List (Vec ℕ)) (v : Vec ℕ) → after ≡ (if list_any (λ k. bytes_eq v.items k.items) ks then ks else (ks ++ v ∷ [])) → texts after ≡ with_text (texts ks) v.items
inserted ks after v e =
    ap texts e ∙ texts_if (λ v. v.items) (list_any (is_text v.items) ks) ks v
    ∙ ap (λ (b : Bool). if b then texts ks else (texts ks ++ v.items ∷ [])) (any_among (λ v. v.items) v.items ks)

-- its place
place_is : (t : List ℕ) (ks : List (Vec ℕ)) → place_among t (texts ks) ≡ suc (position_or_len (is_text t) ks)
place_is t [] = refl
place_is t (k ∷ ks) = ap (λ (v : Bool). cond v 1 (suc (place_among t (texts ks)))) (sym (same_eq t k.items)) ∙ by (is_text t k) (place_is t ks)
  where
    by : (v : Bool) → place_among t (texts ks) ≡ suc (position_or_len (is_text t) ks) → cond v 1 (suc (place_among t (texts ks))) ≡ suc (cond (not v) (1 + position_or_len (is_text t) ks) 0)
    by true e = refl
    by false e = omega (arith, e)

pub found_at : (t : List ℕ) (ks : List (Vec ℕ)) (n : ℕ) → position (λ k. bytes_eq t k.items) ks ≡ Some n → place_among t (texts ks) ≡ n + 1
found_at t ks n e = place_is t ks ∙ sym (omega (arith, by (nat_lt (position_or_len (is_text t) ks) (length ks)) e))
  where
    by : (v : Bool) → cond v (Some (position_or_len (is_text t) ks)) None ≡ Some n → position_or_len (is_text t) ks ≡ n
    by true f = cc
    by false f = absurd cc

pub not_there : (t : List ℕ) (ks : List (Vec ℕ)) → position (λ k. bytes_eq t k.items) ks ≡ None → place_among t (texts ks) ≡ length ks + 1
not_there t ks e = place_is t ks ∙ by (nat_lt (position_or_len (is_text t) ks) (length ks)) refl e
  where
    p : ℕ
    p = position_or_len (is_text t) ks

    by : (v : Bool) → nat_lt p (length ks) ≡ v → cond v (Some p) None ≡ None → suc p ≡ length ks + 1
    by true h f = absurd cc
    by false h f = let le = prefix_len-le-length (λ k. not (is_text t k)) ks in let ge = ltb-false p (length ks) h in omega (arith, le, ge)

-- ---- the text of the second version

pub whole_text : (names : NameTable) (c : Certificate) (ts : List (List ℕ)) → ts ≡ texts_of names (shared_by names c)
    → certificate_text second_version names c ≡ (codes "concon 2\nshared " ++ (decimal (length ts) ++ (codes "\n" ++ joined ts)))
    ++ (body_text names (by_number (λ a. place_among (automaton_text names a) ts)) c ++ codes "end\n")
whole_text names c ts e = rw (e, length-map (shared_by names c) (automaton_text names), ← joined_texts names (shared_by names c)) refl
