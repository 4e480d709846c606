-- Identifiers as texts of their own: what makes one, and what ends it.
use Rattle.std.proofs.Common.{◌≡◌, ℕ, zero, suc, ◌<◌, ◌≤◌, Bool, true, false, cond, eqb, ltb, List, [], ◌∷◌, ◌++◌, length, take, Option, Some, None, ◌&&◌, ◌||◌, not, refl, sym, ap, subst, ◌∙◌, arith}
use Rattle.std.specs.Prelude.{codes, nat_lt}
use Rattle.std.proofs.lemmas.Bool.{eqb-true, false_from_ne_true, not-true, and_right, and_parts, ltb-true}
use Rattle.std.proofs.lemmas.List.{length-take-le}
use Rattle.file_text.specs.declared.Kind.{Kind}
use Rattle.file_text.specs.declared.Kind.TheVariants.{Id, LeftParen, RightParen, Comma, Bar, Arrow, Equal}
use Rattle.file_text.specs.Bytes.{is_id, begins_arrow, begins_equal, run_len}
use Rattle.file_text.specs.Tokens.{kind_at, longest}

-- the bytes are one identifier, and not too long
pub record IsName (name : List ℕ) : Type 0 where
  pub some : 0 < length name
  pub whole : run_len name ≡ length name
  pub short : length name ≤ longest

-- no identifier goes on with these bytes
abbrev pub ends_id : List ℕ → Bool
ends_id [] = true
ends_id (b ∷ bs) = not (is_id b)

abbrev test : List ℕ → Bool
test [] = false
test (b ∷ bs) = is_id b && not (begins_arrow (b ∷ bs) || begins_equal (b ∷ bs))

run_here : (b : ℕ) (bs : List ℕ) → run_len (b ∷ bs) ≡ cond (test (b ∷ bs)) (suc (run_len bs)) 0
unfolding run_len
run_here b bs = refl

run_empty : run_len [] ≡ 0
unfolding run_len
run_empty = refl

cond_suc : (t : Bool) (n m : ℕ) → cond t (suc n) 0 ≡ suc m → (t ≡ true) × (n ≡ m)
cond_suc true n m e = (refl, omega arith)
cond_suc false n m e = absurd (omega arith)

-- the first byte of an identifier that goes on
went_on : (b : ℕ) (bs : List ℕ) (m : ℕ) → run_len (b ∷ bs) ≡ suc m → (test (b ∷ bs) ≡ true) × (run_len bs ≡ m)
went_on b bs m e = cond_suc (test (b ∷ bs)) (run_len bs) m (sym (run_here b bs) ∙ e)

goes_on : (b : ℕ) (bs : List ℕ) → test (b ∷ bs) ≡ true → run_len (b ∷ bs) ≡ suc (run_len bs)
goes_on b bs t = run_here b bs ∙ ap (λ (x : Bool). cond x (suc (run_len bs)) 0) t

stopped : (b : ℕ) (bs : List ℕ) → test (b ∷ bs) ≡ false → run_len (b ∷ bs) ≡ 0
stopped b bs t = run_here b bs ∙ ap (λ (x : Bool). cond x (suc (run_len bs)) 0) t

both_of : (i a e : Bool) → (i && not (a || e)) ≡ true → (i ≡ true) × (a ≡ false) × (e ≡ false)
both_of true true e h = absurd cc
both_of true false true h = absurd cc
both_of true false false h = (refl, refl, refl)
both_of false a e h = absurd cc

all_tests : (i a e : Bool) → i ≡ true → a ≡ false → e ≡ false → (i && not (a || e)) ≡ true
all_tests i a e f g h = rw (f, g, h) refl

-- a byte that is in no identifier is not this one, which is
other_byte : (b c : ℕ) → is_id b ≡ false → is_id c ≡ true → eqb b c ≡ false
other_byte b c none is = false_from_ne_true (eqb b c) (λ (h : eqb b c ≡ true).
    let both : false ≡ true = sym none ∙ ap is_id (eqb-true b c h) ∙ is in
    cc)

ended_run : (rest : List ℕ) → ends_id rest ≡ true → run_len rest ≡ 0
ended_run [] e = run_empty
ended_run (b ∷ bs) e = run_here b bs ∙ rw (not-true (is_id b) e) refl

-- an identifier is no longer where something that ends it follows
pub name_ends : (name rest : List ℕ) → run_len name ≡ length name → ends_id rest ≡ true → run_len (name ++ rest) ≡ length name
name_ends [] rest w e = ended_run rest e
name_ends (b ∷ []) [] w e = w
name_ends (b ∷ []) (c ∷ cs) w e =
    let before = both_of (is_id b) false false (went_on b [] 0 w).0 in
    let other : is_id c ≡ false = not-true (is_id c) e in
    let arrow : begins_arrow (b ∷ c ∷ cs) ≡ false = and_right (eqb b 45) (eqb c 62) (other_byte c 62 other refl) in
    let equal : begins_equal (b ∷ c ∷ cs) ≡ false = and_right (eqb b 61) (eqb c 61) (other_byte c 61 other refl) in
    let here : test (b ∷ c ∷ cs) ≡ true = rw (before.0, arrow, equal) refl in
    goes_on b (c ∷ cs) here ∙ ap (λ (n : ℕ). suc n) (ended_run (c ∷ cs) e)
name_ends (b ∷ c ∷ name) rest w e =
    let before = went_on b (c ∷ name) (length (c ∷ name)) w in
    goes_on b (c ∷ (name ++ rest)) before.0 ∙ ap (λ (n : ℕ). suc n) (name_ends (c ∷ name) rest before.1 e)

firsts : (p q r s t u : Bool) → not (p || q || r || s || t || u) ≡ true → (p ≡ false) × (q ≡ false) × (r ≡ false) × (s ≡ false)
firsts true q r s t u e = absurd cc
firsts false true r s t u e = absurd cc
firsts false false true s t u e = absurd cc
firsts false false false true t u e = absurd cc
firsts false false false false t u e = (refl, refl, refl, refl)

abbrev kind_by : Bool → Bool → Bool → Bool → Bool → Bool → Bool → Option Kind
kind_by p q r s a e i = cond p (Some LeftParen) (cond q (Some RightParen) (cond r (Some Comma) (cond s (Some Bar) (cond a (Some Arrow) (cond e (Some Equal) (cond i (Some Id) None))))))

kind_id : (p q r s a e i : Bool) → p ≡ false → q ≡ false → r ≡ false → s ≡ false → a ≡ false → e ≡ false → i ≡ true → kind_by p q r s a e i ≡ Some Id
kind_id p q r s a e i f g h j k l m = rw (f, g, h, j, k, l, m) refl

id_kind : (p q r s a e i : Bool) → kind_by p q r s a e i ≡ Some Id → (a ≡ false) × (e ≡ false) × (i ≡ true)
id_kind true q r s a e i h = absurd cc
id_kind false true r s a e i h = absurd cc
id_kind false false true s a e i h = absurd cc
id_kind false false false true a e i h = absurd cc
id_kind false false false false true e i h = absurd cc
id_kind false false false false false true i h = absurd cc
id_kind false false false false false false true h = (refl, refl, refl)
id_kind false false false false false false false h = absurd cc

-- where the token is an identifier, one runs
pub id_runs : (bytes : List ℕ) → kind_at bytes ≡ Some Id → 0 < run_len bytes
id_runs [] e = absurd cc
id_runs (b ∷ bs) e =
    let h = id_kind (eqb b 40) (eqb b 41) (eqb b 44) (eqb b 124) (begins_arrow (b ∷ bs)) (begins_equal (b ∷ bs)) (is_id b) e in
    let here : test (b ∷ bs) ≡ true = all_tests (is_id b) (begins_arrow (b ∷ bs)) (begins_equal (b ∷ bs)) h.2 h.0 h.1 in
    omega (arith, goes_on b bs here)

-- where an identifier runs, the token is one
pub run_is_id : (bytes : List ℕ) (n : ℕ) → run_len bytes ≡ suc n → kind_at bytes ≡ Some Id
run_is_id [] n e = absurd (omega (arith, run_empty, e))
run_is_id (b ∷ bs) n e =
    let h = both_of (is_id b) (begins_arrow (b ∷ bs)) (begins_equal (b ∷ bs)) (went_on b bs n e).0 in
    let f = firsts (eqb b 40) (eqb b 41) (eqb b 44) (eqb b 124) (eqb b 34) (eqb b 92)
    (and_parts (ltb 32 b && ltb b 127) (not (eqb b 40 || eqb b 41 || eqb b 44 || eqb b 124 || eqb b 34 || eqb b 92)) h.0).1 in
    kind_id (eqb b 40) (eqb b 41) (eqb b 44) (eqb b 124) (begins_arrow (b ∷ bs)) (begins_equal (b ∷ bs)) (is_id b) f.0 f.1 f.2 f.3 h.1 h.2 h.0

pub run_within : (bytes : List ℕ) → run_len bytes ≤ length bytes
run_within [] = omega (arith, run_empty)
run_within (b ∷ bs) = go (run_within bs) (test (b ∷ bs)) refl
  where
    go : run_len bs ≤ length bs → (t : Bool) → test (b ∷ bs) ≡ t → run_len (b ∷ bs) ≤ length (b ∷ bs)
    go le true e = omega (arith, le, goes_on b bs e)
    go le false e = omega (arith, stopped b bs e)

-- the test looks at two bytes, and fewer bytes make fewer signs
front_test : (b n : ℕ) (bs : List ℕ) → test (b ∷ bs) ≡ true → test (b ∷ take n bs) ≡ true
front_test b zero bs e = rw (both_of (is_id b) (begins_arrow (b ∷ bs)) (begins_equal (b ∷ bs)) e).0 refl
front_test b (suc n) [] e = e
front_test b (suc n) (c ∷ cs) e = e

-- an identifier at the front is one by itself
pub run_alone : (bytes : List ℕ) → run_len (take (run_len bytes) bytes) ≡ run_len bytes
run_alone [] = ap (λ (n : ℕ). run_len (take n [])) run_empty
run_alone (b ∷ bs) = go (run_alone bs) (test (b ∷ bs)) refl
  where
    go : run_len (take (run_len bs) bs) ≡ run_len bs → (t : Bool) → test (b ∷ bs) ≡ t → run_len (take (run_len (b ∷ bs)) (b ∷ bs)) ≡ run_len (b ∷ bs)
    go h true e =
        ap (λ (n : ℕ). run_len (take n (b ∷ bs))) (goes_on b bs e)
        ∙ goes_on b (take (run_len bs) bs) (front_test b (run_len bs) bs e)
        ∙ ap (λ (n : ℕ). suc n) h
        ∙ sym (goes_on b bs e)
    go h false e = ap (λ (n : ℕ). run_len (take n (b ∷ bs))) (stopped b bs e) ∙ run_empty ∙ sym (stopped b bs e)

pub name_at : (bytes : List ℕ) → kind_at bytes ≡ Some Id → run_len bytes ≤ longest → IsName (take (run_len bytes) bytes)
name_at bytes k short = record {
  some = subst (λ (n : ℕ). 0 < n) (sym (length-take-le (run_len bytes) bytes (run_within bytes))) (id_runs bytes k);
  whole = run_alone bytes ∙ sym (length-take-le (run_len bytes) bytes (run_within bytes));
  short = subst (λ (n : ℕ). n ≤ longest) (sym (length-take-le (run_len bytes) bytes (run_within bytes))) short;
}

pub condition_type_name : IsName (codes "CONDITIONTYPE")
unfolding run_len
condition_type_name = record { some = omega arith; whole = refl; short = omega arith }

pub oriented_name : IsName (codes "ORIENTED")
unfolding run_len
oriented_name = record { some = omega arith; whole = refl; short = omega arith }

pub variables_name : IsName (codes "VAR")
unfolding run_len
variables_name = record { some = omega arith; whole = refl; short = omega arith }

pub rules_name : IsName (codes "RULES")
unfolding run_len
rules_name = record { some = omega arith; whole = refl; short = omega arith }

-- bytes of identifiers are ASCII
pub id_small : (b : ℕ) → is_id b ≡ true → b < 127
id_small b e = ltb-true b 127 (and_parts (nat_lt 32 b) (nat_lt b 127) (and_parts (nat_lt 32 b && nat_lt b 127) _ e).0).1
