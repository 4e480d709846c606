-- The marks of terms, one argument behind another.
use Rattle.cert_reading.proofs.Prelude.{◌≡◌, ◌<◌, ◌+◌, ℕ, suc, Bool, true, false, List, [], ◌∷◌, ◌++◌, length, codes, None, refl, sym, ap, ap₂, ◌∙◌, arith, append_assoc, append-nil, Term}
use Rattle.cert_reading.proofs.Prelude.{app, nil, terms_of, count, size, size_all, NameTable, Naming, has_arity, Mark, fixed, symbol, behind, is_node, term_marks, arguments_marks}
use Rattle.cert_reading.proofs.Prelude.{further_marks, Frame, Item, node, term_closed, with_next, Reading, Reads, then_reads, as_marks, open_before, suc_is, argument_end, behind_argument}
use Rattle.cert_words.specs.Nodes.{inner_marks}

-- arguments with a comma behind each
abbrev pub commas : Naming → ℕ → ℕ → List Term → List Mark
commas u d n [] = []
commas u d n (t ∷ ts) = (term_marks u d n t ++ (fixed (codes ",") ∷ [])) ++ commas u d (n + size t) ts

same_term : (u : Naming) (d m n : ℕ) (t : Term) (e : Mark) → m ≡ n → term_marks u d m t ++ (e ∷ []) ≡ term_marks u d n t ++ (e ∷ [])
same_term u d m n t e q = ap (λ (k : ℕ). term_marks u d k t ++ (e ∷ [])) q

commas_push : (u : Naming) (d n m : ℕ) (ts : List Term) (t : Term) → m ≡ n + size_all (terms_of ts) → commas u d n ts ++ (term_marks u d m t ++ (fixed (codes ",") ∷ [])) ≡ commas u d n (ts ++ t ∷ [])
commas_push u d n m [] t e = same_term u d m n t (fixed (codes ",")) (omega (arith, e)) ∙ sym (append-nil (term_marks u d n t ++ (fixed (codes ",") ∷ [])))
commas_push u d n m (s ∷ ts) t e =
    append_assoc (term_marks u d n s ++ (fixed (codes ",") ∷ [])) (commas u d (n + size s) ts) (term_marks u d m t ++ (fixed (codes ",") ∷ []))
    ∙ ap (λ (ms : List Mark). (term_marks u d n s ++ (fixed (codes ",") ∷ [])) ++ ms) (commas_push u d (n + size s) m ts t (omega (arith, e)))

further_inner : (u : Naming) (d n : ℕ) (ts : List Term) (t : Term) → further_marks u d n (terms_of (ts ++ t ∷ [])) ≡ fixed (codes ",") ∷ inner_marks u d n (terms_of (ts ++ t ∷ []))
further_inner u d n [] t = refl
further_inner u d n (s ∷ ts) t = refl

inner_push : (u : Naming) (d n m : ℕ) (ts : List Term) (t : Term) → m ≡ n + size_all (terms_of ts)
    → commas u d n ts ++ (term_marks u d m t ++ (fixed (codes ")") ∷ [])) ≡ inner_marks u d n (terms_of (ts ++ t ∷ []))
inner_push u d n m [] t e = same_term u d m n t (fixed (codes ")")) (omega (arith, e))
inner_push u d n m (s ∷ ts) t e =
    append_assoc (term_marks u d n s ++ (fixed (codes ",") ∷ [])) (commas u d (n + size s) ts) (term_marks u d m t ++ (fixed (codes ")") ∷ []))
    ∙ ap (λ (ms : List Mark). (term_marks u d n s ++ (fixed (codes ",") ∷ [])) ++ ms) (inner_push u d (n + size s) m ts t (omega (arith, e)))
    ∙ append_assoc (term_marks u d n s) (fixed (codes ",") ∷ []) (inner_marks u d (n + size s) (terms_of (ts ++ t ∷ [])))
    ∙ ap (λ (ms : List Mark). term_marks u d n s ++ ms) (sym (further_inner u d (n + size s) ts t))

-- what stands there behind an argument
abbrev pub so_far : Bool → Naming → ℕ → ℕ → List Term → List Mark
so_far true u d n ts = commas u d n ts
so_far false u d n ts = inner_marks u d n (terms_of ts)

pub so_far_push : (more : Bool) (u : Naming) (d n m : ℕ) (ts : List Term) (t : Term) → m ≡ n + size_all (terms_of ts)
    → commas u d n ts ++ (term_marks u d m t ++ (argument_end more ∷ [])) ≡ so_far more u d n (ts ++ t ∷ [])
so_far_push true u d n m ts t e = commas_push u d n m ts t e
so_far_push false u d n m ts t e = inner_push u d n m ts t e

pub size_push : (ts : List Term) (t : Term) → size_all (terms_of (ts ++ t ∷ [])) ≡ size_all (terms_of ts) + size t
size_push [] t = omega arith
size_push (s ∷ ts) t = let e = size_push ts t in omega (arith, e)

pub count_terms : (ts : List Term) → count (terms_of ts) ≡ length ts
count_terms [] = refl
count_terms (t ∷ ts) = ap suc (count_terms ts)

-- behind a bracket
arguments_inner : (u : Naming) (d n : ℕ) (ts : List Term) → 0 < length ts → arguments_marks u d n (terms_of ts) ≡ fixed (codes "(") ∷ inner_marks u d n (terms_of ts)
arguments_inner u d n [] h = absurd (omega (arith, h))
arguments_inner u d n (t ∷ ts) h = refl

-- a symbol with its arguments, and a mark behind it
symbol_closed : (u : Naming) (d n f k : ℕ) (ts : List Term) (m : Mark) → 0 < length ts → k ≡ length ts
    → symbol (u f) (is_node d n) ∷ fixed (codes "(") ∷ (inner_marks u (suc d) (suc n) (terms_of ts) ++ (behind (has_arity (u f) k) ∷ m ∷ [])) ≡ term_marks u d n (app f (terms_of ts)) ++ (m ∷ [])
symbol_closed u d n f k ts m h e =
    ap (λ (ms : List Mark). symbol (u f) (is_node d n) ∷ fixed (codes "(") ∷ ms)
    (ap (λ (j : ℕ). inner_marks u (suc d) (suc n) (terms_of ts) ++ (behind (has_arity (u f) j) ∷ m ∷ [])) (e ∙ sym (count_terms ts))
    ∙ sym (append_assoc (inner_marks u (suc d) (suc n) (terms_of ts)) (behind (has_arity (u f) (count (terms_of ts))) ∷ []) (m ∷ [])))
    ∙ ap (λ (ms : List Mark). symbol (u f) (is_node d n) ∷ ((ms ++ (behind (has_arity (u f) (count (terms_of ts))) ∷ [])) ++ (m ∷ []))) (sym (arguments_inner u (suc d) (suc n) ts h))

-- what is read of a symbol without arguments, and of one with them
pub symbol_alone : {names : NameTable} {end : ℕ} {from mid to : List Item} {s t v : Reading} (d n f : ℕ) (x : Term) (m : Mark) → x ≡ app f nil
    → Reads names end from (λ u. symbol (u f) (is_node d n) ∷ []) mid s t → Reads names end mid (λ u. behind (has_arity (u f) 0) ∷ m ∷ []) to t v
    → Reads names end from (λ u. term_marks u d n x ++ (m ∷ [])) to s v
symbol_alone d n f x m e a b = as_marks (λ none u. ap (λ (y : Term). term_marks u d n y ++ (m ∷ [])) (sym e)) (then_reads a b)

pub symbol_read : {names : NameTable} {end : ℕ} {from mid inside after to : List Item} {s t v w z : Reading} (d n f k : ℕ) (ts : List Term) (x : Term) (m : Mark)
    → x ≡ app f (terms_of ts) → k ≡ length ts → Reads names end from (λ u. symbol (u f) (is_node d n) ∷ []) mid s t → Reads names end mid (λ u. fixed (codes "(") ∷ []) inside t v
    → Reads names end inside (λ u. inner_marks u (d + 1) (n + 1) (terms_of ts)) after v w → (w.refused ≡ None → 0 < k)
    → Reads names end after (λ u. behind (has_arity (u f) k) ∷ m ∷ []) to w z → Reads names end from (λ u. term_marks u d n x ++ (m ∷ [])) to s z
symbol_read d n f k ts x m e q head bracket inner some last =
    as_marks (λ none u.
    let many : 0 < length ts = (let h = some (open_before last none) in omega (arith, h, q)) in
    ap₂ (λ (a b : ℕ). symbol (u f) (is_node d n) ∷ fixed (codes "(") ∷ (inner_marks u a b (terms_of ts) ++ (behind (has_arity (u f) k) ∷ m ∷ []))) (sym (suc_is d)) (sym (suc_is n))
    ∙ symbol_closed u d n f k ts m many q ∙ ap (λ (y : Term). term_marks u d n y ++ (m ∷ [])) (sym e)) (then_reads head (then_reads bracket (then_reads inner last)))

-- either end of an argument
pub either_end : {names : NameTable} {end : ℕ} {from : List Item} {s t : Reading} (comma : Bool) (n : ℕ) (g : Frame) (fs : List Frame)
    → (comma ≡ true → Reads names end from (λ u. fixed (codes ",") ∷ []) (node n (with_next g ∷ fs) ∷ []) s t)
    → (comma ≡ false → Reads names end from (λ u. fixed (codes ")") ∷ []) (term_closed n g.name g.argument fs ∷ []) s t)
    → Reads names end from (λ u. argument_end comma ∷ []) (behind_argument comma n g fs ∷ []) s t
either_end true n g fs one other = one refl
either_end false n g fs one other = other refl
