-- Caps with holes from 2^31 on, and terms with numbers below for their variables.
use Rattle.std.proofs.Common.{ℕ, suc, ◌≡◌, ◌+◌, ◌*◌, ◌^◌, ◌<◌, ◌≤◌, inl, inr, List, [], ◌∷◌, length, get_or, refl, sym, ap, ap₂, ◌∙◌}
use Rattle.std.proofs.Common.{subst, subst₂, arith}
use Rattle.rewriting.specs.Prelude.{Term, Terms, var, app, nil, cons, count, Substitution, apply, apply_all, compose, even, odd, Condition, System, left_sides, right_sides, AreDistinct}
use Rattle.rewriting.proofs.Instances.{apply_all-apply_all, apply_all-agree}
use Rattle.rewriting.proofs.Over.{count-apply}
use Rattle.renumbering.specs.Rows.{naming}
use Rattle.unifier_run.specs.Run.{Outcome, IsOutcome}
use Rattle.unifier_run.proofs.Renamed.{renamed_outcome, stays, names, runs_with_names}
use Rattle.caps.specs.Caps.{Cap, Caps, node, any, holes, filled, all_filled, IsTop, IsCapOf, AreCapsOf}
use Rattle.caps.specs.Evidence.{IsCapOutcome}
use Rattle.term_core.specs.View.{views}
use Rattle.term_core.specs.declared.terms.Term as T
use Rattle.tcap_infeasible.specs.Comparing.{HaveRow}
use Rattle.renumbering.proofs.Parted.{parted, parted_below, parted_past, parted_one}
use Rattle.renumbering.proofs.Filling.{filling, filling_within, filling_one}

-- numbers below 2^31 become the odd numbers of their variables, holes even
abbrev pub apart : List ℕ → ℕ → ℕ
apart row = parted (2 ^ 31) (λ k. 2 * filling row k + 1) (λ m. 2 * m)

apart_variable : (row : List ℕ) (k : ℕ) → k < length row → length row ≤ 2 ^ 31 → apart row k ≡ 2 * get_or row k 0 + 1
apart_variable row k h few = parted_below (2 ^ 31) (λ k. 2 * filling row k + 1) (λ m. 2 * m) k (omega (arith, h, few)) ∙ ap (λ z. 2 * z + 1) (filling_within row k h)

apart_hole : (row : List ℕ) (j : ℕ) → apart row (2 ^ 31 + j) ≡ 2 * j
apart_hole row = parted_past (2 ^ 31) (λ k. 2 * filling row k + 1) (λ m. 2 * m)

apart_one : (row : List ℕ) → AreDistinct row → (x y : ℕ) → apart row x ≡ apart row y → x ≡ y
apart_one row distinct =
    parted_one (2 ^ 31) (λ k. 2 * filling row k + 1) (λ m. 2 * m) (λ x y a b e. filling_one row distinct x y (omega (arith, e))) (λ x y e. omega (arith, e))
    (λ x y a e. omega (arith, e))

rights_apart : (ts us : Terms) (h : HaveRow ts us) → apply_all (names (apart h.row)) us ≡ apply_all odd ts
rights_apart ts us h =
    apply_all-agree (names (apart h.row)) (compose (naming h.row) odd) us (λ x o. ap var (apart_variable h.row x (h.below x o) h.few))
    ∙ (sym (apply_all-apply_all (naming h.row) odd us) ∙ ap (apply_all odd) (sym h.names))

module _ (sys : System) (row : List ℕ) where
  top_apart : (f : ℕ) (cs : Caps) (c : Cap) (j : ℕ) → IsTop sys (node f cs) c → apply_all (names (apart row)) (all_filled var (2 ^ 31 + j) cs) ≡ apply_all even (all_filled var j cs)
      → apply (names (apart row)) (filled var (2 ^ 31 + j) c) ≡ apply even (filled var j c)
  top_apart f cs c j (inl (k, e)) all = subst (λ z. apply (names (apart row)) (filled var (2 ^ 31 + j) z) ≡ apply even (filled var j z)) (sym e) (ap (app f) all)
  top_apart f cs c j (inr (k, e)) all = subst (λ z. apply (names (apart row)) (filled var (2 ^ 31 + j) z) ≡ apply even (filled var j z)) (sym e) (ap var (apart_hole row j))

  mutual
    left_apart : (t : Term) (c : Cap) (j : ℕ) → IsCapOf sys any t c → apply (names (apart row)) (filled var (2 ^ 31 + j) c) ≡ apply even (filled var j c)
    left_apart (var x) c j e = subst (λ z. apply (names (apart row)) (filled var (2 ^ 31 + j) z) ≡ apply even (filled var j z)) (sym e) (ap var (apart_hole row j))
    left_apart (app f ts) c j (cs, are, top) = top_apart f cs c j top (lefts_apart ts cs j are)

    lefts_apart : (ts : Terms) (cs : Caps) (j : ℕ) → AreCapsOf sys any ts cs → apply_all (names (apart row)) (all_filled var (2 ^ 31 + j) cs) ≡ apply_all even (all_filled var j cs)
    lefts_apart nil cs j e = subst (λ z. apply_all (names (apart row)) (all_filled var (2 ^ 31 + j) z) ≡ apply_all even (all_filled var j z)) (sym e) refl
    lefts_apart (cons t ts) cs j (d, ds, e, is, are) =
        subst (λ z. apply_all (names (apart row)) (all_filled var (2 ^ 31 + j) z) ≡ apply_all even (all_filled var j z)) (sym e)
        (let more : 2 ^ 31 + j + holes d ≡ 2 ^ 31 + (j + holes d) = omega arith in
        ap₂ cons (left_apart t d j is) (ap (λ z. apply_all (names (apart row)) (all_filled var z ds)) more ∙ lefts_apart ts ds (j + holes d) are))

-- the run on the program's terms is the run that the definition asks for
pub judged_run : (sys : System) (cs : List Condition) (lefts : Caps) (ts us : Terms) (o : Outcome) → AreCapsOf sys any (left_sides cs) lefts → ts ≡ all_filled var (2 ^ 31) lefts
    → (h : HaveRow (right_sides cs) us)
    → IsOutcome ts us o → IsCapOutcome sys cs (renamed_outcome (apart h.row) stays o)
judged_run sys cs lefts ts us o are shown h run =
    let start : 2 ^ 31 ≡ 2 ^ 31 + 0 = omega arith in
    record {
      lefts = lefts;
      are = are;
      outcome = subst₂ (λ x y. IsOutcome x y (renamed_outcome (apart h.row) stays o))
          (ap (apply_all (names (apart h.row))) (shown ∙ ap (λ z. all_filled var z lefts) start) ∙ lefts_apart sys h.row (left_sides cs) lefts 0 are)
          (rights_apart (right_sides cs) us h) (runs_with_names (apart h.row) (apart_one h.row h.distinct) run);
    }

count_views : (ts : List T.Term) → count (views ts) ≡ length ts
count_views [] = refl
count_views (t ∷ ts) = ap suc (count_views ts)

count_rights : (cs : List Condition) → count (right_sides cs) ≡ length cs
count_rights [] = refl
count_rights (c ∷ cs) = ap suc (count_rights cs)

count_lefts : (cs : List Condition) → count (left_sides cs) ≡ length cs
count_lefts [] = refl
count_lefts (c ∷ cs) = ap suc (count_lefts cs)

count_caps : (sys : System) (s : Substitution) (n : ℕ) (ts : Terms) (cs : Caps) → AreCapsOf sys any ts cs → count (all_filled s n cs) ≡ count ts
count_caps sys s n nil cs e = subst (λ z. count (all_filled s n z) ≡ 0) (sym e) refl
count_caps sys s n (cons t ts) cs (d, ds, e, is, are) = subst (λ z. count (all_filled s n z) ≡ suc (count ts)) (sym e) (ap suc (count_caps sys s (n + holes d) ts ds are))

pub same_length : (sys : System) (cs : List Condition) (lefts : Caps) (ts us : List T.Term) → AreCapsOf sys any (left_sides cs) lefts → views ts ≡ all_filled var (2 ^ 31) lefts
    → HaveRow (right_sides cs) (views us)
    → length ts ≡ length us
same_length sys cs lefts ts us are shown h =
    sym (count_views ts) ∙ (ap count shown ∙ (count_caps sys var (2 ^ 31) (left_sides cs) lefts are
    ∙ (count_lefts cs ∙ (sym (count_rights cs) ∙ (ap count h.names ∙ (count-apply (naming h.row) (views us) ∙ count_views us))))))
