-- The symbols of an unraveled system, put one behind another.
use Rattle.std.proofs.Common.{◌≡◌, ℕ, zero, suc, ◌+◌, ◌<◌, ◌≤◌, sym, ap, ap₂, ◌∙◌, subst, List, [], ◌∷◌, ◌++◌, map, length, get_or, drop, arith, append_assoc, append-nil}
use Rattle.std.proofs.lemmas.List.{length-map}
use Rattle.rewriting.specs.Prelude.{Fits, Signature, Each, terms_of_rule, AreRules, variables, Head, file, auxiliary, file_heads, condition_heads, auxiliary_heads, keeper_arities}
use Rattle.rewriting.specs.Prelude.{all_keeper_arities}
use Rattle.rewriting.specs.Rules as rules
use Rattle.term_core.specs.Prelude.{view, rule_view, condition_view}
use Rattle.term_core.specs.declared.systems.Rule.{Rule}
use Rattle.unravel.specs.RuleAnswers.{AreRulesSmall, first_heads, rule_heads}

pub small_rules : (arities : Signature) (rs : List rules.Rule) → AreRules arities rs → AreRulesSmall rs
small_rules arities [] h = tt
small_rules arities (r ∷ rs) h = (h.0.fits, h.0.few_conditions, small_rules arities rs h.1)

-- one symbol more
pub first_more : (before : List Head) (n : ℕ) → (before ++ first_heads n) ++ file n ∷ [] ≡ before ++ first_heads (n + 1)
first_more before n = let e : n + 1 ≡ suc n = omega arith in append_assoc before (first_heads n) (file n ∷ []) ∙ ap (λ m. before ++ first_heads m) (sym e)

pub rule_more : (before : List Head) (i n : ℕ) → (before ++ rule_heads i n) ++ auxiliary i (n + 1) ∷ [] ≡ before ++ rule_heads i (n + 1)
rule_more before i n =
    let e : n + 1 ≡ suc n = omega arith in
    append_assoc before (rule_heads i n) (auxiliary i (n + 1) ∷ []) ∙ ap (λ m. before ++ (rule_heads i n ++ auxiliary i m ∷ [])) e ∙ ap (λ m. before ++ rule_heads i m) (sym e)

first_from : (k : ℕ) (ns : Signature) → first_heads (k + length ns) ≡ first_heads k ++ file_heads k ns
first_from k [] = let e : k + 0 ≡ k = omega arith in ap first_heads e ∙ sym (append-nil (first_heads k))
first_from k (n ∷ ns) = let e : k + suc (length ns) ≡ suc k + length ns = omega arith in ap first_heads e ∙ first_from (suc k) ns ∙ append_assoc (first_heads k) (file k ∷ []) (file_heads (suc k) ns)

pub first_all : (ns : Signature) → first_heads (length ns) ≡ file_heads 0 ns
first_all ns = let e : length ns ≡ 0 + length ns = omega arith in ap first_heads e ∙ first_from 0 ns

rule_from : (i k : ℕ) (cs : List rules.Condition) → rule_heads i (k + length cs) ≡ rule_heads i k ++ condition_heads i (suc k) cs
rule_from i k [] = let e : k + 0 ≡ k = omega arith in ap (rule_heads i) e ∙ sym (append-nil (rule_heads i k))
rule_from i k (c ∷ cs) =
    let e : k + suc (length cs) ≡ suc k + length cs = omega arith in
    ap (rule_heads i) e ∙ rule_from i (suc k) cs ∙ append_assoc (rule_heads i k) (auxiliary i (suc k) ∷ []) (condition_heads i (suc (suc k)) cs)

rule_all : (i : ℕ) (cs : List rules.Condition) → rule_heads i (length cs) ≡ condition_heads i 1 cs
rule_all i cs = let e : length cs ≡ 0 + length cs = omega arith in ap (rule_heads i) e ∙ rule_from i 0 cs

-- what a rule has
small_at : (rs : List Rule) (i : ℕ) (r : Rule) → AreRulesSmall (map rule_view rs) → i < length rs → r ≡ get_or rs i r
    → Each Fits (terms_of_rule (rule_view r)) × (length (rule_view r).conditions ≤ 100)
small_at [] i r h lt is = absurd (omega (arith, lt))
small_at (q ∷ rs) zero r h lt is = subst (λ z. Each Fits (terms_of_rule (rule_view z)) × (length (rule_view z).conditions ≤ 100)) (sym is) (h.0, h.1)
small_at (q ∷ rs) (suc i) r h lt is = small_at rs i r h.2 (omega (arith, lt)) is

pub fits_at : (rs : List Rule) (i : ℕ) (r : Rule) → AreRulesSmall (map rule_view rs) → i < length rs → r ≡ get_or rs i r → Each Fits (terms_of_rule (rule_view r))
fits_at rs i r h lt is = (small_at rs i r h lt is).0

pub few_at : (rs : List Rule) (i : ℕ) (r : Rule) → AreRulesSmall (map rule_view rs) → i < length rs → r ≡ get_or rs i r → length r.conds.items ≤ 100
few_at rs i r h lt is = let m = (small_at rs i r h lt is).1 in let same = length-map r.conds.items condition_view in omega (arith, m, same)

-- the symbols of the rules that are left begin with those of the next
pub arities_here : (rs : List Rule) (i : ℕ) (r : Rule) (before after whole : List ℕ) → i < length rs → r ≡ get_or rs i r
    → before ++ all_keeper_arities (map rule_view (drop i rs)) ≡ whole → after ≡ before ++ keeper_arities (variables (view r.left)) (map condition_view r.conds.items)
    → after ++ all_keeper_arities (map rule_view (drop (i + 1) rs)) ≡ whole
arities_here rs i r before after whole lt is e a =
    let next : i + 1 ≡ suc i = omega arith in
    ap₂ (λ x n. x ++ all_keeper_arities (map rule_view (drop n rs))) a next ∙ append_assoc before _ _ ∙ ap (λ z. before ++ z) (sym (go rs i lt is)) ∙ e
  where
    go : (qs : List Rule) (k : ℕ) → k < length qs → r ≡ get_or qs k r
        → all_keeper_arities (map rule_view (drop k qs)) ≡ keeper_arities (variables (view r.left)) (map condition_view r.conds.items) ++ all_keeper_arities
        (map rule_view (drop (suc k) qs))
    go [] k lt is = absurd (omega (arith, lt))
    go (q ∷ qs) zero lt is = ap (λ z. keeper_arities (variables (view z.left)) (map condition_view z.conds.items) ++ all_keeper_arities (map rule_view qs)) (sym is)
    go (q ∷ qs) (suc k) lt is = go qs k (omega (arith, lt)) is

pub heads_here : (rs : List Rule) (i : ℕ) (r : Rule) (before after whole : List Head) → i < length rs → r ≡ get_or rs i r
    → before ++ auxiliary_heads (i + 1) (map rule_view (drop i rs)) ≡ whole → after ≡ before ++ rule_heads (i + 1) (length r.conds.items)
    → after ++ auxiliary_heads (i + 1 + 1) (map rule_view (drop (i + 1) rs)) ≡ whole
heads_here rs i r before after whole lt is e a =
    let next : i + 1 ≡ suc i = omega arith in
    let two : i + 1 + 1 ≡ suc (i + 1) = omega arith in
    ap₂ (λ x n. x ++ auxiliary_heads (i + 1 + 1) (map rule_view (drop n rs))) a next
    ∙ ap (λ n. (before ++ rule_heads (i + 1) (length r.conds.items)) ++ auxiliary_heads n (map rule_view (drop (suc i) rs))) two
    ∙ append_assoc before _ _ ∙ ap (λ z. before ++ z) (sym (go rs i lt is)) ∙ e
  where
    go : (qs : List Rule) (k : ℕ) → k < length qs → r ≡ get_or qs k r
        → auxiliary_heads (i + 1) (map rule_view (drop k qs)) ≡ rule_heads (i + 1) (length r.conds.items) ++ auxiliary_heads (suc (i + 1)) (map rule_view (drop (suc k) qs))
    go [] k lt is = absurd (omega (arith, lt))
    go (q ∷ qs) zero lt is =
        let count : length (map condition_view q.conds.items) ≡ length r.conds.items = length-map q.conds.items condition_view ∙ ap (λ z. length z.conds.items) (sym is) in
        ap (λ z. z ++ auxiliary_heads (suc (i + 1)) (map rule_view qs)) (sym (rule_all (i + 1) (map condition_view q.conds.items)) ∙ ap (rule_heads (i + 1)) count)
    go (q ∷ qs) (suc k) lt is = go qs k (omega (arith, lt)) is
