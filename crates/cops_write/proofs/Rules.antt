-- The rules of a system, gone over one after another.
use Rattle.std.proofs.Common.{◌≡◌, ◌<◌, ◌≤◌, ◌+◌, ◌-◌, ◌^◌, ℕ, zero, suc, List, [], ◌∷◌, ◌++◌, map, codes, length, get_or, drop, sym, ap, subst, ◌∙◌, arith, add-one, drop-cons}
use Rattle.rewriting.specs.Rules as math
use Rattle.rewriting.specs.Prelude.{Signature, AreRules, rule_variables}
use Rattle.term_core.specs.declared.systems.Rule.{Rule}
use Rattle.term_core.specs.Prelude.{rule_view, AreCounted, IsNumbered, numbers_from}
use Rattle.term_core.proofs.Numbers.{counts_first}
use Rattle.cops_names.specs.NameTable.{NameTable}
use Rattle.cops_names.specs.NameLists.{with_name, with_names}
use Rattle.cops_names.proofs.Used.{with_both}
use Rattle.cops_write.specs.Numbered.{AreNumbered}
use Rattle.cops_write.specs.Text.{rule_names, names_from, has_conditions, type_text, block_text, rules_text, system_text}

-- what is left of the rules begins with the one at the place
pub rules_left : (rs : List Rule) (i : ℕ) (r : Rule) → i < length rs → r ≡ get_or rs i r → drop i rs ≡ r ∷ drop (i + 1) rs
rules_left rs i r lt is = rw add-one (drop-cons rs i r lt ∙ ap (λ (q : Rule). q ∷ drop (suc i) rs) (sym is))

-- the rules of a system are numbered
pub all_numbered : (arities : Signature) (rs : List Rule) → AreRules arities (map rule_view rs) → AreCounted rs → AreNumbered rs
all_numbered arities [] h k = tt
all_numbered arities (r ∷ rs) h k =
    (record { numbered = h.0.numbered; counted = k.0; few = subst (λ (n : ℕ). n < 2 ^ 31) (sym k.0) h.0.few_variables }, all_numbered arities rs h.1 k.1)

pub numbered_at : (rs : List Rule) (i : ℕ) (r : Rule) → AreNumbered rs → i < length rs → r ≡ get_or rs i r → IsNumbered r
numbered_at [] i r h lt is = absurd (omega arith)
numbered_at (q ∷ rs) zero r h lt is = subst IsNumbered (sym is) h.0
numbered_at (q ∷ rs) (suc i) r h lt is = numbered_at rs i r h.1 (omega arith) is

-- the variables of a numbered rule are the numbers below their number
pub variables_are : (r : Rule) → IsNumbered r → rule_variables (rule_view r) ≡ numbers_from 0 r.vars
variables_are r h = (counts_first _ h.numbered (subst (λ (n : ℕ). n < 2 ^ 31) h.counted h.few)).are ∙ ap (numbers_from 0) (sym h.counted)

-- the names of a rule's variables, and of the rules behind it
pub names_behind : (names : NameTable) (set : List (List ℕ)) (number : ℕ) (rs : List Rule) (i : ℕ) (r : Rule) → i < length rs → r ≡ get_or rs i r
    → with_names set (names_from names number (map rule_view (drop i rs))) ≡ with_names (with_names set (rule_names names number (rule_view r)))
    (names_from names (suc number) (map rule_view (drop (i + 1) rs)))
names_behind names set number rs i r lt is =
    ap (λ (w : List Rule). with_names set (names_from names number (map rule_view w))) (rules_left rs i r lt is)
    ∙ with_both set (rule_names names number (rule_view r)) (names_from names (suc number) (map rule_view (drop (i + 1) rs)))

-- the next of a rule's variables, and no further one
pub next_variable : (text : ℕ → List ℕ) (set after : List (List ℕ)) (x n : ℕ) → x < n → after ≡ with_name set (text x)
    → with_names after (map text (numbers_from (x + 1) (n - (x + 1)))) ≡ with_names set (map text (numbers_from x (n - x)))
next_variable text set after x n lt h =
    let more : n - x ≡ suc (n - (x + 1)) = omega arith in
    let next : x + 1 ≡ suc x = omega arith in
    ap (λ (y : ℕ). with_names after (map text (numbers_from y (n - (x + 1))))) next
    ∙ ap (λ (w : List (List ℕ)). with_names w (map text (numbers_from (suc x) (n - (x + 1))))) h
    ∙ ap (λ (m : ℕ). with_names set (map text (numbers_from x m))) (sym more)

pub no_variable : (text : ℕ → List ℕ) (set : List (List ℕ)) (x n : ℕ) → n ≤ x → set ≡ with_names set (map text (numbers_from x (n - x)))
no_variable text set x n le =
    let none : n - x ≡ 0 = omega arith in
    ap (λ (m : ℕ). with_names set (map text (numbers_from x m))) (sym none)

pub system_parts : (names : NameTable) (sys : math.System) (rs : List math.Rule) (block : List (List ℕ)) → rs ≡ sys.rules → block ≡ with_names [] (names_from names 1 rs)
    → system_text names sys ≡ type_text (has_conditions rs) ++ (block_text block ++ (codes "(RULES\n" ++ (rules_text names 1 rs ++ codes ")\n")))
system_parts names sys rs block same is =
    ap (λ (qs : List math.Rule). type_text (has_conditions qs) ++ (block_text (with_names [] (names_from names 1 qs)) ++ (codes "(RULES\n" ++ (rules_text names 1 qs ++ codes ")\n")))) (sym same)
    ∙ ap (λ (b : List (List ℕ)). type_text (has_conditions rs) ++ (block_text b ++ (codes "(RULES\n" ++ (rules_text names 1 rs ++ codes ")\n")))) (sym is)
