-- Arguments and conditions that are written one after another.
use Rattle.std.proofs.Common.{◌≡◌, ◌≤◌, ◌-◌, ℕ, List, ◌++◌, map, get_or, take, drop, length, codes, subst, sym}
use Rattle.term_core.specs.declared.terms.Term.{Term}
use Rattle.term_core.specs.Prelude.{view, views, condition_view}
use Rattle.term_core.specs.declared.systems.Cond.{Cond}
use Rattle.cops_names.specs.NameTable.{NameTable}
use Rattle.cops_write.specs.Grows.{Grows}
use Rattle.cops_write.specs.Text.{term_text, arguments_text, further_text, condition_text, conditions_text, others_text}
use Rattle.cops_write.proofs.Growing.{Leads, begins, goes_on, first_and_others}

-- behind the first argument come the others
pub arguments_begin : (names : NameTable) (rule : ℕ) {a b c : List ℕ} (args : List Term) (first : Term) → 1 ≤ length args → first ≡ get_or args 0 first
    → Grows a (codes "(") b → Grows b (term_text names rule (view first)) c → Leads a (arguments_text names rule (views args)) c
    (further_text names rule (views (take (length args - 1) (drop 1 args))))
arguments_begin names rule {a} {b} {c} args first some is h k =
    let rest = take (length args - 1) (drop 1 args) in
    let left = further_text names rule (views rest) in
    subst (λ (xs : List Term). Leads a (arguments_text names rule (views xs)) c left) (sym (first_and_others args first some is))
    (goes_on left (begins (term_text names rule (view first) ++ left) h) k)

-- behind the first condition come the others
pub conditions_begin : (names : NameTable) (rule : ℕ) {a b c : List ℕ} (conds : List Cond) (first : Cond) → 1 ≤ length conds → first ≡ get_or conds 0 first
    → Grows a (codes " | ") b → Grows b (condition_text names rule (condition_view first)) c
    → Leads a (conditions_text names rule (map condition_view conds)) c (others_text names rule (map condition_view (take (length conds - 1) (drop 1 conds))))
conditions_begin names rule {a} {b} {c} conds first some is h k =
    let rest = take (length conds - 1) (drop 1 conds) in
    let left = others_text names rule (map condition_view rest) in
    subst (λ (xs : List Cond). Leads a (conditions_text names rule (map condition_view xs)) c left) (sym (first_and_others conds first some is))
    (goes_on left (begins (condition_text names rule (condition_view first) ++ left) h) k)
