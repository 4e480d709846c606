use Rattle.std.proofs.Common.{◌≡◌, ◌-◌, length, sym, ap, ◌∙◌, ◌+◌, map, take, drop}
use Rattle.general_lemmas.proofs.Places.{slice_get-map_read}
use Rattle.rewriting.specs.Prelude.{right_sides, sides, var, occurs_in}
use Rattle.term_core.specs.Prelude.{view, condition_view, rule_view}
use Rattle.term_core.proofs.Views.{view-Var, view-Fun}
use Rattle.simplify.proofs.Slices.{front_view, rest_view}
use Rattle.simplify.proofs.Naming.{no_variable, in_left, in_own, in_front, in_rest, names_it, no_fun}
use Rattle.simplify.proofs.names.name.Goals.{then-occurs-via-then-occurs, then-occurs-via-else-occurs+then-occurs-2, then-occurs-via-else-occurs+else-occurs-2+then-occurs_in_sides}
use Rattle.simplify.proofs.names.name.Goals.{then-occurs-via-else-occurs+else-occurs-2+else-occurs_in_sides+then-occurs_in_right_sides}
use Rattle.simplify.proofs.names.name.Goals as goal

pub returns-in_default-clause-none : goal.returns-in_default-clause-none
returns-in_default-clause-none c =
    no_variable (rule_view c.args.rule.now) c.args.place (condition_view c.index-cond.result.now)
    (slice_get-map_read condition_view c.args.rule.now.conds.items c.args.place c.index-cond.result.now c.requires c.index-cond.ensures)
    (λ x e. no_fun _ _ x (sym (ap view c.in_default.is ∙ view-Fun c.in_default.field-0 c.in_default.field-1) ∙ e))

pub returns-then-occurs-clause-none : goal.returns-then-occurs-clause-none
returns-then-occurs-clause-none c =
    let r = rule_view c.args.rule.now in
    let k = c.args.place in
    let d = condition_view c.index-cond.result.now in
    let at = slice_get-map_read condition_view c.args.rule.now.conds.items c.args.place c.index-cond.result.now c.requires c.index-cond.ensures in
    let is : d.right ≡ var c.in-Var.x = ap view c.in-Var.is ∙ view-Var c.in-Var.x in
    elim c.then-occurs.branch [
      | then-occurs-via-then-occurs w ↦ in_left r k d at c.in-Var.x is (sym c.occurs.ensures ∙ w.if-occurs.true)
      | then-occurs-via-else-occurs+then-occurs-2 w ↦ in_own r k d at c.in-Var.x is (sym w.occurs-else-occurs.ensures ∙ w.if-occurs-2.true)
      | then-occurs-via-else-occurs+else-occurs-2+then-occurs_in_sides w ↦
          in_front r k d at c.in-Var.x is (ap (λ z. occurs_in c.in-Var.x (sides z))
          (sym (ap (λ z. map condition_view (take k z)) w.deref.ensures.value ∙ front_view condition_view c.args.rule.now.conds.items k))
          ∙ sym w.occurs_in_sides.ensures ∙ w.if-occurs_in_sides.true)
      | then-occurs-via-else-occurs+else-occurs-2+else-occurs_in_sides+then-occurs_in_right_sides w ↦
          in_rest r k d at c.in-Var.x is
          (ap (λ z. occurs_in c.in-Var.x (right_sides z))
          (sym (ap (λ z. map condition_view (take (length z - (k + 1)) (drop (k + 1) z))) w.deref-else-occurs_in_sides.ensures.value
          ∙ rest_view condition_view c.args.rule.now.conds.items k)) ∙ sym w.occurs_in_right_sides.ensures ∙ w.if-occurs_in_right_sides.true)
    ]

pub returns-clause-some : goal.returns-clause-some
returns-clause-some c =
    let r = rule_view c.args.rule.now in
    let k = c.args.place in
    let d = condition_view c.index-cond.result.now in
    let at = slice_get-map_read condition_view c.args.rule.now.conds.items c.args.place c.index-cond.result.now c.requires c.index-cond.ensures in
    let is : d.right ≡ var c.in-Var.x = ap view c.in-Var.is ∙ view-Var c.in-Var.x in
    names_it r k d at c.in-Var.x is (sym c.occurs.ensures ∙ c.if-occurs.false) (sym c.occurs-else-occurs.ensures ∙ c.if-occurs-2.false)
    (ap (λ z. occurs_in c.in-Var.x (sides z)) (sym (ap (λ z. map condition_view (take k z)) c.deref.ensures.value ∙ front_view condition_view c.args.rule.now.conds.items k))
    ∙ sym c.occurs_in_sides.ensures ∙ c.if-occurs_in_sides.false)
    (ap (λ z. occurs_in c.in-Var.x (right_sides z))
    (sym (ap (λ z. map condition_view (take (length z - (k + 1)) (drop (k + 1) z))) c.deref-else-occurs_in_sides.ensures.value
    ∙ rest_view condition_view c.args.rule.now.conds.items k)) ∙ sym c.occurs_in_right_sides.ensures ∙ c.if-occurs_in_right_sides.false)
