use Rattle.std.proofs.Common.{◌↔◌, IsTrue, sym, ◌∙◌, subst, map, refl}
use Rattle.std.proofs.lemmas.Bool.{false≢true}
use Rattle.rewriting.specs.Prelude.{Fits, values_of, sides, Each, conditions_under}
use Rattle.term_core.specs.RuleView.{condition_view}
use Rattle.critical_pairs.proofs.Measures.{whole_fits, inner_of, outer_of}
use Rattle.critical_pairs.proofs.fitting.does_pair_fit.Goals as goal
use Rattle.critical_pairs.proofs.fitting.does_pair_fit.Goals.{After-do_conditions_fit}

inner_fit : (c : After-do_conditions_fit) → IsTrue c.do_conditions_fit.result ↔ Each Fits (sides (conditions_under (values_of c.args.m.now) (map condition_view c.args.inner.now.conds.items)))
inner_fit c =
    subst (λ z. IsTrue c.do_conditions_fit.result ↔ Each Fits (sides (conditions_under (values_of c.args.m.now) (map condition_view z)))) c.deref.ensures.value c.do_conditions_fit.ensures

pub returns-then-do_conditions_fit : goal.returns-then-do_conditions_fit
returns-then-do_conditions_fit c pair made =
    let b = c.do_conditions_fit-then-do_conditions_fit.result in
    let outer = subst (λ z. IsTrue b ↔ Each Fits (sides (conditions_under (values_of c.args.m.now) (map condition_view z)))) c.deref-then-do_conditions_fit.ensures.value
    c.do_conditions_fit-then-do_conditions_fit.ensures in
    let inner = (inner_fit (goal.at.returns-then-do_conditions_fit c).After-do_conditions_fit).0 c.if-do_conditions_fit.true in (
      λ h. whole_fits _ _ _ _ pair made ((c.if-not-do_both_fit.ensures pair.left made.left).0 refl) (c.if-not-does_instance_fit.ensures.0 refl) inner (outer.0 h),
      λ f. outer.1 (outer_of _ _ _ _ pair made f),
    )

pub returns-else-do_conditions_fit : goal.returns-else-do_conditions_fit
returns-else-do_conditions_fit c pair made =
    let inner = inner_fit (goal.at.returns-else-do_conditions_fit c).After-do_conditions_fit in
    (λ h. absurd (false≢true (sym c.if-do_conditions_fit.false ∙ h)), λ f. inner.1 (inner_of _ _ _ _ pair made f))
