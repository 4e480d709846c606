use Rattle.std.proofs.Common.{refl, sym, ◌∙◌, eqb-true, eq-eqb}
use Rattle.matching.proofs.Shapes.{shape_args, shape_first, shape_empty}
use Rattle.matching.proofs.instances.+shape.Goals as goal

pub has_shape-returns-else-f-g : goal.has_shape-returns-else-f-g
has_shape-returns-else-f-g t c =
    let h = c.have_shape.ensures in
    let a = shape_args _ _ _ _ _ _ _ _ c.in-Fun-Fun.is-0 c.in-Fun-Fun.is-1 c.deref.ensures.value c.deref-in-Fun-Fun.ensures.value c.if-f-g.false in
    (λ x. a.0 (h.0 x), λ x. h.1 (a.1 x))

pub have_shape-returns : goal.have_shape-returns
have_shape-returns t c =
    let rest = c.have_shape.ensures in
    let first = c.if-not-has_shape.ensures in
    let a = shape_first _ _ _ _ c.in-len1-up.len_at_least c.in-len1-up-subjects.len_at_least c.pattern-item.is c.subject-item.is in
    (λ x. a.1 (first.0 refl, rest.0 x), λ x. rest.1 (a.0 x).1)

pub have_shape-returns-in_default : goal.have_shape-returns-in_default
have_shape-returns-in_default t c =
    let a = shape_empty c.args.patterns.now c.args.subjects.now c.in_default.len_below in
    (λ x. a.1 (eqb-true _ _ (sym c.is_empty.ensures ∙ x)), λ x. c.is_empty.ensures ∙ eq-eqb _ _ (a.0 x))
