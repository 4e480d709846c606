use Rattle.std.proofs.Common.{refl, sym, ◌∙◌, eqb-true, eq-eqb}
use Rattle.matching.proofs.SideBySide.{agrees_args, agree_first, agree_empty}
use Rattle.matching.proofs.instances.+agrees.Goals as goal

pub agrees-returns-else-f-g : goal.agrees-returns-else-f-g
agrees-returns-else-f-g t c =
    let h = c.agree_all.ensures in
    let a = agrees_args _ _ _ _ _ _ _ _ _ c.in-Fun-Fun.is-0 c.in-Fun-Fun.is-1 c.deref.ensures.value c.deref-in-Fun-Fun.ensures.value c.if-f-g.false in
    (λ x. a.0 (h.0 x), λ x. h.1 (a.1 x))

pub agree_all-returns : goal.agree_all-returns
agree_all-returns t c =
    let rest = c.agree_all.ensures in
    let first = c.if-not-agrees.ensures in
    let a = agree_first _ _ _ _ _ c.in-len1-up.len_at_least c.in-len1-up-subjects.len_at_least c.pattern-item.is c.subject-item.is in
    (λ x. a.1 (first.0 refl, rest.0 x), λ x. rest.1 (a.0 x).1)

pub agree_all-returns-in_default : goal.agree_all-returns-in_default
agree_all-returns-in_default t c =
    let a = agree_empty _ c.args.patterns.now c.args.subjects.now c.in_default.len_below in
    (λ x. a.1 (eqb-true _ _ (sym c.is_empty.ensures ∙ x)), λ x. c.is_empty.ensures ∙ eq-eqb _ _ (a.0 x))
