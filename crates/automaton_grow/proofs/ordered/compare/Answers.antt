use Rattle.std.proofs.Common.{◌≡◌, subst}
use Rattle.std.specs.Ordering.{nat_cmp}
use Rattle.std.specs.Cmp.Lexicographic.{slice_cmp}
use Rattle.std.specs.declared.cmp.Ordering.TheVariants.{Less, Equal, Greater}
use Rattle.cert_model.specs.EvidenceView.{transition_view}
use Rattle.automaton_grow.proofs.Comparing.{ordered, compared_less, compared_greater, compared_targets}
use Rattle.automaton_grow.proofs.ordered.compare.Goals as goal

pub returns-in-Less-cmp : goal.returns-in-Less-cmp
returns-in-Less-cmp c =
    compared_less (transition_view c.args.a.now) c.args.symbol c.args.args.now c.args.target c.in-Equal.ensures
    (ordered c.args.a.now.args.items c.args.args.now Less (subst (λ z. Less ≡ slice_cmp nat_cmp z c.args.args.now) c.as_slice.ensures.value c.in-Less-cmp.ensures))

pub returns-in-Greater-cmp : goal.returns-in-Greater-cmp
returns-in-Greater-cmp c =
    compared_greater (transition_view c.args.a.now) c.args.symbol c.args.args.now c.args.target c.in-Equal.ensures
    (ordered c.args.a.now.args.items c.args.args.now Greater (subst (λ z. Greater ≡ slice_cmp nat_cmp z c.args.args.now) c.as_slice.ensures.value c.in-Greater-cmp.ensures))

pub returns-in-Equal-cmp : goal.returns-in-Equal-cmp
returns-in-Equal-cmp c =
    compared_targets (transition_view c.args.a.now) c.args.symbol c.args.args.now c.args.target c.in-Equal.ensures
    (ordered c.args.a.now.args.items c.args.args.now Equal (subst (λ z. Equal ≡ slice_cmp nat_cmp z c.args.args.now) c.as_slice.ensures.value c.in-Equal-cmp.ensures))
    c.cmp-in-Equal-cmp.result c.cmp-in-Equal-cmp.ensures
