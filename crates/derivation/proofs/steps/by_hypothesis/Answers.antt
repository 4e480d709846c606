use Rattle.std.proofs.Common.{map}
use Rattle.certificates.specs.Prelude.{HypothesisStep, HypothesisFails, no_such_hypothesis, no_redex, too_large}
use Rattle.term_core.specs.Prelude.{view, condition_view}
use Rattle.derivation.specs.Judged.{IsCounted}
use Rattle.derivation.proofs.Judging.{judged_empty}
use Rattle.derivation.proofs.Contracting.{hypothesis_absent, hypothesis_elsewhere, hypothesis_large}
use Rattle.derivation.proofs.steps.by_hypothesis.Goals as goal

pub returns-in_default : goal.returns-in_default
returns-in_default c =
    let hyps = map condition_view c.args.hyps.now in
    let t = view c.args.t.term in
    let p = c.args.p.now in
    judged_empty (λ u. HypothesisStep hyps t c.args.number p (view u.term) × IsCounted u) (HypothesisFails hyps t c.args.number p) no_such_hypothesis c.here.result c.here.ensures
    (hypothesis_absent hyps t c.args.number p c.in_default.ensures)

pub returns-in_default-nodes_where : goal.returns-in_default-nodes_where
returns-in_default-nodes_where c =
    let hyps = map condition_view c.args.hyps.now in
    let t = view c.args.t.term in
    let p = c.args.p.now in
    judged_empty (λ u. HypothesisStep hyps t c.args.number p (view u.term) × IsCounted u) (HypothesisFails hyps t c.args.number p) no_redex c.here-in_default-nodes_where.result
    c.here-in_default-nodes_where.ensures
    (hypothesis_elsewhere hyps t c.args.number p (condition_view c.in-Some.h.now) c.in-Some.ensures c.in_default-nodes_where.ensures.none)

pub returns-in-None : goal.returns-in-None
returns-in-None c =
    let hyps = map condition_view c.args.hyps.now in
    let t = view c.args.t.term in
    let p = c.args.p.now in
    judged_empty (λ u. HypothesisStep hyps t c.args.number p (view u.term) × IsCounted u) (HypothesisFails hyps t c.args.number p) too_large c.here-in-None.result c.here-in-None.ensures
    (hypothesis_large hyps t c.args.number p (condition_view c.in-Some.h.now) (view c.in_ok-part.part) c.in-Some.ensures c.in-Some-nodes_where.ensures.some.0
    c.in_ok-part.ensures c.in-None.ensures.none)
