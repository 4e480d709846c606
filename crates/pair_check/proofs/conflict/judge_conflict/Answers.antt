use Rattle.std.proofs.Common.{◌≡◌, Some, map, sym, subst}
use Rattle.certificates.specs.Judging.{hypothesis_at}
use Rattle.term_core.specs.RuleView.{condition_view}
use Rattle.critical_pairs.specs.View.{overlap_view}
use Rattle.pair_check.proofs.Judging.{inner_slice, outer_slice, inner_fits, outer_fits, inner_at, outer_at, conflict_judged}
use Rattle.pair_check.proofs.conflict.judge_conflict.Goals as goal

pub judge_conditions-requires-clause-first : goal.judge_conditions-requires-clause-first
judge_conditions-requires-clause-first c =
    let o = c.args.overlap.now in
    let first = condition_view c.in-Some.first.now in
    inner_fits o c.requires.fit c.args.inner first
    (subst (λ cs. hypothesis_at (map condition_view cs) c.args.inner ≡ Some first) (inner_slice o c.deref.result.now c.deref.ensures.value) (sym c.in-Some.ensures))

pub judge_conditions-requires-clause-second : goal.judge_conditions-requires-clause-second
judge_conditions-requires-clause-second c =
    let o = c.args.overlap.now in
    let second = condition_view c.in-Some-condition.second.now in
    outer_fits o c.requires.fit c.args.outer second
    (subst (λ cs. hypothesis_at (map condition_view cs) c.args.outer ≡ Some second) (outer_slice o c.deref-2.result.now c.deref-2.ensures.value)
    (sym c.in-Some-condition.ensures))

pub returns : goal.returns
returns c =
    let o = c.args.overlap.now in
    let first = condition_view c.in-Some.first.now in
    let second = condition_view c.in-Some-condition.second.now in
    conflict_judged c.args.sys.now (overlap_view o) c.args.inner c.args.outer first second
    (record {
      inner = inner_at o c.args.inner (Some first)
          (subst (λ cs. hypothesis_at (map condition_view cs) c.args.inner ≡ Some first) (inner_slice o c.deref.result.now c.deref.ensures.value) (sym c.in-Some.ensures));
      outer = outer_at o c.args.outer (Some second)
          (subst (λ cs. hypothesis_at (map condition_view cs) c.args.outer ≡ Some second) (outer_slice o c.deref-2.result.now c.deref-2.ensures.value)
          (sym c.in-Some-condition.ensures));
    }) c.judge_conditions.result c.judge_conditions.ensures
