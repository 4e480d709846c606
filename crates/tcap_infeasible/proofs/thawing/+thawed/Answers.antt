use Rattle.std.proofs.Common.{◌<◌, ◌≤◌, ◌∙◌, length, subst, refl}
use Rattle.rewriting.specs.Terms.{size}
use Rattle.term_core.specs.View.{view}
use Rattle.term_core.proofs.Sizes.{size_inside}
use Rattle.tcap_infeasible.proofs.Thawed.{place_below, one_lies, one_thawed, whole_thawed}
use Rattle.tcap_infeasible.proofs.thawing.+thawed.Goals as goal

pub thawed-requires : goal.thawed-requires
thawed-requires t c =
    let w = c.in-Fun-Fun in
    let count = c.len-i-end.ensures ∙ w.args.ok.0 in
    let h : c.loop-i.i < length w.args.items = subst (λ z. c.loop-i.i < z) count c.loop-i-test.true in
    let l = place_below c.args.fresh w.args.items w.caps.items c.loop-i.i c.loop-i.out.items c.index.result.now h c.index.ensures c.loop-i.invariant in (
      subst (λ z. size (view c.index.result.now) < z) c.decreases (size_inside c.args.t.now w.f w.args w.args.items c.loop-i.i c.index.result.now w.is-0 refl h c.index.ensures),
      one_lies c.args.fresh w.args.items w.caps.items c.loop-i.i c.loop-i.out.items c.index.result.now c.index-in-loop-i.result.now h c.index.ensures l c.index-in-loop-i.ensures c.loop-i.invariant,
    )

pub loop-i-preserved : goal.loop-i-preserved
loop-i-preserved t c =
    let w = c.in-Fun-Fun in
    let count = c.len-i-end.ensures ∙ w.args.ok.0 in
    let h : c.loop-i.i < length w.args.items = subst (λ z. c.loop-i.i < z) count c.loop-i-test.true in
    let l = place_below c.args.fresh w.args.items w.caps.items c.loop-i.i c.loop-i.out.items c.index.result.now h c.index.ensures c.loop-i.invariant in
    one_thawed c.args.fresh w.args.items w.caps.items c.loop-i.i c.loop-i.out.items c.index.result.now c.index-in-loop-i.result.now h c.index.ensures l c.index-in-loop-i.ensures c.loop-i.invariant
    c.in_ok-thawed-in-Fun-Fun.field-0 c.push.new.self.items c.in_ok-thawed-in-Fun-Fun.ensures c.in_ok-push-in-Fun-Fun.ensures.items

pub returns-after-loop-i : goal.returns-after-loop-i
returns-after-loop-i t c =
    let w = c.in-Fun-Fun in
    whole_thawed c.args.fresh c.args.t.now c.args.cap.now w.f w.field-0-1 w.args w.caps c.loop-i.i c.loop-i.out w.is-0 w.is-1
    (subst (λ z. z ≤ c.loop-i.i) (c.len-i-end.ensures ∙ w.args.ok.0) c.loop-i-test.false) c.loop-i.invariant
