use Rattle.std.proofs.Common.{◌≡◌, ◌+◌, ◌<◌, ◌≤◌, ◌∙◌, ◌||◌, inl, inr, length, drop, sym, ap, subst, refl}
use Rattle.std.proofs.lemmas.Bool.{or_left}
use Rattle.rewriting.specs.Terms.{size}
use Rattle.term_core.specs.View.{view, views}
use Rattle.term_core.proofs.Sizes.{size_inside}
use Rattle.tcap_infeasible.specs.Clashes.{do_any_clash}
use Rattle.tcap_infeasible.proofs.Clashes.{from_place, past_all, other_roots, arguments}
use Rattle.tcap_infeasible.proofs.capping.+clashes.Goals as goal
use Rattle.tcap_infeasible.proofs.capping.+clashes.Goals.{then-f-g-via-then-f-g, then-f-g-via-else-f-g+then-len}

pub returns-then-f-g : goal.returns-then-f-g
returns-then-f-g t c =
    let w = c.in-Fun-Fun in
    sym
    (other_roots c.args.constants c.args.first.now c.args.second.now w.f w.g w.xs w.ys w.is-0 w.is-1
    (elim c.then-f-g.branch [
      | then-f-g-via-then-f-g v ↦ inl v.if-f-g.true
      | then-f-g-via-else-f-g+then-len v ↦ inr (λ e. v.if-len.true (v.len.ensures ∙ (w.xs.ok.0 ∙ (e ∙ sym (v.len-else-f-g.ensures ∙ w.ys.ok.0)))))
    ]))

pub clashes-requires : goal.clashes-requires
clashes-requires t c =
    let w = c.in-Fun-Fun in
    let h : c.loop-i.i < length w.xs.items = subst (λ z. c.loop-i.i < z) (c.len-i-end.ensures ∙ w.xs.ok.0) c.loop-i-test.true in
    (subst (λ z. size (view c.index.result.now) < z) c.decreases (size_inside c.args.first.now w.f w.xs w.xs.items c.loop-i.i c.index.result.now w.is-0 refl h c.index.ensures), tt)

pub returns-then-clashes : goal.returns-then-clashes
returns-then-clashes t c =
    let w = c.in-Fun-Fun in
    let same : length w.xs.items ≡ length w.ys.items = sym (c.len.ensures ∙ w.xs.ok.0) ∙ (c.if-len.false ∙ (c.len-else-f-g.ensures ∙ w.ys.ok.0)) in
    let h : c.loop-i.i < length w.xs.items = subst (λ z. c.loop-i.i < z) (c.len-i-end.ensures ∙ w.xs.ok.0) c.loop-i-test.true in
    let k : c.loop-i.i < length w.ys.items = subst (λ z. c.loop-i.i < z) same h in
    sym
    (arguments c.args.constants c.args.first.now c.args.second.now w.f w.g w.xs w.ys w.is-0 w.is-1 c.if-f-g.false same ∙
    (c.loop-i.invariant ∙ (from_place c.args.constants w.xs.items w.ys.items c.loop-i.i c.index.result.now c.index-in-loop-i.result.now h k c.index.ensures
    c.index-in-loop-i.ensures ∙ or_left _ _ (sym c.clashes.ensures ∙ c.if-clashes.true))))

pub loop-i-preserved : goal.loop-i-preserved
loop-i-preserved t c =
    let w = c.in-Fun-Fun in
    let same : length w.xs.items ≡ length w.ys.items = sym (c.len.ensures ∙ w.xs.ok.0) ∙ (c.if-len.false ∙ (c.len-else-f-g.ensures ∙ w.ys.ok.0)) in
    let h : c.loop-i.i < length w.xs.items = subst (λ z. c.loop-i.i < z) (c.len-i-end.ensures ∙ w.xs.ok.0) c.loop-i-test.true in
    let k : c.loop-i.i < length w.ys.items = subst (λ z. c.loop-i.i < z) same h in
    c.loop-i.invariant ∙
    (from_place c.args.constants w.xs.items w.ys.items c.loop-i.i c.index.result.now c.index-in-loop-i.result.now h k c.index.ensures c.index-in-loop-i.ensures ∙
    ap (λ a. a || do_any_clash c.args.constants (views (drop (c.loop-i.i + 1) w.xs.items)) (views (drop (c.loop-i.i + 1) w.ys.items))) (sym c.clashes.ensures ∙ c.if-clashes.false))

pub returns-after-loop-i : goal.returns-after-loop-i
returns-after-loop-i t c =
    let w = c.in-Fun-Fun in
    let same : length w.xs.items ≡ length w.ys.items = sym (c.len.ensures ∙ w.xs.ok.0) ∙ (c.if-len.false ∙ (c.len-else-f-g.ensures ∙ w.ys.ok.0)) in
    let past : length w.xs.items ≤ c.loop-i.i = subst (λ z. z ≤ c.loop-i.i) (c.len-i-end.ensures ∙ w.xs.ok.0) c.loop-i-test.false in
    sym (arguments c.args.constants c.args.first.now c.args.second.now w.f w.g w.xs w.ys w.is-0 w.is-1 c.if-f-g.false same
    ∙ (c.loop-i.invariant ∙ past_all c.args.constants w.xs.items w.ys.items c.loop-i.i past))
