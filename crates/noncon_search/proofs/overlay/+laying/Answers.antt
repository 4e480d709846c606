use Rattle.std.proofs.Common.{◌≤◌, ◌<◌, ◌^◌, ◌∙◌, min, length, sym, ap, arith}
use Rattle.std.proofs.lemmas.List.{with_items_is}
use Rattle.std.specs.Vec.{with_items}
use Rattle.term_core.specs.View.{view}
use Rattle.noncon_search.specs.Laying.{laid}
use Rattle.noncon_search.proofs.Placed.{next_laid, all_laid_there, put_back}
use Rattle.noncon_search.proofs.overlay.+laying.Goals as goal

pub lay-returns-in_ok-lay_inside-in-Fun : goal.lay-returns-in_ok-lay_inside-in-Fun
lay-returns-in_ok-lay_inside-in-Fun t c =
    let kept = c.lay_inside.auto.args in
    let all = c.deref_mut.ensures.len in
    put_back (2 ^ 31) c.args.whole.now c.in-Fun.f c.in-Fun.args (with_items c.in-Fun.args c.lay_inside.new.args) c.deref_mut.result.now c.lay_inside.new.args (view c.args.cap.now)
    (sym c.replace.ensures.value ∙ c.in-Fun.is) c.deref_mut.ensures.value (with_items_is c.in-Fun.args c.lay_inside.new.args (omega (arith, kept, all))) (c.in_ok-lay_inside-in-Fun.ensures c.in-Fun.f)

pub lay_inside-parts-preserved : goal.lay_inside-parts-preserved
lay_inside-parts-preserved t c =
    let others = c.in-Fun.others.ok.0 in
    let here : c.parts.i < length c.parts.args = omega arith in
    let there : c.parts.i < length c.in-Fun.others.items = omega (arith, others) in
    next_laid (2 ^ 31) c.parts.args c.in-Fun.others.items c.parts.i c.index-args-i.result c.index.result.now c.lay.new.whole here there c.index-args-i.is c.index.ensures
    (c.in_ok-lay-in-Fun.ensures ∙ ap (λ z. laid (2 ^ 31) (view z) (view c.index.result.now)) (sym c.index-args-i.is))
    ∙ c.parts.invariant

pub lay_inside-returns-after-parts : goal.lay_inside-returns-after-parts
lay_inside-returns-after-parts t c =
    let others = c.in-Fun.others.ok.0 in
    let past : min (length c.parts.args) (length c.in-Fun.others.items) ≤ c.parts.i = omega (arith, others) in
    all_laid_there (2 ^ 31) c.args.cap.now c.in-Fun.field-0 c.in-Fun.others c.in-Fun.is c.args.args.now c.parts.args c.parts.i past c.parts.invariant
