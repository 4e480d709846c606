use Rattle.std.proofs.Common.{subst, sym, refl, ap, map, Ok, arith}
use Rattle.critical_pairs.specs.View.{overlap_view}
use Rattle.critical_pairs.specs.Answers.{OverlapsAnswers}
use Rattle.critical_pairs.specs.Cursors.{rest_of, StandsBefore, SettleAnswers}
use Rattle.term_core.proofs.Rules.{handed_on}
use Rattle.critical_pairs.proofs.Passing.{fewer_left}
use Rattle.critical_pairs.proofs.Rests.{place_within, few_candidates}
use Rattle.critical_pairs.proofs.Finds.{spot_here}
use Rattle.critical_pairs.proofs.Walk.{begins, next_of, on_here, kept_here, walked_on, refused_walk, put_refused, all_walked, few_origins}
use Rattle.critical_pairs.proofs.overlaps_with.Goals as goal
use Rattle.critical_pairs.proofs.overlaps_with.Goals.{In-Some}

stands : (c : In-Some) → StandsBefore c.args.sys.now c.settle.new.self c.in-Some.inner
stands c = subst (λ z. SettleAnswers c.args.sys.now c.settle.new.self (Ok z)) c.in-Some.is c.in_ok-inner.ensures.answer

pub new-requires-clause-few : goal.new-requires-clause-few
new-requires-clause-few c = few_origins c.args.earlier.now c.args.sys.now c.args.origins.now c.requires.origins_are c.rules_are_sound.ensures

pub triples-init : goal.triples-init
triples-init c =
    begins c.args.sys.now c.new-cursor.result c.in_ok-kept.kept _ c.new-cursor.ensures.outer c.new-cursor.ensures.places (ap (map overlap_view) c.new-all.ensures.items)
    (c.in_ok-kept.ensures c.args.sys.now c.requires)

pub triple-requires : goal.triple-requires
triple-requires c = place_within c.args.sys.now c.rules_are_sound.ensures c.settle.new.self c.in-Some.inner (stands (goal.at.triple-requires c).In-Some)

pub overlap_at-requires : goal.overlap_at-requires
overlap_at-requires c =
    spot_here c.args.sys.now c.settle.new.self c.in-Some.inner (stands (goal.at.overlap_at-requires c).In-Some) c.triple.result c.triple.ensures c.rules_are_sound.ensures c.settle.ensures.cursor

pub returns-in_err-overlap : goal.returns-in_err-overlap
returns-in_err-overlap c =
    subst (OverlapsAnswers c.args.sys.now) (sym (handed_on _ _ c.from_residual-in_err-overlap.ensures.1))
    (refused_walk c.args.sys.now c.rules_are_sound.ensures c.triples.cursor c.settle.new.self c.triples.kept (map overlap_view c.triples.all.items) c.triples.invariant
    c.settle.ensures.cursor c.settle.ensures.passes c.in-Some.inner (stands (goal.at.returns-in_err-overlap c).In-Some) c.triple.result
    c.triple.ensures c.in_err-overlap.field-0.0
    (c.in_err-overlap.ensures.answer (rest_of c.args.sys.now (next_of c.settle.new.self))
    (kept_here c.args.sys.now c.rules_are_sound.ensures c.triples.cursor c.settle.new.self c.triples.kept (map overlap_view c.triples.all.items) c.triples.invariant
    c.settle.ensures.cursor c.settle.ensures.passes c.in-Some.inner (stands (goal.at.returns-in_err-overlap c).In-Some) c.triple.result c.triple.ensures)))

pub returns-in_err-put : goal.returns-in_err-put
returns-in_err-put c =
    subst (OverlapsAnswers c.args.sys.now) (sym (handed_on _ _ c.from_residual-in_err-put.ensures.1))
    (put_refused c.args.sys.now c.rules_are_sound.ensures c.triples.cursor c.settle.new.self c.triples.kept (map overlap_view c.triples.all.items) c.triples.invariant
    c.settle.ensures.cursor c.settle.ensures.passes c.in-Some.inner (stands (goal.at.returns-in_err-put c).In-Some) c.triple.result c.triple.ensures c.triples.all.items
    c.put.new.found.items c.in_ok-overlap.overlap c.in_err-put.field-0.0 refl
    (c.in_ok-overlap.ensures.answer (rest_of c.args.sys.now (next_of c.settle.new.self))
    (kept_here c.args.sys.now c.rules_are_sound.ensures c.triples.cursor c.settle.new.self c.triples.kept (map overlap_view c.triples.all.items) c.triples.invariant
    c.settle.ensures.cursor c.settle.ensures.passes c.in-Some.inner (stands (goal.at.returns-in_err-put c).In-Some) c.triple.result c.triple.ensures)) c.in_err-put.ensures)

pub overflow_add-cursor : goal.overflow_add-cursor
overflow_add-cursor c =
    let few = few_candidates c.args.sys.now c.rules_are_sound.ensures c.settle.new.self c.in-Some.inner (stands (goal.at.overflow_add-cursor c).In-Some) in
    omega (arith, few)

pub triples-smaller : goal.triples-smaller
triples-smaller c =
    let sys = c.args.sys.now in
    fewer_left sys (rest_of sys c.triples.cursor) (rest_of sys (next_of c.settle.new.self)) _
    (on_here c.args.sys.now c.rules_are_sound.ensures c.triples.cursor c.settle.new.self c.triples.kept (map overlap_view c.triples.all.items) c.triples.invariant
    c.settle.ensures.cursor c.settle.ensures.passes c.in-Some.inner (stands (goal.at.triples-smaller c).In-Some) c.triple.result c.triple.ensures)

pub triples-preserved : goal.triples-preserved
triples-preserved c =
    let later = rest_of c.args.sys.now (next_of c.settle.new.self) in
    let kept = kept_here c.args.sys.now c.rules_are_sound.ensures c.triples.cursor c.settle.new.self c.triples.kept (map overlap_view c.triples.all.items) c.triples.invariant
    c.settle.ensures.cursor c.settle.ensures.passes c.in-Some.inner (stands (goal.at.triples-preserved c).In-Some) c.triple.result c.triple.ensures in
    walked_on c.args.sys.now c.rules_are_sound.ensures c.triples.cursor c.settle.new.self c.triples.kept (map overlap_view c.triples.all.items) c.triples.invariant
    c.settle.ensures.cursor c.settle.ensures.passes c.in-Some.inner (stands (goal.at.triples-preserved c).In-Some) c.triple.result c.triple.ensures c.overlap_at.new.kept
    c.triples.all.items c.put.new.found.items c.in_ok-overlap.overlap refl
    (c.in_ok-overlap.ensures.kept later kept) (c.in_ok-overlap.ensures.answer later kept) c.in_ok-put.ensures

pub returns : goal.returns
returns c =
    let done = subst (λ z. SettleAnswers c.args.sys.now c.settle.new.self (Ok z)) c.in_default.is c.in_ok-inner.ensures.answer in
    all_walked c.args.sys.now c.rules_are_sound.ensures c.triples.cursor c.settle.new.self c.triples.kept (map overlap_view c.triples.all.items) c.triples.invariant
    c.settle.ensures.cursor c.settle.ensures.passes done
