use Rattle.std.proofs.Common.{subst, sym, refl, Ok, add-one, arith}
use Rattle.critical_pairs.specs.Offers.{DoesPass}
use Rattle.critical_pairs.specs.Cursors.{rest_of, StandsBefore, SettleAnswers}
use Rattle.critical_pairs.specs.Finding.{FindAnswers}
use Rattle.critical_pairs.specs.Spots.{UnifierAnswers}
use Rattle.term_core.proofs.Rules.{handed_on}
use Rattle.critical_pairs.proofs.Passing.{pass_more, pass_one, fewer_left}
use Rattle.critical_pairs.proofs.Rests.{cursor_kept, next_there, place_within, few_candidates}
use Rattle.critical_pairs.proofs.Finds.{spot_here, clash_here, found_here, refused_here}
use Rattle.critical_pairs.proofs.search.find.Goals as goal
use Rattle.critical_pairs.proofs.search.find.Goals.{After-settle, In-Some}

-- the next inner rule
passed : (c : After-settle) → DoesPass c.args.sys.now (rest_of c.args.sys.now c.args.cursor.now) (rest_of c.args.sys.now c.settle.new.self)
passed c = pass_more c.args.sys.now (rest_of c.args.sys.now c.args.cursor.now) (rest_of c.args.sys.now c.loop-inner.cursor) _ c.loop-inner.invariant.passes c.settle.ensures.passes

stands : (c : In-Some) → StandsBefore c.args.sys.now c.settle.new.self c.in-Some.inner
stands c = subst (λ z. SettleAnswers c.args.sys.now c.settle.new.self (Ok z)) c.in-Some.is c.in_ok-inner.ensures.answer

pub returns-in_err-inner-clause-passes : goal.returns-in_err-inner-clause-passes
returns-in_err-inner-clause-passes c = passed (goal.at.returns-in_err-inner-clause-passes c).After-settle

pub triple-requires : goal.triple-requires
triple-requires c = place_within c.args.sys.now c.requires.sound c.settle.new.self c.in-Some.inner (stands (goal.at.triple-requires c).In-Some)

pub unifier_at-requires : goal.unifier_at-requires
unifier_at-requires c =
    spot_here c.args.sys.now c.settle.new.self c.in-Some.inner (stands (goal.at.unifier_at-requires c).In-Some) c.triple.result c.triple.ensures c.requires.sound c.settle.ensures.cursor

pub returns-in_err-unifier-clause-passes : goal.returns-in_err-unifier-clause-passes
returns-in_err-unifier-clause-passes c = passed (goal.at.returns-in_err-unifier-clause-passes c).After-settle

pub returns-in_err-unifier-clause-answer : goal.returns-in_err-unifier-clause-answer
returns-in_err-unifier-clause-answer c =
    let s = stands (goal.at.returns-in_err-unifier-clause-answer c).In-Some in
    subst (FindAnswers c.args.sys.now c.settle.new.self) (sym (handed_on _ _ c.from_residual-in_err-unifier.ensures.1))
    (refused_here c.args.sys.now c.settle.new.self c.in-Some.inner s c.triple.result c.triple.ensures c.in_err-unifier.field-0.0 c.in_err-unifier.ensures)

pub returns-in-Some-2-clause-passes : goal.returns-in-Some-2-clause-passes
returns-in-Some-2-clause-passes c = passed (goal.at.returns-in-Some-2-clause-passes c).After-settle

pub returns-in-Some-2-clause-answer : goal.returns-in-Some-2-clause-answer
returns-in-Some-2-clause-answer c =
    let s = stands (goal.at.returns-in-Some-2-clause-answer c).In-Some in
    let t = c.triple.result in
    found_here c.args.sys.now c.settle.new.self c.in-Some.inner s t c.triple.ensures c.in-Some-2.unifier
    (subst (λ z. UnifierAnswers c.args.sys.now t.inner t.pos.now t.outer (Ok z)) c.in-Some-2.is c.in_ok-unifier.ensures)

pub overflow_add-cursor : goal.overflow_add-cursor
overflow_add-cursor c =
    let few = few_candidates c.args.sys.now c.requires.sound c.settle.new.self c.in-Some.inner (stands (goal.at.overflow_add-cursor c).In-Some) in
    omega (arith, few)

pub loop-inner-smaller : goal.loop-inner-smaller
loop-inner-smaller c =
    let sys = c.args.sys.now in
    let s = stands (goal.at.loop-inner-smaller c).In-Some in
    fewer_left sys (rest_of sys c.loop-inner.cursor) _ (c.in-Some.inner, (s.at.0, c.settle.new.self.outer))
    (pass_more sys (rest_of sys c.loop-inner.cursor) (rest_of sys c.settle.new.self) _ c.settle.ensures.passes
    (next_there sys c.requires.sound c.settle.new.self _ c.in-Some.inner c.settle.ensures.cursor s refl refl refl (add-one c.settle.new.self.candidate)))

pub loop-inner-preserved : goal.loop-inner-preserved
loop-inner-preserved c =
    let sys = c.args.sys.now in
    let s = stands (goal.at.loop-inner-preserved c).In-Some in
    let t = c.triple.result in
    let clash = subst (λ z. UnifierAnswers sys t.inner t.pos.now t.outer (Ok z)) c.in_default-2.is c.in_ok-unifier.ensures in
    record {
      cursor = cursor_kept sys c.settle.new.self _ c.settle.ensures.cursor refl refl;
      passes =
          pass_one sys (rest_of sys c.args.cursor.now) _ (c.in-Some.inner, (s.at.0, c.settle.new.self.outer))
          (pass_more sys (rest_of sys c.args.cursor.now) (rest_of sys c.settle.new.self) _ (passed (goal.at.loop-inner-preserved c).After-settle)
          (next_there sys c.requires.sound c.settle.new.self _ c.in-Some.inner c.settle.ensures.cursor s refl refl refl (add-one c.settle.new.self.candidate)))
          (clash_here sys c.settle.new.self c.in-Some.inner s t c.triple.ensures clash);
    }

pub returns-clause-passes : goal.returns-clause-passes
returns-clause-passes c = passed (goal.at.returns-clause-passes c).After-settle
