use Rattle.std.proofs.Common.{subst, sym, Ok}
use Rattle.critical_pairs.specs.Finding.{IsFound, FindAnswers, StepAnswers}
use Rattle.term_core.proofs.Rules.{handed_on}
use Rattle.critical_pairs.proofs.Rests.{place_within, few_candidates}
use Rattle.critical_pairs.proofs.Finds.{overlap_here, refused_here, offer, beyond, no_offer}
use Rattle.critical_pairs.proofs.search.OverlapSearch.step.Goals as goal
use Rattle.critical_pairs.proofs.search.OverlapSearch.step.Goals.{In-Some}

found : (g : _) (c : In-Some g) → IsFound c.self.inside.sys.now c.find.new.cursor c.in-Some.found
found g c = subst (λ z. FindAnswers c.self.inside.sys.now c.find.new.cursor (Ok z)) c.in-Some.is c.in_ok-found.ensures.answer

pub returns-in_err-found-clause-answer : goal.returns-in_err-found-clause-answer
returns-in_err-found-clause-answer g c =
    subst (StepAnswers g.M.Made.is_of c.args.self.now _) (sym (handed_on _ _ c.from_residual.ensures.1))
    (no_offer c.self.inside.sys.now c.self.invariant.sound c.self.inside.cursor c.find.new.cursor c.self.inside.offered c.args.self.now c.self.view_is c.find.ensures.cursor
    c.find.ensures.passes c.in_err-found.field-0.0 c.in_err-found.ensures.answer)

pub triple-triple-requires : goal.triple-triple-requires
triple-triple-requires g c =
    place_within c.self.inside.sys.now c.self.invariant.sound c.find.new.cursor c.in-Some.found.inner (found g (goal.at.triple-triple-requires g c).In-Some).stands

pub returns-in_err-made-clause-answer : goal.returns-in_err-made-clause-answer
returns-in_err-made-clause-answer g c =
    let f = found g (goal.at.returns-in_err-made-clause-answer g c).In-Some in
    subst (StepAnswers g.M.Made.is_of c.args.self.now _) (sym (handed_on _ _ c.from_residual-in_err-made.ensures.1))
    (no_offer c.self.inside.sys.now c.self.invariant.sound c.self.inside.cursor c.find.new.cursor c.self.inside.offered c.args.self.now c.self.view_is c.find.ensures.cursor
    c.find.ensures.passes c.in_err-made.field-0.0
    (refused_here _ c.find.new.cursor c.in-Some.found.inner f.stands c.triple-triple.result c.triple-triple.ensures c.in_err-made.field-0.0 c.in_err-made.ensures))

pub count-requires-clause-candidates : goal.count-requires-clause-candidates
count-requires-clause-candidates g c =
    few_candidates c.self.inside.sys.now c.self.invariant.sound c.find.new.cursor c.in-Some.found.inner (found g (goal.at.count-requires-clause-candidates g c).In-Some).stands

pub returns-in_err-count-clause-answer : goal.returns-in_err-count-clause-answer
returns-in_err-count-clause-answer g c =
    let f = found g (goal.at.returns-in_err-count-clause-answer g c).In-Some in
    let (o, is_of, there) = c.in_ok-made.ensures in
    let q = c.in_err-count.ensures in
    subst (StepAnswers g.M.Made.is_of c.args.self.now _) (sym (handed_on _ _ c.from_residual-in_err-count.ensures.1))
    (beyond c.self.inside.sys.now c.self.invariant.sound c.self.inside.cursor c.find.new.cursor c.self.inside.offered c.args.self.now c.self.view_is c.find.ensures.cursor
    c.find.ensures.passes o _ q.0 q.1
    (overlap_here _ c.find.new.cursor c.in-Some.found.inner f.stands c.triple-triple.result c.triple-triple.ensures o there))

pub returns-clause-answer : goal.returns-clause-answer
returns-clause-answer g c =
    let f = found g (goal.at.returns-clause-answer g c).In-Some in
    let (o, is_of, there) = c.in_ok-made.ensures in (
      o,
      is_of,
      offer c.self.inside.sys.now c.self.invariant.sound c.self.inside.cursor c.find.new.cursor c.self.inside.offered c.args.self.now c.self.view_is c.find.ensures.cursor
          c.find.ensures.passes c.count.new.here c.count.new.offered o c.in_ok-count.ensures
          (overlap_here _ c.find.new.cursor c.in-Some.found.inner f.stands c.triple-triple.result c.triple-triple.ensures o there),
    )
