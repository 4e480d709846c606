use Rattle.std.proofs.Common.{◌∙◌, ◌<◌, length, subst, refl, add-one}
use Rattle.critical_pairs.specs.Cursors.{rest_of}
use Rattle.critical_pairs.proofs.Passing.{pass_more}
use Rattle.critical_pairs.proofs.Rests.{stands_here, past_here}
use Rattle.critical_pairs.proofs.cursor.Cursor.settle_in_rule.Goals as goal

pub returns-in-Some-clause-answer : goal.returns-in-Some-clause-answer
returns-in-Some-clause-answer c =
    let inside : c.loop-self.self.place < length c.loop-self.self.places.items = subst (λ n. c.loop-self.self.place < n) (c.len.ensures ∙ c.loop-self.self.places.ok.0) c.loop-self-test.true in
    stands_here c.args.sys.now c.requires.sound c.args.self.now c.loop-self.self c.loop-self.self c.requires.cursor c.loop-self.invariant.outer c.loop-self.invariant.places
    c.index-place.result.now inside c.index-place.ensures c.in-Some.inner
    c.in-Some.ensures

pub loop-self-preserved : goal.loop-self-preserved
loop-self-preserved c =
    let inside : c.loop-self.self.place < length c.loop-self.self.places.items = subst (λ n. c.loop-self.self.place < n) (c.len.ensures ∙ c.loop-self.self.places.ok.0) c.loop-self-test.true in
    record {
      outer = c.loop-self.invariant.outer;
      places = c.loop-self.invariant.places;
      passes =
          pass_more c.args.sys.now (rest_of c.args.sys.now c.args.self.now) (rest_of c.args.sys.now c.loop-self.self) _ c.loop-self.invariant.passes
          (past_here c.args.sys.now c.requires.sound c.args.self.now c.loop-self.self _ c.requires.cursor c.loop-self.invariant.outer c.loop-self.invariant.places
          c.index-place.result.now inside c.index-place.ensures
          c.in_default.ensures refl refl (add-one _) refl);
    }
