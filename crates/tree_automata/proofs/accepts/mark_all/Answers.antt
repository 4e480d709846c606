use Rattle.std.proofs.Common.{◌<◌, ℕ, length, refl, arith}
use Rattle.number_sets.specs.Relation.{Relates}
use Rattle.tree_automata.proofs.Accepted.{mark_more}
use Rattle.tree_automata.proofs.accepts.mark_all.Goals as goal

pub loop-q-preserved : goal.loop-q-preserved
loop-q-preserved c =
    let long = c.loop-q.auto.out in
    let asked = c.requires in
    let inside : c.loop-q.q < length c.loop-q.out = omega arith in
    mark_more (λ q. (k : ℕ) × Relates c.args.reached.now q k) c.loop-q.out _ c.loop-q.q c.has_left.result inside c.loop-q.invariant refl c.has_left.ensures

pub returns-clause-marked : goal.returns-clause-marked
returns-clause-marked c = λ q low.
    let long = c.loop-q.auto.out in
    let asked = c.requires in
    c.loop-q.invariant q (omega arith)
