use Rattle.std.proofs.Common.{◌∙◌, ℕ, arith}
use Rattle.number_sets.specs.Sets.{members}
use Rattle.number_sets.specs.Relation.{row_of, Relates}
use Rattle.number_sets.proofs.Related.{below_none, carried_more, carried_skip, carried_all, none_found}
use Rattle.number_sets.proofs.rows.NumberRelation.carried.Goals as goal
use Rattle.number_sets.proofs.rows.NumberRelation.carried.Goals.{in-Some+in-Some-row+in_ok-numbers+in_ok-insert_each, in-Some+in_default-row, in_default}

pub loop-left-init : goal.loop-left-init
loop-left-init c = λ p q. below_none (λ (s : ℕ). Relates c.args.by.now s p × Relates c.args.self.now s q) (c.new-made.ensures p q)

pub loop-left-preserved : goal.loop-left-preserved
loop-left-preserved c =
    elim c.match-row.branch [
      | in-Some+in-Some-row+in_ok-numbers+in_ok-insert_each w ↦
          carried_more c.args.self.now c.args.by.now c.loop-left.made c.match-row.made c.loop-left.left c.loop-left.invariant w.deref.result.now (members w.in-Some.row.now)
          w.insert_each.new.self w.made-is
          (w.deref.ensures.value ∙ w.in_ok-numbers.ensures ∙ w.in-Some-row.ensures) w.in-Some.ensures w.in_ok-insert_each.ensures
      | in-Some+in_default-row w ↦
          carried_skip c.args.self.now c.args.by.now c.loop-left.made c.match-row.made c.loop-left.left c.loop-left.invariant w.made-is
          (λ p q h i. none_found (row_of c.args.by.now c.loop-left.left) w.in_default-row.ensures p h)
      | in_default w ↦
          carried_skip c.args.self.now c.args.by.now c.loop-left.made c.match-row.made c.loop-left.left c.loop-left.invariant w.made-is
          (λ p q h i. none_found (row_of c.args.self.now c.loop-left.left) w.in_default.ensures q i)
    ]

pub returns : goal.returns
returns c = carried_all c.args.self.now c.args.by.now c.loop-left.made c.loop-left.left (λ p q h. let low = c.lefts-left-end.ensures.above p q h in omega arith) c.loop-left.invariant
