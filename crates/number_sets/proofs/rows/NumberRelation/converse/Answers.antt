use Rattle.std.proofs.Common.{◌≡◌, ◌∙◌, ℕ, arith}
use Rattle.number_sets.specs.Sets.{members}
use Rattle.number_sets.specs.Relation.{row_of, Relates}
use Rattle.number_sets.proofs.Related.{below_none, turned_more, turned_skip, turned_all, none_found}
use Rattle.number_sets.proofs.rows.NumberRelation.converse.Goals as goal
use Rattle.number_sets.proofs.rows.NumberRelation.converse.Goals.{in-Some+in_ok-alone+in_ok-numbers+in_ok-insert_each, in_default}

pub loop-left-init : goal.loop-left-init
loop-left-init c = λ p q. below_none (λ (s : ℕ). (q ≡ s) × Relates c.args.self.now s p) (c.new-made.ensures p q)

pub loop-left-preserved : goal.loop-left-preserved
loop-left-preserved c =
    elim c.match-row.branch [
      | in-Some+in_ok-alone+in_ok-numbers+in_ok-insert_each w ↦
          turned_more c.args.self.now c.loop-left.made c.match-row.made c.loop-left.left c.loop-left.invariant w.deref.result.now (members w.in_ok-alone.alone) w.insert_each.new.self w.made-is
          (w.deref.ensures.value ∙ w.in_ok-numbers.ensures ∙ w.in-Some.ensures) w.in_ok-alone.ensures w.in_ok-insert_each.ensures
      | in_default w ↦
          turned_skip c.args.self.now c.loop-left.made c.match-row.made c.loop-left.left c.loop-left.invariant w.made-is (none_found (row_of c.args.self.now c.loop-left.left) w.in_default.ensures)
    ]

pub returns : goal.returns
returns c = turned_all c.args.self.now c.loop-left.made c.loop-left.left (λ p q h. let low = c.lefts-left-end.ensures.above p q h in omega arith) c.loop-left.invariant
