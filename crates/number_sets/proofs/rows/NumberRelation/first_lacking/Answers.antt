use Rattle.std.proofs.Common.{◌∙◌, ℕ, ◌+◌, Option, sym, subst, arith}
use Rattle.number_sets.proofs.Related.{FirstBelow, first_kept, first_taken, first_of_all}
use Rattle.number_sets.proofs.rows.NumberRelation.first_lacking.Goals as goal
use Rattle.number_sets.proofs.rows.NumberRelation.first_lacking.Goals.{in-Some, in_default}

pub loop-left-preserved : goal.loop-left-preserved
loop-left-preserved c =
    elim c.match-first_lacking_at.branch [
      | in-Some w ↦
          subst (λ (f : Option (ℕ × ℕ)). FirstBelow c.args.self.now c.args.other.now (c.loop-left.left + 1) f) (sym (w.first-is ∙ w.earlier-first.ensures))
          (first_taken c.args.self.now c.args.other.now c.loop-left.left c.loop-left.first w.in-Some.right c.loop-left.invariant w.in-Some.ensures)
      | in_default w ↦
          subst (λ (f : Option (ℕ × ℕ)). FirstBelow c.args.self.now c.args.other.now (c.loop-left.left + 1) f) (sym w.first-is)
          (first_kept c.args.self.now c.args.other.now c.loop-left.left c.loop-left.first c.loop-left.invariant w.in_default.ensures)
    ]

pub returns : goal.returns
returns c = first_of_all c.args.self.now c.args.other.now c.loop-left.left c.loop-left.first (λ p q h. let low = c.lefts-left-end.ensures.above p q h in omega arith) c.loop-left.invariant
