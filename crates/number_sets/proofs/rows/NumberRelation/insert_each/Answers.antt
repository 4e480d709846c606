use Rattle.std.proofs.Common.{◌↔◌, ◌⊎◌, ℕ, ◌+◌, List, get_or, take, take_all, subst, arith}
use Rattle.std.proofs.lemmas.List.{take_more}
use Rattle.rewriting.specs.Lists.{IsAmong}
use Rattle.number_sets.specs.Sets.{members}
use Rattle.number_sets.specs.Relation.{Relates}
use Rattle.number_sets.proofs.Related.{one_more}
use Rattle.number_sets.proofs.rows.NumberRelation.insert_each.Goals as goal

pub loop-left-preserved : goal.loop-left-preserved
loop-left-preserved c =
    let lefts = c.args.lefts.now in
    let i = c.loop-left.left-index in
    λ p q. one_more p (get_or lefts i 0) (take i lefts) (take (i + 1) lefts) (take_more lefts i 0 (omega arith)) (c.loop-left.invariant p q) (c.in_ok-insert_all.ensures p q)

pub returns : goal.returns
returns c = λ p q.
    subst (λ (l : List ℕ). Relates c.loop-left.self p q ↔ (Relates c.args.self.now p q ⊎ (IsAmong p l × IsAmong q (members c.args.set.now))))
    (take_all c.loop-left.left-index c.args.lefts.now (omega arith))
    (c.loop-left.invariant p q)
