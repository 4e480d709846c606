use Rattle.std.proofs.Common.{arith}
use Rattle.std.proofs.lemmas.List.{length-map}
use Rattle.term_core.proofs.Counting.{counts_before, counts_behind, counts_two, counts_marked}
use Rattle.term_core.proofs.variables.mark.Goals as goal

pub returns-then-x-from-clause-yes : goal.returns-then-x-from-clause-yes
returns-then-x-from-clause-yes c = λ _. counts_before c.args.x c.args.from _ c.if-x-from.true

pub returns-then-at-seen-clause-yes : goal.returns-then-at-seen-clause-yes
returns-then-at-seen-clause-yes c = λ _. counts_behind c.args.x c.args.from _ (simp length-map (omega (arith, c.if-x-from.false, c.if-at-seen.true)))

pub returns-then-seen-at-clause-no : goal.returns-then-seen-at-clause-no
returns-then-seen-at-clause-no c = λ _. counts_two c.args.x c.args.from c.args.seen.now c.if-x-from.false c.if-at-seen.false c.if-seen-at.true

pub returns-clause-yes : goal.returns-clause-yes
returns-clause-yes c = λ _. counts_marked c.args.x c.args.from c.args.seen.now c.if-x-from.false c.if-at-seen.false c.if-seen-at.false
