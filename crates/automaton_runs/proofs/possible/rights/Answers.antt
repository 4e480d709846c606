use Rattle.std.proofs.Common.{◌+◌, ◌<◌, ◌∙◌, ℕ, ap, sym, subst, arith}
use Rattle.rewriting.specs.Lists.{IsAmong}
use Rattle.number_sets.specs.Sets.{members}
use Rattle.number_sets.specs.Relation.{Relates, members_at}
use Rattle.number_sets.specs.declared.words.NumberSet.{NumberSet}
use Rattle.automaton_runs.proofs.MayArrive.{rights_more, rights_none}
use Rattle.automaton_runs.proofs.possible.rights.Goals as goal
use Rattle.automaton_runs.proofs.possible.rights.Goals.{in-Some+in_ok-insert_all, in_default}

pub loop-left-preserved : goal.loop-left-preserved
loop-left-preserved c =
    let r = c.args.relation.now in
    let left = c.loop-left.left in
    elim c.match-row.branch [
      | in-Some+in_ok-insert_all w ↦
          subst (λ (s : NumberSet). (p q : ℕ) → p < left + 1 → Relates r p q → IsAmong q (members s)) (sym w.set-is)
          (rights_more r left (members w.in-Some.row.now) (members c.loop-left.set) (members w.insert_all.new.self) (ap members_at (sym w.in-Some.is) ∙ c.row.ensures)
          w.in_ok-insert_all.ensures c.loop-left.invariant)
      | in_default w ↦
          subst (λ (s : NumberSet). (p q : ℕ) → p < left + 1 → Relates r p q → IsAmong q (members s)) (sym w.set-is)
          (rights_none r left (members c.loop-left.set) (ap members_at (sym w.in_default.is) ∙ c.row.ensures) c.loop-left.invariant)
    ]

pub returns : goal.returns
returns c p q h = let low = c.lefts-left-end.ensures.above p q h in let past = c.loop-left-test.false in c.loop-left.invariant p q (omega arith) h
