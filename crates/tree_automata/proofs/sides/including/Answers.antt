use Rattle.std.proofs.Common.{◌≡◌, ◌↔◌, ◌⊎◌, ◌∙◌, arith, ap, sym, subst}
use Rattle.std.proofs.lemmas.Bool.{false≢true}
use Rattle.number_sets.specs.Sets.{members}
use Rattle.number_sets.specs.declared.words.NumberSet.{NumberSet}
use Rattle.rewriting.specs.Lists.{IsAmong}
use Rattle.tree_automata.proofs.Included.{part_more, part_same, part_all}
use Rattle.tree_automata.proofs.sides.including.Goals as goal
use Rattle.tree_automata.proofs.sides.including.Goals.{then-includes+in_ok-insert, else-includes}

pub loop-q-preserved : goal.loop-q-preserved
loop-q-preserved c =
    elim c.if-includes.branch [
      | then-includes+in_ok-insert w ↦
          part_more c.args.index.now c.args.p c.loop-q.q (members c.loop-q.set) (members c.if-includes.set) c.loop-q.invariant
          (λ q. subst (λ (v : NumberSet). IsAmong q (members v) ↔ (IsAmong q (members c.loop-q.set) ⊎ (q ≡ c.loop-q.q))) (sym w.set-is) (w.in_ok-insert.ensures q))
          (c.includes.ensures.0 w.if-includes.true)
      | else-includes w ↦
          part_same c.args.index.now c.args.p c.loop-q.q (members c.loop-q.set) (members c.if-includes.set) c.loop-q.invariant (ap members w.set-is)
          (λ twins. false≢true (sym w.if-includes.false ∙ c.includes.ensures.1 twins))
    ]

pub returns : goal.returns
returns c =
    part_all c.args.index.now c.args.p c.loop-q.q (members c.loop-q.set) c.loop-q.invariant
    (let past = c.loop-q-test.false in let up = c.loop-q.auto.q-end in let e = c.states-q-end.ensures in omega arith)
