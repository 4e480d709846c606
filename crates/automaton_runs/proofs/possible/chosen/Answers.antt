use Rattle.std.proofs.Common.{◌≡◌, ◌+◌, ◌∙◌, List, ℕ, Vec, Global, [], ◌∷◌, ◌++◌, ap, sym, subst, arith}
use Rattle.std.proofs.lemmas.Bool.{false≢true}
use Rattle.std.proofs.lemmas.List.{length-map, map_push}
use Rattle.number_sets.specs.Sets.{members}
use Rattle.automaton_runs.specs.Choices.{as_lists}
use Rattle.automaton_runs.proofs.BatchParts.{list_at}
use Rattle.automaton_runs.proofs.MayArrive.{AreChosenBelow, chosen_more, chosen_skip, chosen_all}
use Rattle.automaton_runs.proofs.possible.chosen.Goals as goal
use Rattle.automaton_runs.proofs.possible.chosen.Goals.{then-has+in_ok-from_slice+in_ok-push, else-has}

pub loop-number-preserved : goal.loop-number-preserved
loop-number-preserved c =
    let lists = as_lists c.args.lists.now in
    let set = members c.args.set.now in
    let n = c.loop-number.number in
    let old = as_lists c.loop-number.made.items in
    let P = λ (v : Vec (Vec ℕ Global) Global). AreChosenBelow (as_lists c.args.lists.now) (members c.args.set.now) (c.loop-number.number + 1) (as_lists v.items) in
    elim c.if-has.branch [
      | then-has+in_ok-from_slice+in_ok-push w ↦
          let v = w.index-lists-number.result in
          let pushed : as_lists w.push.new.self.items ≡ as_lists c.loop-number.made.items ++ w.index-lists-number.result.items ∷ [] =
          ap as_lists w.in_ok-push.ensures.items ∙ map_push (λ (u : Vec ℕ Global). u.items) c.loop-number.made.items w.in_ok-from_slice.field-0
          ∙ ap (λ (l : List ℕ). as_lists c.loop-number.made.items ++ l ∷ []) (w.in_ok-from_slice.ensures.items ∙ w.deref.ensures.value) in
          subst P (sym w.made-is) (chosen_more lists set n old c.loop-number.invariant v.items (as_lists w.push.new.self.items)
          (list_at c.args.lists.now n v c.loop-number-test.true w.index-lists-number.is) pushed)
      | else-has w ↦ subst P (sym w.made-is) (chosen_skip lists set n old c.loop-number.invariant (λ h. false≢true (sym w.if-has.false ∙ c.has.ensures.1 h)))
    ]

pub returns : goal.returns
returns c =
    let long = length-map c.args.lists.now (λ v. v.items) in
    chosen_all (as_lists c.args.lists.now) (members c.args.set.now) c.loop-number.number (as_lists c.loop-number.made.items) c.loop-number.invariant (omega (arith, c.loop-number-test.false))
