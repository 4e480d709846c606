use Rattle.std.proofs.Common.{List, ℕ, [], ◌∷◌, ⊎_elim, subst, sym, take}
use Rattle.rewriting.specs.Lists.{IsAmong}
use Rattle.rewriting.proofs.Lists.{among_either}
use Rattle.automaton_runs.specs.Choices.{as_lists}
use Rattle.automaton_runs.specs.Leaves.{AreZeros}
use Rattle.automaton_runs.proofs.BatchParts.{lists_more}
use Rattle.automaton_runs.proofs.tails.are_zeros.Goals as goal

pub loop-list-preserved : goal.loop-list-preserved
loop-list-preserved c list h =
    let i = c.loop-list.list-index in
    let more = lists_more c.args.lists.now c.loop-list.list-index c.list-item.result c.loop-list-test.true c.list-item.is in
    let here : AreZeros c.list-item.result.items = subst AreZeros c.deref.ensures.value (c.is_zeros.ensures c.if-not-is_zeros.false) in
    ⊎_elim (λ k. c.loop-list.invariant list k) (λ k. ⊎_elim (λ e. subst AreZeros (sym e) here) (λ f. absurd f) k)
    (among_either list (as_lists (take c.loop-list.list-index c.args.lists.now)) (c.list-item.result.items ∷ []) (subst (λ (ls : List (List ℕ)). IsAmong list ls) more h))
