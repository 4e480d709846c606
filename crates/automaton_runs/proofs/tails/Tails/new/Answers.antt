use Rattle.std.proofs.Common.{◌↔◌, ◌≡◌, ◌<◌, ◌∙◌, ℕ, List, Vec, Global, IsTrue, length, sym, subst}
use Rattle.rewriting.specs.Lists.{IsAmong}
use Rattle.number_sets.specs.Sets.{members}
use Rattle.automaton_runs.specs.Choices.{as_lists}
use Rattle.automaton_runs.specs.Leaves.{AreAllStatesIn, AreZeros}
use Rattle.automaton_runs.proofs.BatchParts.{all_with}
use Rattle.automaton_runs.proofs.tails.Tails.new.Goals as goal

pub invariant_of-result : goal.invariant_of-result
invariant_of-result c =
    let count : c.len.result ≡ length c.args.lists.items = c.len.ensures ∙ c.args.lists.ok.0 in
    let all : (k : ℕ) → IsAmong k (members c.in_ok-all.all) ↔ (k < length c.args.lists.items) = λ k. subst (λ (n : ℕ). IsAmong k (members c.in_ok-all.all) ↔ (k < n)) count (c.in_ok-all.ensures k) in
    record {
      few = c.requires.few;
      wide = λ list i. c.requires.wide list i ∙ sym c.in_ok-leaves.ensures.long;
      all = all;
      leaves = subst (λ (vs : List (Vec ℕ Global)). AreAllStatesIn (as_lists vs) c.in_ok-leaves.leaves.items) c.deref.ensures.value c.in_ok-leaves.ensures.each;
      zeros = all_with (length c.args.lists.items) 0 c.new-zeros.result c.insert_all.new.self (members c.in_ok-all.all) c.new-zeros.ensures all c.in_ok-insert_all.ensures;
      alone = subst (λ (vs : List (Vec ℕ Global)). IsTrue c.are_zeros-only_zeros.result → (list : List ℕ) → IsAmong list (as_lists vs) → AreZeros list) c.deref-2.ensures.value
          c.are_zeros-only_zeros.ensures;
    }
