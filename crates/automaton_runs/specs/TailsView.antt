-- The ends of choices that a `Tails` stands for.
use Rattle.std.specs.Prelude.{ℕ, ◌≡◌, ◌↔◌, ◌<◌, ◌^◌, List, length, IsTrue}
use Rattle.rewriting.specs.Lists.{IsAmong}
use Rattle.number_sets.specs.Sets.{members}
use Rattle.number_sets.specs.Relation.{Relates}
use Rattle.automaton_runs.specs.Choices as choices
use Rattle.automaton_runs.specs.Choices.{as_lists}
use Rattle.automaton_runs.specs.Leaves.{AreAllStatesIn, AreZeros}
use Rattle.automaton_runs.specs.declared.tails.Tails.TheInside.{Inside}

abbrev pub tails_view : Inside → choices.Tails
tails_view i = record { width = length i.leaves.items; lists = as_lists i.lists.items }

pub record IsTails (i : Inside) : Type 0 where
  pub few : length i.lists.items < 2 ^ 32
  pub wide : (list : List ℕ) → IsAmong list (as_lists i.lists.items) → length list ≡ length i.leaves.items
  pub all : (k : ℕ) → IsAmong k (members i.all) ↔ (k < length i.lists.items)
  pub leaves : AreAllStatesIn (as_lists i.lists.items) i.leaves.items
  pub zeros : (q k : ℕ) → Relates i.zeros q k ↔ ((k < length i.lists.items) × (q ≡ 0))
  pub alone : IsTrue i.only_zeros → (list : List ℕ) → IsAmong list (as_lists i.lists.items) → AreZeros list
