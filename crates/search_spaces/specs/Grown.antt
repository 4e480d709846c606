-- The automaton that grows from a term, where growth passes no limit.
use Rattle.std.specs.Prelude.{ℕ, ◌≡◌, ◌≤◌, length, Some}
use Rattle.rewriting.specs.Prelude.{Term, Rule, System, rule_at}
use Rattle.certificates.specs.Evidence.{Automaton}
use Rattle.automata.specs.Growth.{IsGrowthOf, AreStatesMany, IsTooWide}

pub record GrowsTo (sys : System) (s : Term) (a : Automaton) : Type 0 where
  pub growth : IsGrowthOf sys s a
  pub few_states : AreStatesMany sys s → ⊥
  pub narrow : (i : ℕ) (r : Rule) → rule_at sys i ≡ Some r → IsTooWide sys s r → ⊥
  pub few_transitions : length a.transitions ≤ 5000
