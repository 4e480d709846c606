-- Transitions that are looked up by the first argument or the target.
use Rattle.std.proofs.Common.{◌≡◌, ℕ, true, eq-eqb, List, Option, Some, refl, ap, ◌∙◌}
use Rattle.std.specs.List.{filter}
use Rattle.std.proofs.lemmas.Bool.{and_parts, and_from}
use Rattle.number_sets.proofs.Members.{in_filter, filter_in}
use Rattle.certificates.specs.Evidence.{Transition}
use Rattle.automaton_runs.specs.Counted.{Indexed, Finds}
use Rattle.rewriting.specs.Lists.{IsAmong}
use Rattle.rewriting.proofs.Members.{among_contained}
use Rattle.automaton_runs.specs.Counting.{Key, counts, key_of, is_number, chosen}
use Rattle.automaton_runs.proofs.Counted.{has_from, counts_has, number_is}

module _ (a : Indexed) (key : Key) (k : ℕ) where
  -- what stands at a number is a transition of the automaton with the number
  pub looked_from : (t : Transition) → IsAmong t (filter (chosen a.symbols key a.automaton.states k) a.automaton.transitions) → Finds a t.symbol t.arguments t.target × (key_of key t ≡ Some k)
  looked_from t h =
      let i = in_filter (chosen a.symbols key a.automaton.states k) t a.automaton.transitions h in
      let p = and_parts (counts a.symbols a.automaton.states t) (is_number (key_of key t) k) i.1 in (has_from a t i.0 p.0, number_is (key_of key t) k p.1)

  -- each of them stands there
  pub looked_to : (s : Option ℕ) (qs : List ℕ) (q : ℕ) → Finds a s qs q → key_of key (record { symbol = s; arguments = qs; target = q }) ≡ Some k
      → IsAmong (record { symbol = s; arguments = qs; target = q }) (filter (chosen a.symbols key a.automaton.states k) a.automaton.transitions)
  looked_to s qs q h e =
      let t : Transition = record { symbol = s; arguments = qs; target = q } in
      let same : is_number (key_of key t) k ≡ true = ap (λ (o : Option ℕ). is_number o k) e ∙ eq-eqb k k refl in
      filter_in (chosen a.symbols key a.automaton.states k) t a.automaton.transitions (among_contained t a.automaton.transitions h.listed)
      (and_from (counts a.symbols a.automaton.states t) (is_number (key_of key t) k) (counts_has a s qs q h) same)
