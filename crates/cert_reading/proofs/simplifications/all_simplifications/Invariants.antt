use Rattle.cert_reading.proofs.Prelude.{◌≡◌, ◌-◌, None, map, length, automaton_view, simp_view, second_version, by_number, number_in, simplifications_marks, simplifications_of, Reads}
use Rattle.cert_reading.proofs.Prelude.{StepsUse, AreShared}
use Rattle.cert_reading.proofs.simplifications.all_simplifications.Given as goal

abbrev pub invariant-steps : goal.invariant-steps
invariant-steps l = record {
  read : Reads l.fn.names l.fn.end (simplifications_of l.fn.count) (λ u. simplifications_marks u (by_number (number_in l.fn.names (map automaton_view l.fn.automata)))
      (map simp_view l.steps.items)) (simplifications_of (l.fn.count - l.counter)) l.fn.at l.at;
  counted : l.at.refused ≡ None → length (map simp_view l.steps.items) ≡ l.counter;
  plain : l.at.refused ≡ None → StepsUse second_version (map automaton_view l.fn.automata) (map simp_view l.steps.items);
  known : AreShared second_version l.fn.names (map automaton_view l.fn.automata) l.fn.end l.at;
}
