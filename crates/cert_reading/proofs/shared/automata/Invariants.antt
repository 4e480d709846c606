use Rattle.cert_reading.proofs.Prelude.{◌≡◌, ◌-◌, [], ◌∷◌, Bool, Option, None, map, length, automaton_view, automata_marks, ArePlainAutomata, ReadsWhere, BeforeEntries}
use Rattle.cert_grammar.specs.Items as spec
use Rattle.cert_reading.proofs.shared.automata.Given as goal

abbrev pub invariant-automata : goal.invariant-automata
invariant-automata l = record {
  read : (given : Option Bool) → ReadsWhere BeforeEntries l.fn.names l.fn.end (spec.behind_automata l.fn.count given ∷ [])
      (λ u. automata_marks u (map automaton_view l.automata.items)) (spec.behind_automata (l.fn.count - l.counter) given ∷ []) l.fn.at l.at;
  counted : l.at.refused ≡ None → length (map automaton_view l.automata.items) ≡ l.counter;
  plain : l.at.refused ≡ None → ArePlainAutomata (map automaton_view l.automata.items);
}
