use Rattle.cert_reading.proofs.Lemmas.{begun}
use Rattle.cert_reading.proofs.Prelude.{◌≡◌, ◌<◌, [], ◌∷◌, None, length, name_of, Reads}
use Rattle.cert_grammar.specs.Items as spec
use Rattle.cert_reading.proofs.automata.arguments.Given as goal

abbrev pub invariant-arguments : goal.invariant-arguments
invariant-arguments l = record {
  read : Reads l.fn.names l.fn.end (spec.states_behind l.fn.states (name_of l.fn.names l.fn.f) ∷ []) (λ u. begun l.fn.states l.args.items)
      (spec.further_states l.fn.states (name_of l.fn.names l.fn.f) (length l.args.items) ∷ []) l.fn.at l.at;
  some : l.at.refused ≡ None → 0 < length l.args.items;
}

abbrev pub decreases-arguments : goal.decreases-arguments
decreases-arguments l = length l.at.left.now
