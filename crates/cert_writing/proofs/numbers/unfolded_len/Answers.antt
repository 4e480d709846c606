use Rattle.cert_writing.proofs.Prelude.{refl, lent, automaton_text, certificate_view, automata_text, automata_of, unfolded_is, each_is}
use Rattle.cert_writing.proofs.numbers.unfolded_len.Goals as goal

pub returns : goal.returns
returns c =
    let names = c.args.names.now in
    rw (
      ← unfolded_is names (automata_of (certificate_view c.args.cert.now)),
      ← c.in_ok-used_automata.ensures,
      each_is (automata_text names) (automaton_text names) lent refl (λ a others. refl),
    ) c.count.ensures
