use Rattle.cert_writing.proofs.Prelude.{◌≡◌, drop, certificate_view, texts_of, shared_by, seen, with_texts, texts}
use Rattle.cert_writing.proofs.numbers.AutomatonTexts.of.Given as goal

abbrev pub invariant-automata : goal.invariant-automata
invariant-automata l = with_texts (texts l.texts.keys) (texts_of l.names (seen (drop l.automaton-index l.automaton-items))) ≡ texts_of l.names (shared_by l.names (certificate_view l.cert))
