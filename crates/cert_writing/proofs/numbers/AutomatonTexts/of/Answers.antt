use Rattle.cert_writing.proofs.Prelude.{ℕ, List, [], refl, ap, sym, ◌∙◌, Automaton, automaton_view, certificate_view, automaton_text, texts_of, automata_of, seen}
use Rattle.cert_writing.proofs.Prelude.{with_text, with_texts, new_texts, texts_next, texts, inserted}
use Rattle.cert_writing.proofs.numbers.AutomatonTexts.of.Goals as goal

pub automata-init : goal.automata-init
automata-init c =
    let names = c.args.names.now in
    ap (λ (ts : List (List ℕ)). with_texts ts (texts_of names (seen c.deref-automaton-items.result.now))) (ap texts c.new-texts.ensures.empty)
    ∙ ap (λ (a : List Automaton). with_texts [] (texts_of names a)) (ap seen c.deref-automaton-items.ensures.value ∙ c.in_ok-automata.ensures)
    ∙ sym (new_texts names [] (automata_of (certificate_view c.args.cert.now)))

pub automata-preserved : goal.automata-preserved
automata-preserved c =
    let names = c.args.names.now in
    let added = inserted c.automata.texts.keys c.insert_full.new.self.keys c.in_ok-text.text c.in_ok-insert_full.ensures.keys in
    texts_next (λ xs. texts_of names (seen xs)) (λ a. automaton_text names (automaton_view a.now)) (λ x xs. refl) _ _ _ _ _ c.automata-test.true c.automaton-item.is
    (added ∙ ap (with_text (texts c.automata.texts.keys)) c.in_ok-text.ensures)
    ∙ c.automata.invariant
