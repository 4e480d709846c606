use Rattle.cert_writing.proofs.Prelude.{ℕ, List, ◌+◌, ap, ◌∙◌, sym, automaton_view, automaton_text, place_among, texts, found_at, not_there}
use Rattle.cert_writing.proofs.numbers.AutomatonTexts.number.Goals as goal

pub returns-in-Some : goal.returns-in-Some
returns-in-Some c =
    let keys = c.self.inside.texts.keys in
    sym (found_at c.as_slice.result.now keys c.in-Some.place (sym c.in-Some.ensures.index))
    ∙ ap (λ (t : List ℕ). place_among t (texts keys)) (c.as_slice.ensures.value ∙ c.in_ok-text.ensures)
    ∙ ap (place_among (automaton_text c.args.names.now (automaton_view c.args.automaton.now))) c.self.view_is

pub returns : goal.returns
returns c =
    let keys = c.self.inside.texts.keys in
    ap (λ (n : ℕ). n + 1) c.len-count.ensures.len ∙ sym (not_there c.as_slice.result.now keys (sym c.get_index_of.ensures.index ∙ c.in-None.is))
    ∙ ap (λ (t : List ℕ). place_among t (texts keys)) (c.as_slice.ensures.value ∙ c.in_ok-text.ensures)
    ∙ ap (place_among (automaton_text c.args.names.now (automaton_view c.args.automaton.now))) c.self.view_is
