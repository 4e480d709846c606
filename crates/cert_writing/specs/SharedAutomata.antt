-- The automata of a certificate as they are written: each text once, and numbers in place of uses.
use Rattle.std.specs.Prelude.{ℕ, List, [], ◌∷◌, ◌++◌, map, if◌then◌else◌}
use Rattle.std.specs.Borrow.{Bor}
use Rattle.certificates.specs.Evidence as math
use Rattle.cert_model.specs.declared.evidence.Automaton.{Automaton}
use Rattle.cert_model.specs.EvidenceView.{automaton_view}
use Rattle.cert_grammar.specs.Prelude.{is_among}
use Rattle.cert_writing.specs.declared.numbers.AutomatonTexts.TheInside.{Inside}

-- the automata that are lent
abbrev pub lent : Bor Automaton → math.Automaton
lent a = automaton_view a.now

abbrev pub seen : List (Bor Automaton) → List math.Automaton
seen = map lent

abbrev pub texts_view : Inside → List (List ℕ)
texts_view t = map (λ v. v.items) t.texts.keys

-- the texts, and behind them one, where it is new
abbrev pub with_text : List (List ℕ) → List ℕ → List (List ℕ)
with_text texts t = if is_among t texts then texts else (texts ++ t ∷ [])

abbrev pub with_texts : List (List ℕ) → List (List ℕ) → List (List ℕ)
with_texts texts [] = texts
with_texts texts (t ∷ ts) = with_texts (with_text texts t) ts

abbrev pub joined : List (List ℕ) → List ℕ
joined [] = []
joined (t ∷ ts) = t ++ joined ts
