-- What the code reads of shared automata.
use Rattle.std.specs.Prelude.{◌≡◌, suc, List, [], ◌∷◌, ◌++◌, length, codes}
use Rattle.certificates.specs.Evidence.{Automaton}
use Rattle.cops_names.specs.NameTable.{NameTable}
use Rattle.cert_grammar.specs.Prelude.{Version, first_version, second_version, largest, Naming, states, transitions, shared_automata, automaton_ends, in_range, is_few, shares, Mark, fixed, word}
use Rattle.cert_grammar.specs.Prelude.{closed, number_for}
use Rattle.cert_grammar.specs.Prelude.{accepting_marks, transitions_marks, automaton_marks, automata_marks, texts_of, AllNew, Shared}
use Rattle.cert_grammar.specs.WordMarks.{numeral}
use Rattle.cert_laws.proofs.PassEvidence.{AllOf}
use Rattle.cert_words.specs.Walks.{AreWithoutStates}

-- the marks of an automaton behind its first word
abbrev pub behind_states : Naming → Automaton → List Mark
behind_states u a =
    fixed (codes " ") ∷ word (numeral a.states) (in_range 0 1 (suc largest) a.states ∷ is_few states a.states ∷ [])
    ∷ fixed (codes "\naccepting") ∷ (accepting_marks a.states a.accepting
    ++ (fixed (codes "\ntransitions ") ∷ number_for transitions (length a.transitions) ∷ fixed (codes "\n") ∷ transitions_marks u a.states a.transitions))

-- one automaton, judged where it ends
abbrev pub sealed_marks : Naming → Automaton → List Mark
sealed_marks u a = automaton_marks u a ++ (closed (shares automaton_ends) ∷ [])

-- the lines between the first one and the body
abbrev pub shared_marks : Naming → List Automaton → List Mark
shared_marks u all = fixed (codes "shared ") ∷ number_for shared_automata (length all) ∷ fixed (codes "\n") ∷ automata_marks u all

abbrev pub ArePlainAutomata : List Automaton → Type 0
ArePlainAutomata all = AllOf (λ a. AreWithoutStates a.transitions) all

-- what is known of shared automata are the texts of these, each of them once
abbrev pub IsKnown : NameTable → List Automaton → Shared → Type 0
IsKnown names all s = AllNew [] (texts_of names all) × (s.texts ≡ texts_of names all)

-- the first version has no shared automata
abbrev pub CanShare : Version → List Automaton → Type 0
CanShare first_version all = all ≡ []
CanShare second_version all = Unit {0}
