-- The marks of automata, one part behind another.
use Rattle.cert_reading.proofs.Prelude.{◌≡◌, ◌<◌, ℕ, List, [], ◌∷◌, ◌++◌, length, codes, refl, sym, ap, ◌∙◌, arith, append_assoc, append-nil}
use Rattle.cert_reading.proofs.Prelude.{Automaton, Shared, BeginsAnew, automaton_marks, automaton_behind, Naming, Mark, fixed, state, further_states_marks, states_marks}
use Rattle.cert_reading.proofs.Loops.{pushed}

-- states behind a bracket, without the other bracket
abbrev others : ℕ → List ℕ → List Mark
others b [] = []
others b (q ∷ qs) = fixed (codes ",") ∷ state b q ∷ others b qs

abbrev pub begun : ℕ → List ℕ → List Mark
begun b [] = []
begun b (q ∷ qs) = fixed (codes "(") ∷ state b q ∷ others b qs

pub begun_push : (b : ℕ) (qs : List ℕ) (q : ℕ) → 0 < length qs → begun b qs ++ (fixed (codes ",") ∷ state b q ∷ []) ≡ begun b (qs ++ q ∷ [])
begun_push b [] q h = absurd (omega (arith, h))
begun_push b (p ∷ qs) q h = ap (λ (ms : List Mark). fixed (codes "(") ∷ state b p ∷ ms) (pushed (others b) (λ r. fixed (codes ",") ∷ state b r ∷ []) refl (λ r rs. refl) qs q)

closed : (b : ℕ) (qs : List ℕ) → others b qs ++ (fixed (codes ")") ∷ []) ≡ further_states_marks b qs
closed b [] = refl
closed b (q ∷ qs) = ap (λ (ms : List Mark). fixed (codes ",") ∷ state b q ∷ ms) (closed b qs)

pub begun_closed : (b : ℕ) (qs : List ℕ) (ms : List Mark) → 0 < length qs → begun b qs ++ (fixed (codes ")") ∷ ms) ≡ states_marks b qs ++ ms
begun_closed b [] ms h = absurd (omega (arith, h))
begun_closed b (q ∷ qs) ms h =
    ap (λ (ns : List Mark). fixed (codes "(") ∷ state b q ∷ ns) (sym (append_assoc (others b qs) (fixed (codes ")") ∷ []) ms) ∙ ap (λ (ns : List Mark). ns ++ ms) (closed b qs))

-- a transition whose symbol is named
pub head_first : (s t : List Mark) (b p : Mark) → (s ++ (b ∷ p ∷ [])) ++ t ≡ ((s ++ (b ∷ [])) ++ (p ∷ t)) ++ []
head_first s t b p = append_assoc s (b ∷ p ∷ []) t ∙ sym (append-nil ((s ++ (b ∷ [])) ++ (p ∷ t)) ∙ append_assoc s (b ∷ []) (p ∷ t))

-- an automaton begins with its first word
pub automaton_anew : (u : Naming) (a : Automaton) → BeginsAnew (automaton_marks u a)
automaton_anew u a b s = ap (λ (z : Shared). z.begun) (automaton_behind a u s.texts b s.used s.unfolds_to)
