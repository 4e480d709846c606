-- The marks of certificates within limits: all pass, and their text is the certificate's.
use Rattle.cert_laws.proofs.Prelude.{◌≡◌, ℕ, suc, ◌+◌, ◌<◌, ◌≤◌, Bool, true, false, List, [], ◌∷◌, ◌++◌, length, Option, Some, None, refl, ap, codes, decimal, arith, unwrap_or, Transition, Automaton}
use Rattle.cert_laws.proofs.Prelude.{InfeasibilityEvidence, by_caps, by_automaton, PairEvidence, trivial_pair, infeasible_pair, conflicting_pair, joined_pair, unfeasible_pair, PairEntry, LinearEntry}
use Rattle.cert_laws.proofs.Prelude.{MeasureCertificate, linear_measure, precedence_measure, Redex, Apartness, by_normal_forms, by_rigid_caps, Simplification, dropped, inlined, Certificate}
use Rattle.cert_laws.proofs.Prelude.{ortho_certificate, quasi_certificate, peak_certificate, simplified_certificate, NameTable, largest, name_of, numbers_text, further_states_text, states_text}
use Rattle.cert_laws.proofs.Prelude.{head_text, transitions_text, automaton_text, infeasibility_text, evidence_text, pairs_text, AreAtMost, AreStates, IsHead, AreTransitions, IsAutomaton}
use Rattle.cert_laws.proofs.Prelude.{IsInfeasibility, IsEvidence, ArePairs, measured_text, entries_text, heads_text, measure_text, redexes_text, apart_text, simplifications_text, body_text}
use Rattle.cert_laws.proofs.Prelude.{automata_text, heading_text, IsMeasured, AreEntries, AreHeads, IsMeasure, AreRedexEntries, IsApart, AreSimplifications, IsWithin, Uses, in_full, by_number}
use Rattle.cert_laws.proofs.Prelude.{version_of, AreAutomata, Counted, limit, automaton_begins, is_use, is_light, in_range, is_few, fits_answer, shares, is_answer, Mark, word, automata_marks}
use Rattle.cert_laws.proofs.Prelude.{heading_marks, heads_marks, simplifications_marks, state, accepting_marks, further_states_marks, states_marks, head_marks, transitions_marks, automaton_marks}
use Rattle.cert_laws.proofs.Prelude.{infeasibility_marks, evidence_marks, pairs_marks, coefficients_marks, measured_marks, entries_marks, measure_marks, redexes_marks, apart_marks, body_marks}
use Rattle.cert_laws.proofs.Prelude.{numeral, name_is, append-nil, Head, file, auxiliary, fixed, use_marks, used_by, used_by_evidence, used_by_pairs, used_by_redexes, used_by_apart, used_by_steps}
use Rattle.cert_laws.proofs.Prelude.{automata_of}
use Rattle.cert_grammar.specs.EvidenceText.{use_text}
use Rattle.cert_laws.proofs.Spelt.{Spells, nothing, put_bytes, put_word, put_two, put_number, put_numeral, put_count, put_position, put_symbol, put_arity, numeral_fits, met_first, pass_range}
use Rattle.cert_laws.proofs.Spelt.{pass_few, spelt_term, spelt_derivation, same_text}

module _ (names : NameTable) where
  put_state : {ms : List Mark} {t : List ℕ} {us : List Automaton} (bound q : ℕ) → bound ≤ 1000 → q < bound → Spells names ms t us → Spells names (state bound q ∷ ms) (decimal q ++ t) us
  put_state bound q few lt h = put_word (numeral q) (decimal q) (in_range 0 0 bound q ∷ []) (numeral_fits q (omega arith)) (pass_range names 0 0 bound q [] (omega arith) lt refl) h

  spelt_accepting : (qs : List ℕ) (bound : ℕ) → bound ≤ 1000 → AreStates bound qs → Spells names (accepting_marks bound qs) (numbers_text qs) []
  spelt_accepting [] bound few h = nothing
  spelt_accepting (q ∷ qs) bound few h = put_bytes (codes " ") (put_state bound q few h.0 (spelt_accepting qs bound few h.1))

  spelt_further_states : (qs : List ℕ) (bound : ℕ) → bound ≤ 1000 → AreStates bound qs → Spells names (further_states_marks bound qs) (further_states_text qs) []
  spelt_further_states [] bound few h = put_bytes (codes ")") nothing
  spelt_further_states (q ∷ qs) bound few h = put_bytes (codes ",") (put_state bound q few h.0 (spelt_further_states qs bound few h.1))

  spelt_states : (qs : List ℕ) (bound : ℕ) → bound ≤ 1000 → AreStates bound qs → Spells names (states_marks bound qs) (states_text qs) []
  spelt_states [] bound few h = nothing
  spelt_states (q ∷ qs) bound few h = put_bytes (codes "(") (put_state bound q few h.0 (spelt_further_states qs bound few h.1))

  spelt_head : (f : Option ℕ) (bound : ℕ) (qs : List ℕ) → bound ≤ 1000 → IsHead names f qs → AreStates bound qs → Spells names (head_marks (name_of names) bound f qs) (head_text names f qs) []
  spelt_head None bound qs few h s = put_bytes (codes "|") nothing
  spelt_head (Some f) bound qs few h s =
      let e = name_is names f (length qs) h.0 h.1 in
      put_symbol f h.0 [] e h.1.identifier h.1.found refl (same_text (append-nil (states_text qs)) (put_two (spelt_states qs bound few s) (put_arity f h.0 (length qs) e h.1)))

  spelt_transitions : (ts : List Transition) (bound : ℕ) → bound ≤ 1000 → AreTransitions names bound ts → Spells names (transitions_marks (name_of names) bound ts) (transitions_text names ts) []
  spelt_transitions [] bound few h = nothing
  spelt_transitions (t ∷ ts) bound few h =
      put_two (put_two (spelt_head t.symbol bound t.arguments few h.0 h.1) (put_bytes (codes " ") (put_state bound t.target few h.2 (put_bytes (codes "\n") nothing))))
      (spelt_transitions ts bound few h.3)

  pub spelt_automaton : (a : Automaton) → IsAutomaton names a → Spells names (automaton_marks (name_of names) a) (automaton_text names a) []
  spelt_automaton a h =
      let few = h.few in
      put_word (codes "states") (codes "states") (shares automaton_begins ∷ []) refl refl (put_bytes (codes " ") (put_count Counted.states 1 a.states h.some (omega arith) few
      (put_bytes (codes "\naccepting") (put_two (spelt_accepting a.accepting a.states few h.accepting)
      (put_bytes (codes "\ntransitions ") (put_count Counted.transitions 0 (length a.transitions) (omega arith) (omega arith) h.number
      (put_bytes (codes "\n") (spelt_transitions a.transitions a.states few h.transitions))))))))

  put_counted : {ms : List Mark} {t : List ℕ} {us : List Automaton} (bytes : List ℕ) (what : Counted) (n : ℕ) → n ≤ limit what → Spells names ms t us
      → Spells names (word bytes (is_few what n ∷ []) ∷ ms) (bytes ++ t) us
  put_counted bytes what n few h = put_word bytes bytes (is_few what n ∷ []) refl (pass_few names what n [] few refl) h

  spelt_coefficients : (ks : List ℕ) (n : ℕ) → n + length ks ≤ 201 → AreAtMost largest ks → Spells names (coefficients_marks n ks) (numbers_text ks) []
  spelt_coefficients [] n few h = nothing
  spelt_coefficients (k ∷ ks) n few h =
      put_bytes (codes " ") (put_numeral 0 k (is_few Counted.numbers n ∷ []) (omega arith) h.0 (pass_few names Counted.numbers n [] (omega arith) refl)
      (spelt_coefficients ks (suc n) (omega arith) h.1))

  spelt_measured : (a : Head) (n : ℕ) → n ≤ 25000 → IsMeasured names a → Spells names (measured_marks (name_of names) n a) (measured_text names a) []
  spelt_measured (file f) n few h =
      same_text (ap (λ (w : List ℕ). codes "fun " ++ w) (append-nil (name_of names f))) (put_counted (codes "fun") Counted.entries n few
      (put_bytes (codes " ") (put_symbol f h.0 [] (ap (λ (o : Option (List ℕ)). unwrap_or o []) h.1.named) h.1.identifier h.1.found refl nothing)))
  spelt_measured (auxiliary r c) n few h =
      same_text (ap (λ (w : List ℕ). codes "aux " ++ (decimal r ++ (codes " " ++ w))) (append-nil (decimal c))) (put_counted (codes "aux") Counted.entries n few
      (put_bytes (codes " ") (put_number r h.0 (put_bytes (codes " ") (put_number c h.1 nothing)))))

  spelt_entries : (es : List LinearEntry) (n : ℕ) → n + length es ≤ 25001 → AreEntries names es → Spells names (entries_marks (name_of names) n es) (entries_text names es) []
  spelt_entries [] n few h = nothing
  spelt_entries (e ∷ es) n few h =
      put_two (put_two (spelt_measured e.head n (omega arith) h.0) (put_two (spelt_coefficients e.coefficients 1 (omega arith) h.2) (put_bytes (codes "\n") nothing)))
      (spelt_entries es (suc n) (omega arith) h.3)

  spelt_heads : (hs : List Head) (n : ℕ) → n + length hs ≤ 25001 → AreHeads names hs → Spells names (heads_marks (name_of names) n hs) (heads_text names hs) []
  spelt_heads [] n few h = nothing
  spelt_heads (x ∷ hs) n few h =
      put_two (put_two (spelt_measured x n (omega arith) h.0) (put_bytes (codes "\n") nothing)) (spelt_heads hs (suc n) (omega arith) h.1)

  spelt_measure : (m : MeasureCertificate) → IsMeasure names m → Spells names (measure_marks (name_of names) m) (measure_text names m) []
  spelt_measure (linear_measure es) h = put_bytes (codes "linear\n") (spelt_entries es 1 (omega arith) h.1)
  spelt_measure (precedence_measure hs) h = put_bytes (codes "lpo\n") (spelt_heads hs 1 (omega arith) h.1)

-- numbers of automata are in range
abbrev pub AreShort : Uses → Type 0
AreShort in_full = Unit {0}
AreShort (by_number f) = (a : Automaton) → f a ≤ largest

-- the answer for which a certificate is
abbrev pub answer_of : Certificate → Bool
answer_of (ortho_certificate ps) = true
answer_of (quasi_certificate m ps) = true
answer_of (peak_certificate p) = false
answer_of (simplified_certificate ss c) = answer_of c

module _ (names : NameTable) (u : Uses) (s : AreShort u) where
  spelt_use : (u : Uses) (a : Automaton) → AreShort u → IsAutomaton names a → Spells names (use_marks (name_of names) u a) (use_text names u a) (a ∷ [])
  spelt_use in_full a s h = let k = put_bytes (codes "\n") (spelt_automaton names a h) in record { passed = k.passed; named = k.named; text = k.text; automata = (h, tt) }
  spelt_use (by_number f) a s h =
      let k : Spells names (use_marks (name_of names) (by_number f) a) (use_text names (by_number f) a) [] =
      put_bytes (codes " ") (put_numeral 0 (f a) (shares (is_use (f a)) ∷ shares (is_light (f a)) ∷ []) (omega arith) (s a) refl (put_bytes (codes "\n") nothing)) in
      record { passed = k.passed; named = k.named; text = k.text; automata = (h, tt) }

  spelt_infeasibility : (e : InfeasibilityEvidence) → IsInfeasibility names e → Spells names (infeasibility_marks (name_of names) u e) (infeasibility_text names u e) (used_by e)
  spelt_infeasibility by_caps h = put_bytes (codes "tcap\n") nothing
  spelt_infeasibility (by_automaton k a) h = put_bytes (codes "auto ") (put_number k h.0 (spelt_use u a s h.1))

  spelt_evidence : (e : PairEvidence) → IsEvidence names e → Spells names (evidence_marks (name_of names) u e) (evidence_text names u e) (used_by_evidence e)
  spelt_evidence trivial_pair h = put_bytes (codes "trivial\n") nothing
  spelt_evidence (infeasible_pair e) h = spelt_infeasibility e h
  spelt_evidence (conflicting_pair a b) h = put_bytes (codes "conflict ") (put_number a h.0 (put_bytes (codes " ") (put_number b h.1 (put_bytes (codes "\n") nothing))))
  spelt_evidence (joined_pair d e) h = put_bytes (codes "join\n") (put_two (spelt_derivation names d h.0) (spelt_derivation names e h.1))
  spelt_evidence (unfeasible_pair k d e) h =
      put_bytes (codes "unfeasible ") (put_number k h.0 (put_bytes (codes "\n") (put_two (spelt_derivation names d h.1) (spelt_derivation names e h.2))))

  spelt_pairs : (ps : List PairEntry) (n : ℕ) → n + length ps ≤ 20001 → ArePairs names ps → Spells names (pairs_marks (name_of names) u n ps) (pairs_text names u ps) (used_by_pairs ps)
  spelt_pairs [] n few h = nothing
  spelt_pairs (p ∷ ps) n few h =
      put_two (put_counted names (codes "pair") Counted.pairs n (omega arith) (put_bytes (codes " ") (put_number p.inner h.0 (put_bytes (codes " ") (put_position p.position h.1
      (put_bytes (codes " ") (put_number p.outer h.2 (put_bytes (codes " ") (spelt_evidence p.evidence h.3))))))))) (spelt_pairs ps (suc n) (omega arith) h.4)

  spelt_redexes : (rs : List Redex) (n : ℕ) → n + length rs ≤ 20001 → AreRedexEntries names rs → Spells names (redexes_marks (name_of names) u n rs) (redexes_text names u rs) (used_by_redexes rs)
  spelt_redexes [] n few h = nothing
  spelt_redexes (r ∷ rs) n few h =
      put_two (put_counted names (codes "redex") Counted.redexes n (omega arith) (put_bytes (codes " ") (put_number r.which h.0 (put_bytes (codes " ") (put_position r.position h.1
      (put_bytes (codes " ") (put_number r.rule h.2 (put_bytes (codes " ") (spelt_infeasibility r.evidence h.3))))))))) (spelt_redexes rs (suc n) (omega arith) h.4)

  spelt_apart : (a : Apartness) → IsApart names a → Spells names (apart_marks (name_of names) u a) (apart_text names u a) (used_by_apart a)
  spelt_apart (by_normal_forms rs) h = put_bytes (codes "normal\n") (spelt_redexes rs 1 (omega arith) h.1)
  spelt_apart by_rigid_caps h = put_bytes (codes "caps\n") nothing

  spelt_steps : (ss : List Simplification) → AreSimplifications names ss → Spells names (simplifications_marks (name_of names) u ss) (simplifications_text names u ss) (used_by_steps ss)
  spelt_steps [] h = nothing
  spelt_steps (dropped r e ∷ ss) h = put_two (put_bytes (codes "drop ") (put_number r h.0 (put_bytes (codes " ") (spelt_infeasibility e h.1)))) (spelt_steps ss h.2)
  spelt_steps (inlined r k ∷ ss) h =
      put_two (put_bytes (codes "inline ") (put_number r h.0 (put_bytes (codes " ") (put_number k h.1 (put_bytes (codes "\n") nothing))))) (spelt_steps ss h.2)

  put_kind : {ms : List Mark} {t : List ℕ} {us : List Automaton} (bytes : List ℕ) (told : Bool) (given : Option Bool) → is_answer told given ≡ true → Spells names ms t us
      → Spells names (word bytes (fits_answer told given ∷ []) ∷ fixed (codes "\n") ∷ ms) (bytes ++ (codes "\n" ++ t)) us
  put_kind bytes told given e h = put_word bytes bytes (fits_answer told given ∷ []) refl (met_first names (fits_answer told given) [] e refl) (put_bytes (codes "\n") h)

  pub spelt_body : (c : Certificate) (given : Option Bool) → is_answer (answer_of c) given ≡ true → IsWithin names c
      → Spells names (body_marks (name_of names) u given c) (body_text names u c) (automata_of c)
  spelt_body (ortho_certificate ps) given e h = put_kind (codes "ortho") true given e (spelt_pairs ps 1 (omega arith) h.1)
  spelt_body (quasi_certificate m ps) given e h =
      put_kind (codes "quasi") true given e (put_two (spelt_measure names m h.0) (spelt_pairs ps 1 (omega arith) h.2))
  spelt_body (peak_certificate p) given e h =
      put_kind (codes "peak") false given e (put_bytes (codes "start ") (put_two
      (spelt_term names p.start 1 1 h.0 (omega (arith, h.1.nodes)) (omega (arith, h.1.levels))) (put_bytes (codes "\n") (put_two (spelt_derivation names p.first h.2)
      (put_two (spelt_derivation names p.second h.3) (spelt_apart p.apart h.4))))))
  spelt_body (simplified_certificate ss c) given e h =
      put_bytes (codes "simplify ") (put_count Counted.simplifications 1 (length ss) h.0 (omega arith) h.1
      (put_bytes (codes "\n") (put_two (spelt_steps ss h.2) (spelt_body c given e h.3))))

-- shared automata within limits
spelt_automata : (bs : List Automaton) (names : NameTable) → AreAutomata names bs → Spells names (automata_marks (name_of names) bs) (automata_text names bs) []
spelt_automata [] names h = nothing
spelt_automata (b ∷ bs) names h = put_two (same_text (append-nil (automaton_text names b))
    (put_two {vs = []} (spelt_automaton names b h.0) (record { passed = (refl, tt); named = tt; text = refl; automata = tt }))) (spelt_automata bs names h.1)

abbrev pub HasHeading : NameTable → Uses → List Automaton → Type 0
HasHeading names in_full bs = Unit {0}
HasHeading names (by_number f) bs = (length bs ≤ 1000) × AreAutomata names bs

pub spelt_heading : (u : Uses) (names : NameTable) (bs : List Automaton) → HasHeading names u bs → Spells names (heading_marks (name_of names) u bs) (heading_text (version_of u) names bs) []
spelt_heading in_full names bs h = put_bytes (codes "concon 1\n") nothing
spelt_heading (by_number f) names bs h =
    put_bytes (codes "concon 2\n") (put_bytes (codes "shared ") (put_count Counted.shared_automata 0 (length bs) (omega arith) (omega arith) h.0
    (put_bytes (codes "\n") (spelt_automata bs names h.1))))
