-- What the marks of a certificate's parts ask: numbers that stand in a word of their length, and whatever is asked of the answer
-- and of shared automata is allowed.
use Rattle.cert_laws.proofs.Prelude.{◌≡◌, ℕ, suc, ◌+◌, ◌≤◌, Bool, true, false, cond, ap, subst, List, [], ◌∷◌, ◌++◌, length, drop, Option, Some, None, length-append, arith, Term, var, app, Terms}
use Rattle.cert_laws.proofs.Prelude.{nil, cons, size, Position, Head, file, auxiliary, Derivation, no_steps, first_step, Step, by_rule, by_hypothesis, Derivations, no_derivations, first_derivation}
use Rattle.cert_laws.proofs.Prelude.{Transition, Automaton, InfeasibilityEvidence, by_caps, by_automaton, PairEvidence, trivial_pair, infeasible_pair, conflicting_pair, joined_pair, unfeasible_pair}
use Rattle.cert_laws.proofs.Prelude.{PairEntry, LinearEntry, MeasureCertificate, linear_measure, precedence_measure, Redex, Apartness, by_normal_forms, by_rigid_caps, Peak, Simplification, dropped}
use Rattle.cert_laws.proofs.Prelude.{inlined, NameTable, CertificateCause, meets, refusal_of, refusal_place, verdict, Uses, in_full, by_number, Naming, Share, automaton_begins, is_use, is_light}
use Rattle.cert_laws.proofs.Prelude.{Demand, in_range, fits_answer, shares, Mark, mark_text, demands_of, dotted, are_places, places_text, term_marks, arguments_marks, further_marks, steps_marks}
use Rattle.cert_laws.proofs.Prelude.{step_marks, derivations_marks, derivation_marks, automaton_marks, heads_marks, measure_marks, simplifications_marks, accepting_marks, further_states_marks}
use Rattle.cert_laws.proofs.Prelude.{states_marks, head_marks, transitions_marks, infeasibility_marks, evidence_marks, pairs_marks, coefficients_marks, measured_marks, entries_marks, redexes_marks}
use Rattle.cert_laws.proofs.Prelude.{apart_marks, peak_marks, numeral}

-- a number that is judged stands in a word of this length; the answer and shared automata are asked for where that is allowed
abbrev pub Asks : Type 0 → (Share → Type 0) → ℕ → Demand → Type 0
Asks Answer Sharing n (in_range skip least bound k) = skip ≤ n
Asks Answer Sharing n (fits_answer told given) = Answer
Asks Answer Sharing n (shares e) = Sharing e
Asks Answer Sharing n _ = Unit {0}

abbrev pub AllAsk : Type 0 → (Share → Type 0) → ℕ → List Demand → Type 0
AllAsk Answer Sharing n [] = Unit {0}
AllAsk Answer Sharing n (d ∷ ds) = Asks Answer Sharing n d × AllAsk Answer Sharing n ds

abbrev pub MarksAsk : Type 0 → (Share → Type 0) → List Mark → Type 0
MarksAsk Answer Sharing [] = Unit {0}
MarksAsk Answer Sharing (m ∷ ms) = AllAsk Answer Sharing (length (mark_text m)) (demands_of m) × MarksAsk Answer Sharing ms

pub any : (n : ℕ) → 0 ≤ n
any n = omega arith

module _ (Answer : Type 0) (Sharing : Share → Type 0) where
  abbrev Ask : List Mark → Type 0
  Ask = MarksAsk Answer Sharing

  pub both_ask : (a b : List Mark) → Ask a → Ask b → Ask (a ++ b)
  both_ask [] b h k = k
  both_ask (m ∷ a) b h k = (h.0, both_ask a b h.1 k)

  -- where a demand is refused of those that ask so
  pub judged_where : (P : ℕ → Type 0) (names : NameTable) (a n : ℕ) → ((d : Demand) → Asks Answer Sharing n d → P (refusal_place a d)) → (ds : List Demand) (e : CertificateCause) (at : ℕ)
      → AllAsk Answer Sharing n ds → verdict names a ds ≡ Some (e, at) → P at
  judged_where P names a n f [] e at h r = absurd cc
  judged_where P names a n f (d ∷ ds) e at h r = by (meets names d) r (λ q. judged_where P names a n f ds e at h.1 q)
    where
      by : (v : Bool) → cond v (verdict names a ds) (Some (refusal_of d, refusal_place a d)) ≡ Some (e, at) → (verdict names a ds ≡ Some (e, at) → P at) → P at
      by true r each = each r
      by false r each = let q : (refusal_of d, refusal_place a d) ≡ (e, at) = cc in subst P (ap (λ (z : CertificateCause × ℕ). z.1) q) (f d h.0)

  places_ask : (n skip : ℕ) (p : Position) → skip + length (dotted p) ≤ n → AllAsk Answer Sharing n (are_places (skip + 1) p)
  places_ask n skip [] le = tt
  places_ask n skip (k ∷ p) le =
      let sum = length-append (numeral k) (dotted p) in
      let whole : skip + suc (length (numeral k ++ dotted p)) ≤ n = le in
      let more : skip + 1 + length (numeral k) + length (dotted p) ≤ n = omega (arith, sum) in
      (omega arith, places_ask n (skip + 1 + length (numeral k)) p more)

  pub place_asks : (p : Position) → AllAsk Answer Sharing (length (places_text p)) (are_places 0 p)
  place_asks [] = tt
  place_asks (k ∷ p) = let sum = length-append (numeral k) (dotted p) in (omega arith, places_ask _ (0 + length (numeral k)) p (omega (arith, sum)))

  mutual
    pub term_asks : (t : Term) (x : Naming) (level n : ℕ) → Ask (term_marks x level n t)
    term_asks (var a) x level n = ((let q : 1 ≤ suc (length (numeral a)) = omega arith in q, (tt, (tt, tt))), tt)
    term_asks (app f ts) x level n = ((tt, (tt, (tt, tt))), both_ask (arguments_marks x (suc level) (suc n) ts) _ (arguments_ask ts x (suc level) (suc n)) ((tt, tt), tt))

    arguments_ask : (ts : Terms) (x : Naming) (level n : ℕ) → Ask (arguments_marks x level n ts)
    arguments_ask nil x level n = tt
    arguments_ask (cons t ts) x level n = (tt, both_ask (term_marks x level n t) _ (term_asks t x level n) (further_ask ts x level (n + size t)))

    further_ask : (ts : Terms) (x : Naming) (level n : ℕ) → Ask (further_marks x level n ts)
    further_ask nil x level n = (tt, tt)
    further_ask (cons t ts) x level n = (tt, both_ask (term_marks x level n t) _ (term_asks t x level n) (further_ask ts x level (n + size t)))

  mutual
    steps_ask : (d : Derivation) (level : ℕ) → Ask (steps_marks level d)
    steps_ask no_steps level = tt
    steps_ask (first_step s d) level = both_ask (step_marks level s) _ (step_asks s level) (steps_ask d level)

    step_asks : (s : Step) (level : ℕ) → Ask (step_marks level s)
    step_asks (by_rule rule p ds) level = (tt, ((any _, tt), (tt, (place_asks p, (tt, ((any _, tt), (tt, derivations_ask ds (suc level))))))))
    step_asks (by_hypothesis k p) level = (tt, ((any _, tt), (tt, (place_asks p, (tt, tt)))))

    derivations_ask : (ds : Derivations) (level : ℕ) → Ask (derivations_marks level ds)
    derivations_ask no_derivations level = tt
    derivations_ask (first_derivation d ds) level = ((tt, tt), (tt, ((any _, (tt, tt)), (tt, both_ask (steps_marks level d) _ (steps_ask d level) (derivations_ask ds level)))))

  pub derivation_asks : (d : Derivation) → Ask (derivation_marks d)
  derivation_asks d = ((tt, tt), (tt, ((any _, (tt, tt)), (tt, steps_ask d 1))))

  accepting_ask : (qs : List ℕ) (bound : ℕ) → Ask (accepting_marks bound qs)
  accepting_ask [] bound = tt
  accepting_ask (q ∷ qs) bound = (tt, ((any _, tt), accepting_ask qs bound))

  further_states_ask : (qs : List ℕ) (bound : ℕ) → Ask (further_states_marks bound qs)
  further_states_ask [] bound = (tt, tt)
  further_states_ask (q ∷ qs) bound = (tt, ((any _, tt), further_states_ask qs bound))

  states_ask : (qs : List ℕ) (bound : ℕ) → Ask (states_marks bound qs)
  states_ask [] bound = tt
  states_ask (q ∷ qs) bound = (tt, ((any _, tt), further_states_ask qs bound))

  head_asks : (f : Option ℕ) (x : Naming) (bound : ℕ) (qs : List ℕ) → Ask (head_marks x bound f qs)
  head_asks None x bound qs = (tt, tt)
  head_asks (Some f) x bound qs = ((tt, tt), both_ask (states_marks bound qs) _ (states_ask qs bound) ((tt, tt), tt))

  transitions_ask : (ts : List Transition) (x : Naming) (bound : ℕ) → Ask (transitions_marks x bound ts)
  transitions_ask [] x bound = tt
  transitions_ask (t ∷ ts) x bound =
      both_ask (head_marks x bound t.symbol t.arguments ++ _) (transitions_marks x bound ts)
      (both_ask (head_marks x bound t.symbol t.arguments) _ (head_asks t.symbol x bound t.arguments) (tt, ((any _, tt), (tt, tt)))) (transitions_ask ts x bound)

  -- an automaton behind its first word
  pub behind_word_ask : (a : Automaton) (x : Naming) → Ask (drop 1 (automaton_marks x a))
  behind_word_ask a x =
      let lines = both_ask (accepting_marks a.states a.accepting) _ (accepting_ask a.accepting a.states) (tt, ((any _, (tt, tt)), (tt, transitions_ask a.transitions x a.states))) in
      (tt, ((any _, (tt, tt)), (tt, lines)))

  coefficients_ask : (ks : List ℕ) (n : ℕ) → Ask (coefficients_marks n ks)
  coefficients_ask [] n = tt
  coefficients_ask (k ∷ ks) n = (tt, ((any _, (tt, tt)), coefficients_ask ks (suc n)))

  measured_asks : (a : Head) (x : Naming) (n : ℕ) → Ask (measured_marks x n a)
  measured_asks (file f) x n = ((tt, tt), (tt, ((tt, tt), tt)))
  measured_asks (auxiliary r c) x n = ((tt, tt), (tt, ((any _, tt), (tt, ((any _, tt), tt)))))

  entries_ask : (es : List LinearEntry) (x : Naming) (n : ℕ) → Ask (entries_marks x n es)
  entries_ask [] x n = tt
  entries_ask (e ∷ es) x n =
      both_ask (measured_marks x n e.head ++ _) (entries_marks x (suc n) es)
      (both_ask (measured_marks x n e.head) _ (measured_asks e.head x n) (both_ask (coefficients_marks 1 e.coefficients) _ (coefficients_ask e.coefficients 1) (tt, tt))) (entries_ask es x (suc n))

  heads_ask : (hs : List Head) (x : Naming) (n : ℕ) → Ask (heads_marks x n hs)
  heads_ask [] x n = tt
  heads_ask (h ∷ hs) x n = both_ask (measured_marks x n h ++ _) (heads_marks x (suc n) hs) (both_ask (measured_marks x n h) _ (measured_asks h x n) (tt, tt)) (heads_ask hs x (suc n))

  pub measure_asks : (m : MeasureCertificate) (x : Naming) → Ask (measure_marks x m)
  measure_asks (linear_measure es) x = (tt, entries_ask es x 1)
  measure_asks (precedence_measure hs) x = (tt, heads_ask hs x 1)

  -- parts with automata
  module _ (begins : Sharing automaton_begins) (used : (n : ℕ) → Sharing (is_use n)) (light : (n : ℕ) → Sharing (is_light n)) where
    pub automaton_asks : (a : Automaton) (x : Naming) → Ask (automaton_marks x a)
    automaton_asks a x = ((begins, tt), behind_word_ask a x)

    infeasibility_asks : (e : InfeasibilityEvidence) (x : Naming) (u : Uses) → Ask (infeasibility_marks x u e)
    infeasibility_asks by_caps x u = (tt, tt)
    infeasibility_asks (by_automaton k a) x in_full = (tt, ((any _, tt), (tt, automaton_asks a x)))
    infeasibility_asks (by_automaton k a) x (by_number f) = (tt, ((any _, tt), (tt, ((any _, (used (f a), (light (f a), tt))), (tt, tt)))))

    evidence_asks : (e : PairEvidence) (x : Naming) (u : Uses) → Ask (evidence_marks x u e)
    evidence_asks trivial_pair x u = (tt, tt)
    evidence_asks (infeasible_pair e) x u = infeasibility_asks e x u
    evidence_asks (conflicting_pair a b) x u = (tt, ((any _, tt), (tt, ((any _, tt), (tt, tt)))))
    evidence_asks (joined_pair d e) x u = (tt, both_ask (derivation_marks d) _ (derivation_asks d) (derivation_asks e))
    evidence_asks (unfeasible_pair k d e) x u = (tt, ((any _, tt), (tt, both_ask (derivation_marks d) _ (derivation_asks d) (derivation_asks e))))

    pub pairs_ask : (ps : List PairEntry) (x : Naming) (u : Uses) (n : ℕ) → Ask (pairs_marks x u n ps)
    pairs_ask [] x u n = tt
    pairs_ask (p ∷ ps) x u n =
        let others = both_ask (evidence_marks x u p.evidence) _ (evidence_asks p.evidence x u) (pairs_ask ps x u (suc n)) in
        ((tt, tt), (tt, ((any _, tt), (tt, (place_asks p.position, (tt, ((any _, tt), (tt, others))))))))

    redexes_ask : (rs : List Redex) (x : Naming) (u : Uses) (n : ℕ) → Ask (redexes_marks x u n rs)
    redexes_ask [] x u n = tt
    redexes_ask (r ∷ rs) x u n =
        let others = both_ask (infeasibility_marks x u r.evidence) _ (infeasibility_asks r.evidence x u) (redexes_ask rs x u (suc n)) in
        ((tt, tt), (tt, ((any _, tt), (tt, (place_asks r.position, (tt, ((any _, tt), (tt, others))))))))

    apart_asks : (a : Apartness) (x : Naming) (u : Uses) → Ask (apart_marks x u a)
    apart_asks (by_normal_forms rs) x u = (tt, redexes_ask rs x u 1)
    apart_asks by_rigid_caps x u = (tt, tt)

    pub peak_asks : (p : Peak) (x : Naming) (u : Uses) → Ask (peak_marks x u p)
    peak_asks p x u =
        let last = both_ask (derivation_marks p.second) _ (derivation_asks p.second) (apart_asks p.apart x u) in
        (tt, both_ask (term_marks x 1 1 p.start) _ (term_asks p.start x 1 1) (tt, both_ask (derivation_marks p.first) _ (derivation_asks p.first) last))

    pub simplifications_ask : (ss : List Simplification) (x : Naming) (u : Uses) → Ask (simplifications_marks x u ss)
    simplifications_ask [] x u = tt
    simplifications_ask (dropped r e ∷ ss) x u = (tt, ((any _, tt), (tt, both_ask (infeasibility_marks x u e) _ (infeasibility_asks e x u) (simplifications_ask ss x u))))
    simplifications_ask (inlined r k ∷ ss) x u = (tt, ((any _, tt), (tt, ((any _, tt), (tt, simplifications_ask ss x u)))))
