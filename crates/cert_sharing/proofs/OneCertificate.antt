-- Bytes are the text of one certificate at most.
use Rattle.cert_sharing.proofs.Prelude.{◌≡◌, ℕ, suc, Bool, true, false, List, [], ◌∷◌, ◌++◌, length, codes, Option, Some, None, refl, sym, ap, ◌∙◌, append_assoc, arith, Term, Position, Head, file}
use Rattle.cert_sharing.proofs.Prelude.{auxiliary, Derivation, Automaton, InfeasibilityEvidence, by_caps, by_automaton, PairEvidence, trivial_pair, infeasible_pair, conflicting_pair, joined_pair}
use Rattle.cert_sharing.proofs.Prelude.{unfeasible_pair, PairEntry, LinearEntry, MeasureCertificate, linear_measure, precedence_measure, Redex, Apartness, by_normal_forms, by_rigid_caps, Peak}
use Rattle.cert_sharing.proofs.Prelude.{Simplification, dropped, inlined, Certificate, ortho_certificate, quasi_certificate, peak_certificate, simplified_certificate, NameTable, name_of, Version}
use Rattle.cert_sharing.proofs.Prelude.{first_version, second_version, Uses, in_full, by_number, used_by, used_by_evidence, used_by_pairs, used_by_redexes, used_by_apart, used_by_steps, automata_of}
use Rattle.cert_sharing.proofs.Prelude.{automaton_text, IsAutomaton, IsMeasured, AreEntries, AreHeads, IsMeasure, IsWithin, IsCertificateText, Naming, Mark, fixed, marks_text, term_marks}
use Rattle.cert_sharing.proofs.Prelude.{derivation_marks, closing, use_marks, automaton_marks, automata_marks, infeasibility_marks, evidence_marks, pairs_marks, coefficients_marks, measured_marks}
use Rattle.cert_sharing.proofs.Prelude.{entries_marks, heads_marks, measure_marks, redexes_marks, apart_marks, simplifications_marks, body_marks, answer_marks, certificate_marks, is_among, texts_of}
use Rattle.cert_sharing.proofs.Prelude.{shared_by, number_in, AreAutomata, states_line, same_marks, same_skeletons, automaton_alone, spelt_automaton, AllOf, all_of, tail_same}
use Rattle.cert_sharing.proofs.Prelude.{◌+◌, ◌==◌, cond, subst, eq-eqb, var, app, Terms, nil, cons, count, size, no_steps, first_step, Step, by_rule, by_hypothesis, Derivations, no_derivations}
use Rattle.cert_sharing.proofs.Prelude.{first_derivation, derivation_count, step_count, Transition, name_at, number_of, IsSpelt, AreSpelt, IsHead, AreTransitions, Counted, Demand, has_arity, behind}
use Rattle.cert_sharing.proofs.Prelude.{mark_text, number_for, places_text, position, places, arguments_marks, further_marks, steps_marks, step_marks, derivations_marks, accepting_marks}
use Rattle.cert_sharing.proofs.Prelude.{further_states_marks, states_marks, head_marks, transitions_marks, IsShared, uses_with, target_marks, pair_front, redex_front, word, in_range, is_few, largest}
use Rattle.std.proofs.lemmas.List.{append-nil}
use Rattle.cert_sharing.proofs.FirstUses.{AreAmong, place_text}
use Rattle.cert_sharing.proofs.SpeltShares.{of_certificate, none_left, numbered_with, spelt_whole, spelt_skeleton}
use Rattle.std.specs.Prelude.{unwrap_or}
use Rattle.cert_laws.proofs.Prelude.{numeral, state}
use Rattle.cert_grammar.proofs.ScanWords.{places_of_text}
use Rattle.cert_sharing.proofs.UseMarks.{seal}

-- a symbol is told by its name
pub same_symbol : (names : NameTable) (f g : ℕ) (u v : List ℕ) → name_at names f ≡ Some u → number_of names.symbols u ≡ Some f → name_at names g ≡ Some v
    → number_of names.symbols v ≡ Some g → name_of names f ≡ name_of names g → f ≡ g
same_symbol names f g u v a b c d e =
    let mine : name_of names f ≡ u = ap (λ (o : Option (List ℕ)). unwrap_or o []) a in
    let yours : name_of names g ≡ v = ap (λ (o : Option (List ℕ)). unwrap_or o []) c in
    cc

pub regroup : (a b k c d l : List Mark) → (a ++ b) ++ k ≡ (c ++ d) ++ l → a ++ (b ++ k) ≡ c ++ (d ++ l)
regroup a b k c d l e = sym (append_assoc a b k) ∙ e ∙ append_assoc c d l

halves : (f s a k : List Mark) → (f ++ (s ++ a)) ++ k ≡ (f ++ s) ++ (a ++ k)
halves f s a k = simp append_assoc

-- two texts that part
abbrev pub differ : List ℕ → List ℕ → Bool
differ [] u = false
differ (a ∷ t) [] = false
differ (a ∷ t) (b ∷ u) = cond (a == b) (differ t u) true

differ_self : (t : List ℕ) → differ t t ≡ false
differ_self [] = refl
differ_self (b ∷ t) = ap (λ (v : Bool). cond v (differ t t) true) (eq-eqb b b refl) ∙ differ_self t

-- marks with other texts
pub clash : (m n : Mark) (k l : List Mark) → differ (mark_text m) (mark_text n) ≡ true → m ∷ k ≡ n ∷ l → ⊥
clash m n k l d e = let self = differ_self (mark_text m) in cc

pub place_same : (p q : Position) → position p ≡ position q → p ≡ q
place_same p q e = let texts : places_text p ≡ places_text q = cc in sym (places_of_text p) ∙ ap places texts ∙ places_of_text q

-- ---- terms

-- arguments as further ones
arguments_further : (ts us : Terms) (x : Naming) (depth n : ℕ) (c d : Demand) (k l : List Mark) → arguments_marks x depth n ts ++ (behind c ∷ k) ≡ arguments_marks x depth n us ++ (behind d ∷ l)
    → further_marks x depth n ts ++ (behind c ∷ k) ≡ further_marks x depth n us ++ (behind d ∷ l)
arguments_further nil nil x depth n c d k l e = cc
arguments_further (cons t ts) (cons u us) x depth n c d k l e = cc
arguments_further _ _ x depth n c d k l e = absurd cc

mutual
  pub same_terms : (t u : Term) (names : NameTable) (depth n : ℕ) (k l : List Mark) → IsSpelt names t → IsSpelt names u
      → term_marks (name_of names) depth n t ++ k ≡ term_marks (name_of names) depth n u ++ l → (t ≡ u) × (k ≡ l)
  same_terms (var a) (var b) names depth n k l h i e = (cc, cc)
  same_terms (app f ts) (app g us) names depth n k l h i e =
      let x = name_of names in
      let same = same_symbol names f g h.0.0 i.0.0 h.0.1.named h.0.1.found i.0.1.named i.0.1.found (cc) in
      let rest = regroup (arguments_marks x (suc depth) (suc n) ts) (behind (has_arity (x f) (count ts)) ∷ []) k (arguments_marks x (suc depth) (suc n) us)
      (behind (has_arity (x g) (count us)) ∷ []) l (cc) in
      let args = same_further ts us names (suc depth) (suc n) (has_arity (x f) (count ts)) (has_arity (x g) (count us)) k l h.1 i.1
      (arguments_further ts us x (suc depth) (suc n) (has_arity (x f) (count ts)) (has_arity (x g) (count us)) k l rest) in
      (cc, args.1)
  same_terms _ _ names depth n k l h i e = absurd cc

  same_further : (ts us : Terms) (names : NameTable) (depth n : ℕ) (c d : Demand) (k l : List Mark) → AreSpelt names ts → AreSpelt names us
      → further_marks (name_of names) depth n ts ++ (behind c ∷ k) ≡ further_marks (name_of names) depth n us ++ (behind d ∷ l) → (ts ≡ us) × (k ≡ l)
  same_further nil nil names depth n c d k l h i e = (refl, cc)
  same_further (cons t ts) (cons u us) names depth n c d k l h i e =
      let x = name_of names in
      let rest = regroup (term_marks x depth n t) (further_marks x depth (n + size t) ts) (behind c ∷ k) (term_marks x depth n u) (further_marks x depth (n + size u) us)
      (behind d ∷ l) (cc) in
      let first = same_terms t u names depth n _ _ h.0 i.0 rest in
      let others = same_further ts us names depth (n + size t) c d k l h.1 i.1 (cc) in
      (cc, others.1)
  same_further _ _ names depth n c d k l h i e = absurd (clash _ _ _ _ refl e)

-- ---- derivations

mutual
  same_steps : (d e : Derivation) (level : ℕ) (k l : List Mark) → step_count d ≡ step_count e → steps_marks level d ++ k ≡ steps_marks level e ++ l → (d ≡ e) × (k ≡ l)
  same_steps no_steps no_steps level k l n e = (refl, e)
  same_steps (first_step s d) (first_step t f) level k l n e =
      let first = same_step s t level _ _ (regroup (step_marks level s) (steps_marks level d) k (step_marks level t) (steps_marks level f) l e) in
      let others = same_steps d f level k l (let q : suc (step_count d) ≡ suc (step_count f) = n in omega arith) first.1 in
      (cc, others.1)
  same_steps _ _ level k l n e = absurd cc

  same_step : (s t : Step) (level : ℕ) (k l : List Mark) → step_marks level s ++ k ≡ step_marks level t ++ l → (s ≡ t) × (k ≡ l)
  same_step (by_rule i p ds) (by_rule j q es) level k l e =
      let place = place_same p q (cc) in
      let others = same_derivations ds es (suc level) k l (cc) (cc) in
      (cc, others.1)
  same_step (by_hypothesis i p) (by_hypothesis j q) level k l e = let place = place_same p q (cc) in (cc, cc)
  same_step _ _ level k l e = absurd cc

  same_derivations : (ds es : Derivations) (level : ℕ) (k l : List Mark) → derivation_count ds ≡ derivation_count es
      → derivations_marks level ds ++ k ≡ derivations_marks level es ++ l → (ds ≡ es) × (k ≡ l)
  same_derivations no_derivations no_derivations level k l n e = (refl, e)
  same_derivations (first_derivation d ds) (first_derivation f es) level k l n e =
      let first = same_steps d f level _ _ (cc) (regroup (steps_marks level d) (derivations_marks level ds) k (steps_marks level f) (derivations_marks level es) l (cc)) in
      let others = same_derivations ds es level k l (let q : suc (derivation_count ds) ≡ suc (derivation_count es) = n in omega arith) first.1 in
      (cc, others.1)
  same_derivations _ _ level k l n e = absurd cc

pub same_derivation : (d e : Derivation) (k l : List Mark) → derivation_marks d ++ k ≡ derivation_marks e ++ l → (d ≡ e) × (k ≡ l)
same_derivation d f k l e = same_steps d f 1 k l (cc) (cc)

-- ---- lists in lines, the first with this number, up to where no such line begins

module _ {A : Type 0} (one : ℕ → A → List Mark) (all : ℕ → List A → List Mark) (none : (n : ℕ) → all n [] ≡ []) (more : (n : ℕ) (d : A) (ds : List A) → all n (d ∷ ds) ≡ one n d ++ all (suc n) ds)
    (Ends : List Mark → Type 0) (stops : (n : ℕ) (d : A) (k : List Mark) → Ends (one n d ++ k) → ⊥) (Is : A → Type 0) (Are : List A → Type 0)
    (parts : (d : A) (ds : List A) → Are (d ∷ ds) → Is d × Are ds) (same : (n : ℕ) (d c : A) (k l : List Mark) → Is d → Is c → one n d ++ k ≡ one n c ++ l → (d ≡ c) × (k ≡ l)) where
  first_apart : (n : ℕ) (d : A) (ds : List A) (k : List Mark) → all n (d ∷ ds) ++ k ≡ one n d ++ (all (suc n) ds ++ k)
  first_apart n d ds k = ap (λ (ms : List Mark). ms ++ k) (more n d ds) ∙ append_assoc (one n d) (all (suc n) ds) k

  same_rows : (ds es : List A) (n : ℕ) (k l : List Mark) → Are ds → Are es → Ends k → Ends l → all n ds ++ k ≡ all n es ++ l → (ds ≡ es) × (k ≡ l)
  same_rows [] [] n k l h i p q e = (refl, cc (none n))
  same_rows [] (c ∷ es) n k l h i p q e = absurd (stops n c (all (suc n) es ++ l) (subst Ends (let first = first_apart n c es l in cc (none n)) p))
  same_rows (d ∷ ds) [] n k l h i p q e = absurd (stops n d (all (suc n) ds ++ k) (subst Ends (let first = first_apart n d ds k in cc (none n)) q))
  same_rows (d ∷ ds) (c ∷ es) n k l h i p q e =
      let mine = parts d ds h in
      let yours = parts c es i in
      let first = same n d c _ _ mine.0 yours.0 (sym (first_apart n d ds k) ∙ e ∙ first_apart n c es l) in
      let others = same_rows ds es (suc n) k l mine.1 yours.1 p q first.1 in
      (cc, others.1)

-- ---- automata

same_accepting : (qs rs : List ℕ) (bound : ℕ) (k l : List Mark)
    → accepting_marks bound qs ++ (fixed (codes "\ntransitions ") ∷ k) ≡ accepting_marks bound rs ++ (fixed (codes "\ntransitions ") ∷ l) → (qs ≡ rs) × (k ≡ l)
same_accepting qs rs bound k l e =
    let r = same_rows (λ n q. fixed (codes " ") ∷ state bound q ∷ []) (λ n. accepting_marks bound) (λ n. refl) (λ n q qs. refl)
    (λ m. (t : List Mark) × (m ≡ fixed (codes "\ntransitions ") ∷ t)) (λ n q m e. clash _ _ _ _ refl e.1) (λ q. Unit {0}) (λ qs. Unit {0}) (λ q qs h. (tt, tt)) (λ n a b k l h i e. (cc, cc))
    qs rs 0 _ _ tt tt (k, refl) (l, refl) e in
    (r.0, tail_same _ _ _ _ r.1)

same_further_states : (qs rs : List ℕ) (bound : ℕ) (k l : List Mark) → further_states_marks bound qs ++ k ≡ further_states_marks bound rs ++ l → (qs ≡ rs) × (k ≡ l)
same_further_states [] [] bound k l e = (refl, tail_same _ _ _ _ e)
same_further_states (q ∷ qs) (r ∷ rs) bound k l e = let others = same_further_states qs rs bound k l (cc) in (cc, others.1)
same_further_states _ _ bound k l e = absurd (clash _ _ _ _ refl e)

states_further : (qs rs : List ℕ) (bound : ℕ) (c d : Demand) (k l : List Mark) → states_marks bound qs ++ (behind c ∷ k) ≡ states_marks bound rs ++ (behind d ∷ l)
    → further_states_marks bound qs ++ (behind c ∷ k) ≡ further_states_marks bound rs ++ (behind d ∷ l)
states_further [] [] bound c d k l e = cc
states_further (q ∷ qs) (r ∷ rs) bound c d k l e = cc
states_further _ _ bound c d k l e = absurd cc

same_head : (f g : Option ℕ) (names : NameTable) (bound : ℕ) (qs rs : List ℕ) (k l : List Mark) → IsHead names f qs → IsHead names g rs
    → head_marks (name_of names) bound f qs ++ k ≡ head_marks (name_of names) bound g rs ++ l → (f ≡ g) × (qs ≡ rs) × (k ≡ l)
same_head None None names bound qs rs k l h i e = (refl, h ∙ sym i, cc)
same_head (Some f) (Some g) names bound qs rs k l h i e =
    let x = name_of names in
    let same = same_symbol names f g h.0 i.0 h.1.named h.1.found i.1.named i.1.found (cc) in
    let rest = regroup (states_marks bound qs) (behind (has_arity (x f) (length qs)) ∷ []) k (states_marks bound rs) (behind (has_arity (x g) (length rs)) ∷ []) l (cc) in
    let states = same_further_states qs rs bound _ _ (states_further qs rs bound (has_arity (x f) (length qs)) (has_arity (x g) (length rs)) k l rest) in
    (ap Some same, states.0, cc)
same_head _ _ names bound qs rs k l h i e = absurd cc

same_transitions : (ts us : List Transition) (names : NameTable) (bound : ℕ) (k l : List Mark) → AreTransitions names bound ts → AreTransitions names bound us
    → length ts ≡ length us → transitions_marks (name_of names) bound ts ++ k ≡ transitions_marks (name_of names) bound us ++ l → (ts ≡ us) × (k ≡ l)
same_transitions [] [] names bound k l h i n e = (refl, e)
same_transitions (t ∷ ts) (u ∷ us) names bound k l h i n e =
    let x = name_of names in
    let lines = regroup (head_marks x bound t.symbol t.arguments ++ target_marks bound t.target) (transitions_marks x bound ts) k
    (head_marks x bound u.symbol u.arguments ++ target_marks bound u.target) (transitions_marks x bound us) l e in
    let heads = same_head t.symbol u.symbol names bound t.arguments u.arguments _ _ h.0 i.0
    (regroup (head_marks x bound t.symbol t.arguments) (target_marks bound t.target) _ (head_marks x bound u.symbol u.arguments) (target_marks bound u.target) _ lines) in
    let others = same_transitions ts us names bound k l h.3 i.3 (let q : suc (length ts) ≡ suc (length us) = n in omega arith) (cc) in
    let target : t.target ≡ u.target = cc in
    let first : ◌≡◌ {A = Transition} (record { symbol = t.symbol; arguments = t.arguments; target = t.target })
    (record { symbol = u.symbol; arguments = u.arguments; target = u.target }) = cc (heads.0, heads.1) in
    (cc, others.1)
same_transitions _ _ names bound k l h i n e = absurd cc

pub same_automata : (a b : Automaton) (names : NameTable) (k l : List Mark) → IsAutomaton names a → IsAutomaton names b
    → automaton_marks (name_of names) a ++ k ≡ automaton_marks (name_of names) b ++ l → (a ≡ b) × (k ≡ l)
same_automata a b names k l h i e =
    let x = name_of names in
    let mine = fixed (codes "\ntransitions ") ∷ number_for Counted.transitions (length a.transitions) ∷ fixed (codes "\n") ∷ transitions_marks x a.states a.transitions in
    let yours = fixed (codes "\ntransitions ") ∷ number_for Counted.transitions (length b.transitions) ∷ fixed (codes "\n") ∷ transitions_marks x b.states b.transitions in
    let bounds : a.states ≡ b.states = cc in
    let parts = regroup (accepting_marks a.states a.accepting) mine k (accepting_marks b.states b.accepting) yours l (cc) in
    let accepted = same_accepting a.accepting b.accepting a.states (number_for Counted.transitions (length a.transitions) ∷ fixed (codes "\n") ∷ (transitions_marks x a.states a.transitions ++ k))
    (number_for Counted.transitions (length b.transitions) ∷ fixed (codes "\n") ∷ (transitions_marks x b.states b.transitions ++ l)) (cc) in
    let trans = same_transitions a.transitions b.transitions names a.states k l h.transitions (subst (λ (n : ℕ). AreTransitions names n b.transitions) (sym bounds) i.transitions) (cc) (cc) in
    let same : ◌≡◌ {A = Automaton} (record { states = a.states; accepting = a.accepting; transitions = a.transitions })
    (record { states = b.states; accepting = b.accepting; transitions = b.transitions }) = cc (bounds, accepted.0, trans.0) in
    (same, trans.1)

two_derivations : (a b c d : Derivation) (k l : List Mark) → (derivation_marks a ++ derivation_marks b) ++ k ≡ (derivation_marks c ++ derivation_marks d) ++ l → (a ≡ c) × (b ≡ d) × (k ≡ l)
two_derivations a b c d k l e =
    let first = same_derivation a c _ _ (regroup (derivation_marks a) (derivation_marks b) k (derivation_marks c) (derivation_marks d) l e) in
    let second = same_derivation b d k l first.1 in
    (first.0, second.0, second.1)

-- ---- measures

same_coefficients : (js ks : List ℕ) (k l : List Mark) → coefficients_marks 1 js ++ (fixed (codes "\n") ∷ k) ≡ coefficients_marks 1 ks ++ (fixed (codes "\n") ∷ l) → (js ≡ ks) × (k ≡ l)
same_coefficients js ks k l e =
    let r = same_rows (λ n j. fixed (codes " ") ∷ word (numeral j) (in_range 0 0 (suc largest) j ∷ is_few Counted.numbers n ∷ []) ∷ []) coefficients_marks (λ n. refl) (λ n j js. refl)
    (λ m. (t : List Mark) × (m ≡ fixed (codes "\n") ∷ t)) (λ n j m e. clash _ _ _ _ refl e.1) (λ j. Unit {0}) (λ js. Unit {0}) (λ j js h. (tt, tt)) (λ n a b k l h i e. (cc, cc))
    js ks 1 _ _ tt tt (k, refl) (l, refl) e in
    (r.0, tail_same _ _ _ _ r.1)

-- ---- parts that use automata, where automata whose uses have the same marks are the same

module _ (names : NameTable) where
  abbrev x : Naming
  x = name_of names

  same_measured : (a b : Head) (n : ℕ) (k l : List Mark) → IsMeasured names a → IsMeasured names b → measured_marks x n a ++ k ≡ measured_marks x n b ++ l → (a ≡ b) × (k ≡ l)
  same_measured (file f) (file g) n k l h i e = (ap file (same_symbol names f g h.0 i.0 h.1.named h.1.found i.1.named i.1.found (cc)), cc)
  same_measured (auxiliary r c) (auxiliary s d) n k l h i e = (cc, cc)
  same_measured _ _ n k l h i e = absurd (clash _ _ _ _ refl e)

  abbrev SameUses : Uses → (Automaton → Type 0) → Type 0
  SameUses u P = (a b : Automaton) (k l : List Mark) → P a → P b → use_marks x u a ++ k ≡ use_marks x u b ++ l → (a ≡ b) × (k ≡ l)

  module _ (u : Uses) (P : Automaton → Type 0) (s : SameUses u P) where
    same_infeasibility : (e f : InfeasibilityEvidence) (k l : List Mark) → AllOf P (used_by e) → AllOf P (used_by f)
        → infeasibility_marks x u e ++ k ≡ infeasibility_marks x u f ++ l → (e ≡ f) × (k ≡ l)
    same_infeasibility by_caps by_caps k l h i e = (refl, tail_same _ _ _ _ e)
    same_infeasibility (by_automaton j a) (by_automaton m b) k l h i e = let r = s a b k l h.0 i.0 (cc) in (cc, r.1)
    same_infeasibility _ _ k l h i e = absurd (clash _ _ _ _ refl e)

    same_evidence : (e f : PairEvidence) (k l : List Mark) → AllOf P (used_by_evidence e) → AllOf P (used_by_evidence f) → evidence_marks x u e ++ k ≡ evidence_marks x u f ++ l → (e ≡ f) × (k ≡ l)
    same_evidence trivial_pair trivial_pair k l h i e = (refl, tail_same _ _ _ _ e)
    same_evidence (infeasible_pair a) (infeasible_pair b) k l h i e = let r = same_infeasibility a b k l h i e in (ap infeasible_pair r.0, r.1)
    same_evidence (conflicting_pair a b) (conflicting_pair c d) k l h i e = (cc, cc)
    same_evidence (joined_pair a b) (joined_pair c d) k l h i e = let r = two_derivations a b c d k l (cc) in (cc, r.2)
    same_evidence (unfeasible_pair m a b) (unfeasible_pair n c d) k l h i e = let r = two_derivations a b c d k l (cc) in (cc, r.2)
    same_evidence (infeasible_pair by_caps) _ k l h i e = absurd (clash _ _ _ _ refl e)
    same_evidence _ (infeasible_pair by_caps) k l h i e = absurd (clash _ _ _ _ refl e)
    same_evidence _ _ k l h i e = absurd (clash _ _ _ _ refl e)

    same_pairs : (ps qs : List PairEntry) → AllOf P (used_by_pairs ps) → AllOf P (used_by_pairs qs) → pairs_marks x u 1 ps ++ closing ≡ pairs_marks x u 1 qs ++ closing → ps ≡ qs
    same_pairs ps qs h i e = (same_rows (λ n p. pair_front n p ++ evidence_marks x u p.evidence) (pairs_marks x u) (λ n. refl) (λ n p ps. refl) (λ m. m ≡ closing) (λ n p m e. clash _ _ _ _ refl e)
        (λ p. AllOf P (used_by_evidence p.evidence)) (λ l. AllOf P (used_by_pairs l)) (λ p ps. all_of P (used_by_evidence p.evidence) (used_by_pairs ps)) one ps qs 1 closing closing h i refl refl e).0
      where
        one : (n : ℕ) (p q : PairEntry) (k l : List Mark) → AllOf P (used_by_evidence p.evidence) → AllOf P (used_by_evidence q.evidence)
            → (pair_front n p ++ evidence_marks x u p.evidence) ++ k ≡ (pair_front n q ++ evidence_marks x u q.evidence) ++ l → (p ≡ q) × (k ≡ l)
        one n p q k l h i e =
            let place = place_same p.position q.position (cc) in
            let shown = same_evidence p.evidence q.evidence k l h i (cc) in
            let inner : p.inner ≡ q.inner = cc in
            let outer : p.outer ≡ q.outer = cc in
            let same : ◌≡◌ {A = PairEntry} (record { inner = p.inner; position = p.position; outer = p.outer; evidence = p.evidence })
            (record { inner = q.inner; position = q.position; outer = q.outer; evidence = q.evidence }) = cc (shown.0) in
            (same, shown.1)

    same_redexes : (ps qs : List Redex) → AllOf P (used_by_redexes ps) → AllOf P (used_by_redexes qs) → redexes_marks x u 1 ps ++ closing ≡ redexes_marks x u 1 qs ++ closing → ps ≡ qs
    same_redexes ps qs h i e = (same_rows (λ n p. redex_front n p ++ infeasibility_marks x u p.evidence) (redexes_marks x u) (λ n. refl) (λ n p ps. refl) (λ m. m ≡ closing)
        (λ n p m e. clash _ _ _ _ refl e) (λ p. AllOf P (used_by p.evidence)) (λ l. AllOf P (used_by_redexes l)) (λ p ps. all_of P (used_by p.evidence) (used_by_redexes ps))
        one ps qs 1 closing closing h i refl refl e).0
      where
        one : (n : ℕ) (p q : Redex) (k l : List Mark) → AllOf P (used_by p.evidence) → AllOf P (used_by q.evidence)
            → (redex_front n p ++ infeasibility_marks x u p.evidence) ++ k ≡ (redex_front n q ++ infeasibility_marks x u q.evidence) ++ l → (p ≡ q) × (k ≡ l)
        one n p q k l h i e =
            let place = place_same p.position q.position (cc) in
            let shown = same_infeasibility p.evidence q.evidence k l h i (cc) in
            let which : p.which ≡ q.which = cc in
            let rule : p.rule ≡ q.rule = cc in
            let same : ◌≡◌ {A = Redex} (record { which = p.which; position = p.position; rule = p.rule; evidence = p.evidence })
            (record { which = q.which; position = q.position; rule = q.rule; evidence = q.evidence }) = cc (shown.0) in
            (same, shown.1)

    -- ---- measures: no line is an overlap or the end

    abbrev Behind : List Mark → Type 0
    Behind k = (ps : List PairEntry) × (k ≡ pairs_marks x u 1 ps ++ closing)

    no_line : (a : Head) (n : ℕ) (k : List Mark) → Behind (measured_marks x n a ++ k) → ⊥
    no_line (file f) n k ([], e) = clash _ _ _ _ refl e
    no_line (file f) n k (q ∷ qs, e) = clash _ _ _ _ refl e
    no_line (auxiliary r c) n k ([], e) = clash _ _ _ _ refl e
    no_line (auxiliary r c) n k (q ∷ qs, e) = clash _ _ _ _ refl e

    abbrev line_of : ℕ → Head → List Mark → List Mark
    line_of n a ms = measured_marks x n a ++ (ms ++ (fixed (codes "\n") ∷ []))

    in_line : (n : ℕ) (a : Head) (ms k : List Mark) → line_of n a ms ++ k ≡ measured_marks x n a ++ (ms ++ (fixed (codes "\n") ∷ k))
    in_line n a ms k = append_assoc (measured_marks x n a) (ms ++ (fixed (codes "\n") ∷ [])) k ∙ ap (λ (l : List Mark). measured_marks x n a ++ l) (append_assoc ms (fixed (codes "\n") ∷ []) k)

    same_entry : (n : ℕ) (d c : LinearEntry) (k l : List Mark) → IsMeasured names d.head → IsMeasured names c.head
        → line_of n d.head (coefficients_marks 1 d.coefficients) ++ k ≡ line_of n c.head (coefficients_marks 1 c.coefficients) ++ l → (d ≡ c) × (k ≡ l)
    same_entry n d c k l h i e =
        let first = same_measured d.head c.head n _ _ h i (sym (in_line n d.head (coefficients_marks 1 d.coefficients) k) ∙ e ∙ in_line n c.head (coefficients_marks 1 c.coefficients) l) in
        let numbers = same_coefficients d.coefficients c.coefficients k l first.1 in
        let same : ◌≡◌ {A = LinearEntry} (record { head = d.head; coefficients = d.coefficients }) (record { head = c.head; coefficients = c.coefficients }) = cc (first.0, numbers.0) in
        (same, numbers.1)

    same_measure : (m r : MeasureCertificate) (k l : List Mark) → IsMeasure names m → IsMeasure names r → Behind k → Behind l → measure_marks x m ++ k ≡ measure_marks x r ++ l → (m ≡ r) × (k ≡ l)
    same_measure (linear_measure ds) (linear_measure es) k l h i p q e =
        let r = same_rows (λ n d. line_of n d.head (coefficients_marks 1 d.coefficients)) (entries_marks x) (λ n. refl) (λ n d ds. refl) Behind (λ n d m b. no_line d.head n _ (rw in_line at b))
        (λ d. IsMeasured names d.head) (AreEntries names) (λ d ds h. (h.0, h.3)) same_entry ds es 1 k l h.1 i.1 p q (tail_same _ _ _ _ e) in
        (ap linear_measure r.0, r.1)
    same_measure (precedence_measure ds) (precedence_measure es) k l h i p q e =
        let r = same_rows (λ n d. line_of n d []) (heads_marks x) (λ n. refl) (λ n d ds. refl) Behind (λ n d m b. no_line d n _ (rw in_line at b))
        (IsMeasured names) (AreHeads names) (λ d ds h. (h.0, h.1))
        (λ n d c k l h i e. let first = same_measured d c n _ _ h i (sym (in_line n d [] k) ∙ e ∙ in_line n c [] l) in (first.0, tail_same _ _ _ _ first.1))
        ds es 1 k l h.1 i.1 p q (tail_same _ _ _ _ e) in
        (ap precedence_measure r.0, r.1)
    same_measure _ _ k l h i p q e = absurd (clash _ _ _ _ refl e)

    -- ---- bodies

    same_apart : (a b : Apartness) → AllOf P (used_by_apart a) → AllOf P (used_by_apart b) → apart_marks x u a ++ closing ≡ apart_marks x u b ++ closing → a ≡ b
    same_apart (by_normal_forms rs) (by_normal_forms ss) h i e = ap by_normal_forms (same_redexes rs ss h i (tail_same _ _ _ _ e))
    same_apart by_rigid_caps by_rigid_caps h i e = refl
    same_apart _ _ h i e = absurd (clash _ _ _ _ refl e)

    same_simplifications : (ss ts : List Simplification) (k l : List Mark) → length ss ≡ length ts → AllOf P (used_by_steps ss) → AllOf P (used_by_steps ts)
        → simplifications_marks x u ss ++ k ≡ simplifications_marks x u ts ++ l → (ss ≡ ts) × (k ≡ l)
    same_simplifications [] [] k l n h i e = (refl, e)
    same_simplifications [] (t ∷ ts) k l n h i e = absurd (let q : 0 ≡ suc (length ts) = n in omega arith)
    same_simplifications (t ∷ ss) [] k l n h i e = absurd (let q : suc (length ss) ≡ 0 = n in omega arith)
    same_simplifications (dropped r a ∷ ss) (dropped q b ∷ ts) k l n h i e =
        let mine = all_of P (used_by a) (used_by_steps ss) h in
        let yours = all_of P (used_by b) (used_by_steps ts) i in
        let shown = same_infeasibility a b _ _ mine.0 yours.0
        (regroup (infeasibility_marks x u a) (simplifications_marks x u ss) k (infeasibility_marks x u b) (simplifications_marks x u ts) l (cc)) in
        let others = same_simplifications ss ts k l (let q : suc (length ss) ≡ suc (length ts) = n in omega arith) mine.1 yours.1 shown.1 in
        (cc, others.1)
    same_simplifications (inlined r j ∷ ss) (inlined q m ∷ ts) k l n h i e =
        let others = same_simplifications ss ts k l (let q : suc (length ss) ≡ suc (length ts) = n in omega arith) h i (cc) in
        (cc, others.1)
    same_simplifications _ _ k l n h i e = absurd (clash _ _ _ _ refl e)

    same_bodies : (c d : Certificate) (given : Option Bool) → IsWithin names c → IsWithin names d → AllOf P (automata_of c) → AllOf P (automata_of d)
        → body_marks x u given c ++ closing ≡ body_marks x u given d ++ closing → c ≡ d
    same_bodies (ortho_certificate ps) (ortho_certificate qs) given a b h i e = ap ortho_certificate (same_pairs ps qs h i (tail_same _ _ _ _ (tail_same _ _ _ _ e)))
    same_bodies (quasi_certificate m ps) (quasi_certificate r qs) given a b h i e =
        let both = same_measure m r _ _ a.0 b.0 (ps, refl) (qs, refl) (regroup (measure_marks x m) (pairs_marks x u 1 ps) closing (measure_marks x r) (pairs_marks x u 1 qs) closing (cc)) in
        let others = same_pairs ps qs h i both.1 in
        cc
    same_bodies (peak_certificate p) (peak_certificate q) given a b h i e =
        let start = same_terms p.start q.start names 1 1 _ _ a.0 b.0
        (regroup (term_marks x 1 1 p.start) (fixed (codes "\n") ∷ (derivation_marks p.first ++ (derivation_marks p.second ++ apart_marks x u p.apart))) closing
        (term_marks x 1 1 q.start) (fixed (codes "\n") ∷ (derivation_marks q.first ++ (derivation_marks q.second ++ apart_marks x u q.apart))) closing (cc)) in
        let both = two_derivations p.first p.second q.first q.second (apart_marks x u p.apart ++ closing) (apart_marks x u q.apart ++ closing)
        (sym (halves (derivation_marks p.first) (derivation_marks p.second) (apart_marks x u p.apart) closing) ∙ tail_same _ _ _ _ start.1
        ∙ halves (derivation_marks q.first) (derivation_marks q.second) (apart_marks x u q.apart) closing) in
        let apart = same_apart p.apart q.apart h i both.2 in
        let peak : ◌≡◌ {A = Peak} (record { start = p.start; first = p.first; second = p.second; apart = p.apart })
        (record { start = q.start; first = q.first; second = q.second; apart = q.apart }) = cc (start.0, both.0, both.1, apart) in
        ap peak_certificate peak
    same_bodies (simplified_certificate ss c) (simplified_certificate ts d) given a b h i e =
        let mine = all_of P (used_by_steps ss) (automata_of c) h in
        let yours = all_of P (used_by_steps ts) (automata_of d) i in
        let steps = same_simplifications ss ts _ _ (cc) mine.0 yours.0
        (regroup (simplifications_marks x u ss) (body_marks x u given c) closing (simplifications_marks x u ts) (body_marks x u given d) closing (cc)) in
        let bodies = same_bodies c d given a.3 b.3 mine.1 yours.1 steps.1 in
        cc
    same_bodies _ _ given a b h i e = absurd (clash _ _ _ _ refl e)

-- ---- answers and headings

same_answers : (f g : Option Bool) (a b : List ℕ) (k l : List Mark) → differ (codes "YES\n") a ≡ true → differ (codes "NO\n") a ≡ true → differ (codes "YES\n") b ≡ true
    → differ (codes "NO\n") b ≡ true → answer_marks f ++ (fixed a ∷ k) ≡ answer_marks g ++ (fixed b ∷ l) → (f ≡ g) × (fixed a ∷ k ≡ fixed b ∷ l)
same_answers None None a b k l p q r s e = (refl, e)
same_answers (Some true) (Some true) a b k l p q r s e = (refl, tail_same _ _ _ _ e)
same_answers (Some false) (Some false) a b k l p q r s e = (refl, tail_same _ _ _ _ e)
same_answers None (Some true) a b k l p q r s e = absurd (clash _ _ _ _ p (sym e))
same_answers None (Some false) a b k l p q r s e = absurd (clash _ _ _ _ q (sym e))
same_answers (Some true) None a b k l p q r s e = absurd (clash _ _ _ _ r e)
same_answers (Some false) None a b k l p q r s e = absurd (clash _ _ _ _ s e)
same_answers _ _ a b k l p q r s e = absurd (clash _ _ _ _ refl e)

same_shared : (bs ds : List Automaton) (names : NameTable) (k l : List Mark) → AreAutomata names bs → AreAutomata names ds → length bs ≡ length ds
    → automata_marks (name_of names) bs ++ k ≡ automata_marks (name_of names) ds ++ l → (bs ≡ ds) × (k ≡ l)
same_shared [] [] names k l h i n e = (refl, e)
same_shared (b ∷ bs) (d ∷ ds) names k l h i n e =
    let x = name_of names in
    let lines = regroup (automaton_marks x b ++ seal) (automata_marks x bs) k (automaton_marks x d ++ seal) (automata_marks x ds) l e in
    let first = same_automata b d names _ _ h.0 i.0 (regroup (automaton_marks x b) seal _ (automaton_marks x d) seal _ lines) in
    let others = same_shared bs ds names k l h.1 i.1 (let q : suc (length bs) ≡ suc (length ds) = n in omega arith) (tail_same _ _ _ _ first.1) in
    (cc, others.1)
same_shared _ _ names k l h i n e = absurd cc

-- automata with one text are one
text_tells : (a b : Automaton) (names : NameTable) → IsAutomaton names a → IsAutomaton names b → automaton_text names a ≡ automaton_text names b → a ≡ b
text_tells a b names h i e =
    let x = name_of names in
    let mine = spelt_automaton names a h in
    let yours = spelt_automaton names b i in
    let texts : marks_text (automaton_marks x a ++ []) ≡ marks_text (automaton_marks x b ++ []) = cc (append-nil (automaton_marks x a), append-nil (automaton_marks x b)) in
    (same_automata a b names [] [] h i
    (same_marks (automaton_marks x a ++ []) (automaton_marks x b ++ []) (states_line ∷ []) (automaton_alone x a mine.named) (automaton_alone x b yours.named) texts)).0

-- ---- certificates

in_full_same : (names : NameTable) → SameUses names in_full (IsAutomaton names)
in_full_same names a b k l h i e = same_automata a b names k l h i (tail_same _ _ _ _ e)

-- an automaton that stands among others
abbrev Known : NameTable → List Automaton → Automaton → Type 0
Known names all a = IsAutomaton names a × (is_among (automaton_text names a) (texts_of names all) ≡ true)

numbers_same : (names : NameTable) (bs : List Automaton) → SameUses names (by_number (number_in names bs)) (Known names bs)
numbers_same names bs a b k l h i e =
    let number_is : number_in names bs a ≡ number_in names bs b = cc in
    let mine = place_text (automaton_text names a) (texts_of names bs) h.1 in
    let yours = place_text (automaton_text names b) (texts_of names bs) i.1 in
    (text_tells a b names h.0 i.0 (cc), cc)

all_automata : (used : List Automaton) (names : NameTable) → AreAutomata names used → AllOf (IsAutomaton names) used
all_automata [] names h = tt
all_automata (a ∷ used) names h = (h.0, all_automata used names h.1)

all_known : (used all : List Automaton) (names : NameTable) → AreAutomata names used → AreAmong names used (texts_of names all) → AllOf (Known names all) used
all_known [] all names h k = tt
all_known (a ∷ used) all names h k = ((h.0, k.0), all_known used all names h.1 k.1)

-- these stand there, all that the certificate uses among them
abbrev pub StandBefore : Version → NameTable → Certificate → List Automaton → Type 0
StandBefore first_version names c bs = Unit {0}
StandBefore second_version names c bs = AreAutomata names bs × AreAmong names (automata_of c) (texts_of names bs)

abbrev pub AreSame : Version → List Automaton → List Automaton → Type 0
AreSame first_version bs ds = Unit {0}
AreSame second_version bs ds = bs ≡ ds

-- marks tell the version, the certificate and the automata before it
pub marks_tell : (v w : Version) (names : NameTable) (c d : Certificate) (bs ds : List Automaton) (f g : Option Bool) → IsWithin names c → IsWithin names d
    → StandBefore v names c bs → StandBefore w names d ds
    → certificate_marks (name_of names) (uses_with v names bs) bs f c ≡ certificate_marks (name_of names) (uses_with w names ds) ds g d → (v ≡ w) × (c ≡ d) × AreSame v bs ds
marks_tell first_version first_version names c d bs ds f g a b m n e =
    let r = same_answers f g (codes "concon 1\n") (codes "concon 1\n") _ _ refl refl refl refl e in
    let lines : body_marks (name_of names) in_full f c ++ closing ≡ body_marks (name_of names) in_full f d ++ closing = tail_same _ _ _ _ r.1
    ∙ ap (λ (o : Option Bool). body_marks (name_of names) in_full o d ++ closing) (sym r.0) in
    let each = λ (c : Certificate) (w : IsWithin names c). all_automata (automata_of c) names (of_certificate c names w) in
    (refl, same_bodies names in_full (IsAutomaton names) (in_full_same names) c d f a b (each c a) (each d b) lines, tt)
marks_tell second_version second_version names c d bs ds f g a b m n e =
    let x = name_of names in
    let r = same_answers f g (codes "concon 2\n") (codes "concon 2\n") _ _ refl refl refl refl e in
    let all = same_shared bs ds names (body_marks x (by_number (number_in names bs)) f c ++ closing) (body_marks x (by_number (number_in names ds)) g d ++ closing) m.0 n.0 (cc) (cc) in
    let u = by_number (number_in names bs) in
    let lines : body_marks x u f c ++ closing ≡ body_marks x u f d ++ closing = all.1
    ∙ ap (λ (l : List Automaton). body_marks x (by_number (number_in names l)) g d ++ closing) (sym all.0) ∙ ap (λ (o : Option Bool). body_marks x u o d ++ closing) (sym r.0) in
    let mine = all_known (automata_of c) bs names (of_certificate c names a) m.1 in
    let yours = all_known (automata_of d) bs names (of_certificate d names b) (subst (λ (l : List Automaton). AreAmong names (automata_of d) (texts_of names l)) (sym all.0) n.1) in
    (refl, same_bodies names u (Known names bs) (numbers_same names bs) c d f a b mine yours lines, all.0)
marks_tell first_version second_version names c d bs ds f g a b m n e = absurd (clash _ _ _ _ refl (same_answers f g (codes "concon 1\n") (codes "concon 2\n") _ _ refl refl refl refl e).1)
marks_tell second_version first_version names c d bs ds f g a b m n e = absurd (clash _ _ _ _ refl (same_answers f g (codes "concon 2\n") (codes "concon 1\n") _ _ refl refl refl refl e).1)

own_stand : (v : Version) (names : NameTable) (c : Certificate) → IsWithin names c → IsShared v names c → StandBefore v names c (shared_by names c ++ [])
own_stand first_version names c a s = tt
own_stand second_version names c a s = ((none_left second_version names c a s).2, (numbered_with names c []).each)

pub one_certificate : (names : NameTable) (bytes : List ℕ) (c d : Certificate) → IsCertificateText names bytes c → IsCertificateText names bytes d → c ≡ d
one_certificate names bytes c d (v, h) (w, k) =
    let mine = spelt_whole v names bytes c h in
    let yours = spelt_whole w names bytes d k in
    let marks = same_skeletons (spelt_skeleton v names bytes c h) (spelt_skeleton w names bytes d k) (mine.spells.text ∙ sym yours.spells.text) in
    (marks_tell v w names c d (shared_by names c ++ []) (shared_by names d ++ []) mine.given yours.given h.spelt.1 k.spelt.1 (own_stand v names c h.spelt.1 h.spelt.2)
    (own_stand w names d k.spelt.1 k.spelt.2) marks).1
