-- What the marks of a certificate ask of its shared automata: the numbers of its uses, in order.
use Rattle.cert_sharing.proofs.Prelude.{◌≡◌, ℕ, suc, ◌+◌, ◌-◌, ◌≤◌, max, Bool, true, false, cond, not, List, [], ◌∷◌, ◌++◌, length, map, codes, Option, Some, None, refl, sym, arith, ap, ◌∙◌, subst}
use Rattle.cert_sharing.proofs.Prelude.{append_assoc, append-nil, le-leb, map-append, not-true, Term, Position, Derivation, Automaton, InfeasibilityEvidence, by_caps, by_automaton, PairEvidence}
use Rattle.cert_sharing.proofs.Prelude.{trivial_pair, infeasible_pair, conflicting_pair, joined_pair, unfeasible_pair, PairEntry, MeasureCertificate, Redex, Apartness, by_normal_forms, by_rigid_caps}
use Rattle.cert_sharing.proofs.Prelude.{Simplification, dropped, inlined, Certificate, ortho_certificate, quasi_certificate, peak_certificate, simplified_certificate, Uses, in_full, by_number}
use Rattle.cert_sharing.proofs.Prelude.{used_by, used_by_evidence, used_by_pairs, used_by_redexes, used_by_apart, used_by_steps, automata_of, largest, Naming, Counted, limit, unfolded}
use Rattle.cert_sharing.proofs.Prelude.{CertificateCause, bad_share, automaton_ends, Demand, in_range, is_few, fits_answer, shares, Mark, fixed, word, closed, mark_text, marks_text, demands_of}
use Rattle.cert_sharing.proofs.Prelude.{are_places, number, number_for, term_marks, derivation_marks, use_mark, accepting_marks, transitions_marks, automaton_marks, automata_marks}
use Rattle.cert_sharing.proofs.Prelude.{infeasibility_marks, evidence_marks, pairs_marks, measure_marks, redexes_marks, apart_marks, simplifications_marks, body_marks, is_among, AllNew, Shared}
use Rattle.cert_sharing.proofs.Prelude.{text_at, first_of, share_verdict, effects, behind_mark, behind_marks, PassShares, pair_front, redex_front, steps_front}
use Rattle.std.specs.Prelude.{◌↔◌}
use Rattle.cert_grammar.specs.Sharing.{with_text}
use Rattle.cert_grammar.specs.WordMarks.{numeral}
use Rattle.cert_laws.proofs.Asking.{AllAsk, MarksAsk, term_asks, derivation_asks, measure_asks, behind_word_ask}
use Rattle.cert_sharing.proofs.FirstUses.{greatest}

abbrev pub state : List (List ℕ) → List ℕ → ℕ → ℕ → Shared
state ts b u w = record { texts = ts; begun = b; used = u; unfolds_to = w }

-- ---- marks that ask nothing of shared automata

abbrev pub IsStill : List Demand → Type 0
IsStill [] = Unit {0}
IsStill (shares e ∷ ds) = ⊥
IsStill (_ ∷ ds) = IsStill ds

abbrev pub AreStill : List Mark → Type 0
AreStill [] = Unit {0}
AreStill (m ∷ ms) = IsStill (demands_of m) × AreStill ms

pub still_both : (a b : List Mark) → AreStill a → AreStill b → AreStill (a ++ b)
still_both [] b h k = k
still_both (m ∷ a) b h k = (h.0, still_both a b h.1 k)

still_demands_are : (ds : List Demand) (s : Shared) (a : ℕ) → IsStill ds → (effects ds s ≡ s) × (share_verdict s a ds ≡ None)
still_demands_are [] s a h = (refl, refl)
still_demands_are (shares e ∷ ds) s a h = absurd h
still_demands_are (_ ∷ ds) s a h = still_demands_are ds s a h

-- they only add their text to what was begun
pub still_marks : (ms : List Mark) (ts : List (List ℕ)) (b : List ℕ) (u w : ℕ) → AreStill ms → behind_marks ms (state ts b u w) ≡ state ts (b ++ marks_text ms) u w
still_marks [] ts b u w h = ap (λ (x : List ℕ). state ts x u w) (sym (append-nil b))
still_marks (m ∷ ms) ts b u w h =
    let first = ap (with_text (mark_text m)) (still_demands_are (demands_of m) (state ts b u w) 0 h.0).0 in
    cc (first, still_marks ms ts (b ++ mark_text m) u w h.1, append_assoc b (mark_text m) (marks_text ms))

pub still_pass : (ms : List Mark) (s : Shared) → AreStill ms → PassShares s ms
still_pass [] s h = tt
still_pass (m ∷ ms) s h = ((still_demands_are (demands_of m) s 0 h.0).1, still_pass ms (behind_mark m s) h.1)

-- ---- parts that are still

still_demands : (n : ℕ) (ds : List Demand) → AllAsk (Unit {0}) (λ e. ⊥) n ds → IsStill ds
still_demands n [] h = tt
still_demands n (shares e ∷ ds) h = h.0
still_demands n (_ ∷ ds) h = still_demands n ds h.1

still : (ms : List Mark) → MarksAsk (Unit {0}) (λ e. ⊥) ms → AreStill ms
still [] h = tt
still (m ∷ ms) h = (still_demands (length (mark_text m)) (demands_of m) h.0, still ms h.1)

pub places_still : (p : Position) (skip : ℕ) → IsStill (are_places skip p)
places_still [] skip = tt
places_still (k ∷ p) skip = places_still p (skip + length (numeral k) + 1)

pub term_still : (t : Term) (x : Naming) (level n : ℕ) → AreStill (term_marks x level n t)
term_still t x level n = still (term_marks x level n t) (term_asks (Unit {0}) (λ e. ⊥) t x level n)

pub derivation_still : (d : Derivation) → AreStill (derivation_marks d)
derivation_still d = still (derivation_marks d) (derivation_asks (Unit {0}) (λ e. ⊥) d)

pub measure_still : (m : MeasureCertificate) (x : Naming) → AreStill (measure_marks x m)
measure_still m x = still (measure_marks x m) (measure_asks (Unit {0}) (λ e. ⊥) m x)

-- the marks of an automaton behind its first word
abbrev pub behind_states : Naming → Automaton → List Mark
behind_states x a =
    fixed (codes " ") ∷ word (numeral a.states) (in_range 0 1 (suc largest) a.states ∷ is_few Counted.states a.states ∷ [])
    ∷ fixed (codes "\naccepting") ∷ (accepting_marks a.states a.accepting
    ++ (fixed (codes "\ntransitions ") ∷ number_for Counted.transitions (length a.transitions) ∷ fixed (codes "\n") ∷ transitions_marks x a.states a.transitions))

pub behind_states_still : (a : Automaton) (x : Naming) → AreStill (behind_states x a)
behind_states_still a x = still (behind_states x a) (behind_word_ask (Unit {0}) (λ e. ⊥) a x)

-- ---- lists of marks

pub behind_both : (a b : List Mark) (s : Shared) → behind_marks (a ++ b) s ≡ behind_marks b (behind_marks a s)
behind_both [] b s = refl
behind_both (m ∷ a) b s = behind_both a b (behind_mark m s)

pub pass_split : (a b : List Mark) (s : Shared) → PassShares s (a ++ b) → PassShares s a × PassShares (behind_marks a s) b
pass_split [] b s h = (tt, h)
pass_split (m ∷ a) b s h = let r = pass_split a b (behind_mark m s) h.1 in ((h.0, r.0), r.1)

pub pass_join : (a b : List Mark) (s : Shared) → PassShares s a → PassShares (behind_marks a s) b → PassShares s (a ++ b)
pass_join [] b s h k = k
pass_join (m ∷ a) b s h k = (h.0, pass_join a b (behind_mark m s) h.1 k)

-- marks that lead from one state to another, and what their passing says
pub record Meets (ms : List Mark) (s t : Shared) (Is : Type 0) : Type 0 where
  pub after : behind_marks ms s ≡ t
  pub into : PassShares s ms → Is
  pub from : Is → PassShares s ms

pub meets_both : (a b : List Mark) {s t r : Shared} {A B : Type 0} → Meets a s t A → Meets b t r B → Meets (a ++ b) s r (A × B)
meets_both a b {s = s} h k = record {
  after = behind_both a b s ∙ ap (behind_marks b) h.after ∙ k.after;
  into = λ p. let parts = pass_split a b s p in (h.into parts.0, k.into (subst (λ (z : Shared). PassShares z b) h.after parts.1));
  from = λ q. pass_join a b s (h.from q.0) (subst (λ (z : Shared). PassShares z b) (sym h.after) (k.from q.1));
}

pub meets_still : (ms : List Mark) (ts : List (List ℕ)) (b : List ℕ) (u w : ℕ) → AreStill ms → Meets ms (state ts b u w) (state ts (b ++ marks_text ms) u w) (Unit {0})
meets_still ms ts b u w h = record { after = still_marks ms ts b u w h; into = λ p. tt; from = λ q. still_pass ms (state ts b u w) h }

pub meets_behind : (a ms : List Mark) (ts : List (List ℕ)) (b : List ℕ) (u w : ℕ) {t : Shared} {Is : Type 0} → AreStill a → Meets ms (state ts (b ++ marks_text a) u w) t Is
    → Meets (a ++ ms) (state ts b u w) t Is
meets_behind a ms ts b u w h k =
    let whole = meets_both a ms (meets_still a ts b u w h) k in
    record { after = whole.after; into = λ p. (whole.into p).1; from = λ q. whole.from (tt, q) }

-- ---- automata

-- behind an automaton all of its text was begun, whatever was begun before
pub automaton_behind : (a : Automaton) (x : Naming) (ts : List (List ℕ)) (b : List ℕ) (u w : ℕ) → behind_marks (automaton_marks x a) (state ts b u w) ≡ state ts (marks_text (automaton_marks x a)) u w
automaton_behind a x ts b u w = still_marks (behind_states x a) ts (codes "states") u w (behind_states_still a x)

meets_automaton : (a : Automaton) (x : Naming) (ts : List (List ℕ)) (b : List ℕ) (u w : ℕ) → Meets (automaton_marks x a) (state ts b u w) (state ts (marks_text (automaton_marks x a)) u w) (Unit {0})
meets_automaton a x ts b u w = let r = meets_still (behind_states x a) ts (codes "states") u w (behind_states_still a x) in record { after = r.after; into = λ p. tt; from = λ q. (refl, r.from q) }

abbrev pub marked_texts : Naming → List Automaton → List (List ℕ)
marked_texts x [] = []
marked_texts x (a ∷ others) = marks_text (automaton_marks x a) ∷ marked_texts x others

abbrev pub seal : List Mark
seal = closed (shares automaton_ends) ∷ []

-- a demand alone
pub alone : (v : Bool) (x : CertificateCause × ℕ) → first_of (cond {A = Option (CertificateCause × ℕ)} v None (Some x)) None ≡ None → v ≡ true
alone true x e = refl
alone false x e = absurd cc

pub alone_met : (v : Bool) (x : CertificateCause × ℕ) → v ≡ true → first_of (cond {A = Option (CertificateCause × ℕ)} v None (Some x)) None ≡ None
alone_met v x e = ap (λ (t : Bool). first_of (cond {A = Option (CertificateCause × ℕ)} t None (Some x)) None) e

pub meets_automata : (bs : List Automaton) (x : Naming) (ts : List (List ℕ)) (b : List ℕ) (u w : ℕ)
    → (c : List ℕ) × Meets (automata_marks x bs) (state ts b u w) (state (ts ++ marked_texts x bs) c u w) (AllNew ts (marked_texts x bs))
meets_automata [] x ts b u w = (b, record { after = ap (λ (t : List (List ℕ)). state t b u w) (sym (append-nil ts)); into = λ p. tt; from = λ q. tt })
meets_automata (a ∷ bs) x ts b u w =
    let t = marks_text (automaton_marks x a) in
    let sealed : Meets seal (state ts t u w) (state (ts ++ t ∷ []) (t ++ []) u w) (is_among t ts ≡ false) = record {
      after = refl;
      into = λ p. not-true (is_among t ts) (alone (not (is_among t ts)) (bad_share, 0 - length t) p.0);
      from = λ e. (alone_met (not (is_among t ts)) (bad_share, 0 - length t) (ap not e), tt);
    } in
    let r = meets_automata bs x (ts ++ t ∷ []) (t ++ []) u w in
    let whole = meets_both (automaton_marks x a ++ seal) (automata_marks x bs) (meets_both (automaton_marks x a) seal (meets_automaton a x ts b u w) sealed) r.1 in
    let after = whole.after ∙ ap (λ (l : List (List ℕ)). state l r.0 u w) (append_assoc ts (t ∷ []) (marked_texts x bs)) in
    (r.0, record { after = after; into = λ p. let q = whole.into p in (q.0.1, q.1); from = λ q. whole.from ((tt, q.0), q.1) })

-- ---- uses

-- the bytes that uses add up to, behind so many
abbrev pub unfolds : List (List ℕ) → ℕ → List ℕ → ℕ
unfolds ts w [] = w
unfolds ts w (n ∷ ns) = unfolds ts (w + length (text_at n ts)) ns

-- numbers that may be used behind these, where so many bytes are used
abbrev pub PassUses : List (List ℕ) → ℕ → ℕ → List ℕ → Type 0
PassUses ts u w [] = Unit {0}
PassUses ts u w (n ∷ ns) = (1 ≤ n) × (n ≤ length ts) × (n ≤ suc u) × (w + length (text_at n ts) ≤ limit unfolded) × PassUses ts (max u n) (w + length (text_at n ts)) ns

-- marks with these uses
pub record Counts (ms : List Mark) (ns : List ℕ) : Type 0 where
  pub along : (ts : List (List ℕ)) (b : List ℕ) (u w : ℕ) → (c : List ℕ) × Meets ms (state ts b u w) (state ts c (greatest u ns) (unfolds ts w ns)) (PassUses ts u w ns)

pub counts_still : (ms : List Mark) → AreStill ms → Counts ms []
counts_still ms h = record { along = λ ts b u w. (b ++ marks_text ms, meets_still ms ts b u w h) }

uses_behind : (ms ns : List ℕ) (ts : List (List ℕ)) (c : List ℕ) (u w : ℕ)
    → state ts c (greatest u (ms ++ ns)) (unfolds ts w (ms ++ ns)) ≡ state ts c (greatest (greatest u ms) ns) (unfolds ts (unfolds ts w ms) ns)
uses_behind [] ns ts c u w = refl
uses_behind (m ∷ ms) ns ts c u w = uses_behind ms ns ts c (max u m) (w + length (text_at m ts))

uses_parts : (ms ns : List ℕ) (ts : List (List ℕ)) (u w : ℕ) → PassUses ts u w (ms ++ ns) ↔ (PassUses ts u w ms × PassUses ts (greatest u ms) (unfolds ts w ms) ns)
uses_parts [] ns ts u w = (λ h. (tt, h), λ q. q.1)
uses_parts (m ∷ ms) ns ts u w =
    let r = uses_parts ms ns ts (max u m) (w + length (text_at m ts)) in
    (λ h. let q = r.0 h.4 in ((h.0, h.1, h.2, h.3, q.0), q.1), λ q. (q.0.0, q.0.1, q.0.2, q.0.3, r.1 (q.0.4, q.1)))

pub counts_both : (a b : List Mark) (ms ns : List ℕ) → Counts a ms → Counts b ns → Counts (a ++ b) (ms ++ ns)
counts_both a b ms ns h k = record {
  along = λ ts c u w.
      let first = h.along ts c u w in
      let rest = k.along ts first.0 (greatest u ms) (unfolds ts w ms) in
      let whole = meets_both a b first.1 rest.1 in
      let parts = uses_parts ms ns ts u w in
      (rest.0, record { after = whole.after ∙ sym (uses_behind ms ns ts rest.0 u w); into = λ p. parts.1 (whole.into p); from = λ q. whole.from (parts.0 q) });
}

pub counts_put : (m : Mark) (ms : List Mark) (ns : List ℕ) → IsStill (demands_of m) → Counts ms ns → Counts (m ∷ ms) ns
counts_put m ms ns h k = counts_both (m ∷ []) ms [] ns (counts_still (m ∷ []) (h, tt)) k

-- both demands of a use
pub two_met : (v w : Bool) (x y : CertificateCause × ℕ) → v ≡ true → w ≡ true
    → first_of (cond {A = Option (CertificateCause × ℕ)} v None (Some x)) (first_of (cond {A = Option (CertificateCause × ℕ)} w None (Some y)) None) ≡ None
two_met true true x y e f = refl
two_met true false x y e f = absurd cc
two_met false w x y e f = absurd cc

use_met : (n : ℕ) (ts : List (List ℕ)) (b : List ℕ) (u w : ℕ) → share_verdict (state ts b u w) 0 (demands_of (use_mark n)) ≡ None
    → (1 ≤ n) × (n ≤ length ts) × (n ≤ suc u) × (w + length (text_at n ts) ≤ limit unfolded)
use_met n ts b u w e = grind arith

met_use : (n : ℕ) (ts : List (List ℕ)) (b : List ℕ) (u w : ℕ) → 1 ≤ n → n ≤ length ts → n ≤ suc u → w + length (text_at n ts) ≤ limit unfolded
    → share_verdict (state ts b u w) 0 (demands_of (use_mark n)) ≡ None
met_use n ts b u w low high next light = simp (le-leb 1 n low, le-leb n (length ts) high, le-leb n (suc u) next, le-leb (w + length (text_at n ts)) (limit unfolded) light)

pub counts_use : (n : ℕ) → Counts (use_mark n ∷ []) (n ∷ [])
counts_use n = record {
  along = λ ts b u w. (
    b ++ numeral n,
    record { after = refl; into = λ p. let r = use_met n ts b u w p.0 in (r.0, r.1, r.2, r.3, tt); from = λ h. (met_use n ts b u w h.0 h.1 h.2 h.3, tt) },
  );
}

-- ---- a certificate

-- the numbers of uses
abbrev pub numbers_of : Uses → List Automaton → List ℕ
numbers_of in_full used = []
numbers_of (by_number f) used = map f used

numbers_both : (u : Uses) (a b : List Automaton) → numbers_of u (a ++ b) ≡ numbers_of u a ++ numbers_of u b
numbers_both in_full a b = refl
numbers_both (by_number f) a b = map-append f a b

no_numbers : (u : Uses) (ms : List Mark) → AreStill ms → Counts ms (numbers_of u [])
no_numbers in_full ms h = counts_still ms h
no_numbers (by_number f) ms h = counts_still ms h

counts_automaton : (a : Automaton) (x : Naming) → Counts (automaton_marks x a) []
counts_automaton a x = record { along = λ ts b u w. (marks_text (automaton_marks x a), meets_automaton a x ts b u w) }

counts_mapped : (u : Uses) (a b : List Automaton) (ms ns : List Mark) → Counts ms (numbers_of u a) → Counts ns (numbers_of u b) → Counts (ms ++ ns) (numbers_of u (a ++ b))
counts_mapped u a b ms ns h k = subst (Counts (ms ++ ns)) (sym (numbers_both u a b)) (counts_both ms ns (numbers_of u a) (numbers_of u b) h k)

counts_front : (front ms : List Mark) (ns : List ℕ) → AreStill front → Counts ms ns → Counts (front ++ ms) ns
counts_front front ms ns h k = counts_both front ms [] ns (counts_still front h) k

pub counts_infeasibility : (e : InfeasibilityEvidence) (x : Naming) (u : Uses) → Counts (infeasibility_marks x u e) (numbers_of u (used_by e))
counts_infeasibility by_caps x u = no_numbers u (fixed (codes "tcap\n") ∷ []) (tt, tt)
counts_infeasibility (by_automaton k a) x in_full = counts_front (fixed (codes "auto ") ∷ number k ∷ fixed (codes "\n") ∷ []) _ [] (tt, (tt, (tt, tt))) (counts_automaton a x)
counts_infeasibility (by_automaton k a) x (by_number f) = counts_front (fixed (codes "auto ") ∷ number k ∷ fixed (codes " ") ∷ []) _ (f a ∷ []) (tt, (tt, (tt, tt)))
    (counts_both (use_mark (f a) ∷ []) _ (f a ∷ []) [] (counts_use (f a)) (counts_still (fixed (codes "\n") ∷ []) (tt, tt)))

counts_evidence : (e : PairEvidence) (x : Naming) (u : Uses) → Counts (evidence_marks x u e) (numbers_of u (used_by_evidence e))
counts_evidence trivial_pair x u = no_numbers u _ (tt, tt)
counts_evidence (infeasible_pair e) x u = counts_infeasibility e x u
counts_evidence (conflicting_pair a b) x u = no_numbers u _ (tt, (tt, (tt, (tt, (tt, tt)))))
counts_evidence (joined_pair d e) x u = no_numbers u _ (tt, still_both (derivation_marks d) _ (derivation_still d) (derivation_still e))
counts_evidence (unfeasible_pair k d e) x u = no_numbers u _ (tt, (tt, (tt, still_both (derivation_marks d) _ (derivation_still d) (derivation_still e))))

pub counts_pairs : (ps : List PairEntry) (x : Naming) (u : Uses) (n : ℕ) → Counts (pairs_marks x u n ps) (numbers_of u (used_by_pairs ps))
counts_pairs [] x u n = no_numbers u [] tt
counts_pairs (p ∷ ps) x u n = counts_front (pair_front n p) _ _ (tt, (tt, (tt, (tt, (places_still p.position 0, (tt, (tt, (tt, tt))))))))
    (counts_mapped u (used_by_evidence p.evidence) (used_by_pairs ps) _ _ (counts_evidence p.evidence x u) (counts_pairs ps x u (suc n)))

pub counts_redexes : (rs : List Redex) (x : Naming) (u : Uses) (n : ℕ) → Counts (redexes_marks x u n rs) (numbers_of u (used_by_redexes rs))
counts_redexes [] x u n = no_numbers u [] tt
counts_redexes (r ∷ rs) x u n = counts_front (redex_front n r) _ _ (tt, (tt, (tt, (tt, (places_still r.position 0, (tt, (tt, (tt, tt))))))))
    (counts_mapped u (used_by r.evidence) (used_by_redexes rs) _ _ (counts_infeasibility r.evidence x u) (counts_redexes rs x u (suc n)))

counts_apart : (a : Apartness) (x : Naming) (u : Uses) → Counts (apart_marks x u a) (numbers_of u (used_by_apart a))
counts_apart (by_normal_forms rs) x u = counts_put _ _ _ tt (counts_redexes rs x u 1)
counts_apart by_rigid_caps x u = no_numbers u _ (tt, tt)

pub counts_steps : (ss : List Simplification) (x : Naming) (u : Uses) → Counts (simplifications_marks x u ss) (numbers_of u (used_by_steps ss))
counts_steps [] x u = no_numbers u [] tt
counts_steps (dropped r e ∷ ss) x u = counts_front (fixed (codes "drop ") ∷ number r ∷ fixed (codes " ") ∷ []) _ _ (tt, (tt, (tt, tt)))
    (counts_mapped u (used_by e) (used_by_steps ss) _ _ (counts_infeasibility e x u) (counts_steps ss x u))
counts_steps (inlined r k ∷ ss) x u = counts_front (fixed (codes "inline ") ∷ number r ∷ fixed (codes " ") ∷ number k ∷ fixed (codes "\n") ∷ []) _ _
    (tt, (tt, (tt, (tt, (tt, tt))))) (counts_steps ss x u)

pub counts_body : (c : Certificate) (x : Naming) (u : Uses) (given : Option Bool) → Counts (body_marks x u given c) (numbers_of u (automata_of c))
counts_body (ortho_certificate ps) x u given = counts_front (word (codes "ortho") (fits_answer true given ∷ []) ∷ fixed (codes "\n") ∷ []) _ _ (tt, (tt, tt)) (counts_pairs ps x u 1)
counts_body (quasi_certificate m ps) x u given =
    counts_front (word (codes "quasi") (fits_answer true given ∷ []) ∷ fixed (codes "\n") ∷ []) _ _ (tt, (tt, tt)) (counts_front (measure_marks x m) _ _ (measure_still m x) (counts_pairs ps x u 1))
counts_body (peak_certificate p) x u given =
    counts_front (word (codes "peak") (fits_answer false given ∷ []) ∷ fixed (codes "\n") ∷ fixed (codes "start ") ∷ []) _ _ (tt, (tt, (tt, tt)))
    (counts_front (term_marks x 1 1 p.start) _ _ (term_still p.start x 1 1) (counts_put _ _ _ tt
    (counts_front (derivation_marks p.first) _ _ (derivation_still p.first) (counts_front (derivation_marks p.second) _ _ (derivation_still p.second) (counts_apart p.apart x u)))))
counts_body (simplified_certificate ss c) x u given = counts_front (steps_front (length ss)) _ _ (tt, (tt, (tt, tt)))
    (counts_mapped u (used_by_steps ss) (automata_of c) _ _ (counts_steps ss x u) (counts_body c x u given))
