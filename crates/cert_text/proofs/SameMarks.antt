-- The marks of an opening and of entries are no front of such marks with the same opening and entries, whatever automata are
-- shared: behind the shared automata there are as many.
use Rattle.cert_text.proofs.Prelude.{◌≡◌, ◌+◌, ◌==◌, ℕ, suc, Bool, true, false, cond, List, [], ◌∷◌, ◌++◌, length, get_or, Option, Some, None, codes, refl, sym, ap, ◌∙◌, subst, arith, append_assoc}
use Rattle.cert_text.proofs.Prelude.{length-append, append_cancel_left, Automaton, InfeasibilityEvidence, by_caps, by_automaton, PairEvidence, infeasible_pair, PairEntry, Simplification, dropped}
use Rattle.cert_text.proofs.Prelude.{inlined, Uses, in_full, by_number, version_of, Naming, automaton_ends, shares, Mark, fixed, closed, automaton_marks, automata_marks, infeasibility_marks}
use Rattle.cert_text.proofs.Prelude.{evidence_marks, pairs_marks, simplifications_marks, body_marks, answer_marks, heading_marks, Opening, ortho_opening, quasi_opening, simplified_opening}
use Rattle.cert_text.proofs.Prelude.{certificate_for, read_marks}
use Rattle.cert_laws.proofs.Asking.{automaton_asks}
use Rattle.cert_openings.proofs.Late.{IsInBody, Late}
use Rattle.cert_sharing.proofs.OneCertificate.{clash}

-- ---- as many marks

infeasibility_long : (e : InfeasibilityEvidence) (x : Naming) (u w : Uses) → version_of u ≡ version_of w → length (infeasibility_marks x u e) ≡ length (infeasibility_marks x w e)
infeasibility_long by_caps x u w v = refl
infeasibility_long (by_automaton k a) x in_full in_full v = refl
infeasibility_long (by_automaton k a) x (by_number f) (by_number h) v = refl
infeasibility_long (by_automaton k a) x _ _ v = absurd cc

evidence_long : (e : PairEvidence) (x : Naming) (u w : Uses) → version_of u ≡ version_of w → length (evidence_marks x u e) ≡ length (evidence_marks x w e)
evidence_long (infeasible_pair e) x u w v = infeasibility_long e x u w v
evidence_long _ x u w v = refl

pairs_long : (ps : List PairEntry) (x : Naming) (u w : Uses) (n : ℕ) → version_of u ≡ version_of w → length (pairs_marks x u n ps) ≡ length (pairs_marks x w n ps)
pairs_long [] x u w n v = refl
pairs_long (p ∷ ps) x u w n v = simp (length-append, evidence_long p.evidence x u w v, pairs_long ps x u w (suc n) v)

steps_long : (ss : List Simplification) (x : Naming) (u w : Uses) → version_of u ≡ version_of w → length (simplifications_marks x u ss) ≡ length (simplifications_marks x w ss)
steps_long [] x u w v = refl
steps_long (dropped r e ∷ ss) x u w v = simp (length-append, infeasibility_long e x u w v, steps_long ss x u w v)
steps_long (inlined r k ∷ ss) x u w v = simp (steps_long ss x u w v)

body_long : (o : Opening) (es : List PairEntry) (x : Naming) (u w : Uses) (g h : Option Bool) → version_of u ≡ version_of w
    → length (body_marks x u g (certificate_for o es)) ≡ length (body_marks x w h (certificate_for o es))
body_long ortho_opening es x u w g h v = simp (pairs_long es x u w 1 v)
body_long (quasi_opening m) es x u w g h v = simp (length-append, pairs_long es x u w 1 v)
body_long (simplified_opening ss o) es x u w g h v = simp (length-append, steps_long ss x u w v, body_long o es x u w g h v)

-- ---- the lines before the body

abbrev seal : Mark
seal = closed (shares automaton_ends)

-- marks up to the end of a shared automaton
sealed : (a b q r : List Mark) → Late a → Late b → a ++ seal ∷ q ≡ b ++ seal ∷ r → q ≡ r
sealed [] [] q r s t e = cc
sealed [] (m ∷ b) q r s t e = let first : m ≡ seal = cc in absurd (subst (λ (n : Mark). Late (n ∷ [])) first (t.0, tt)).0.0
sealed (m ∷ a) [] q r s t e = let first : m ≡ seal = cc in absurd (subst (λ (n : Mark). Late (n ∷ [])) first (s.0, tt)).0.0
sealed (m ∷ a) (n ∷ b) q r s t e = sealed a b q r s.1 t.1 (cc)

late : (a : Automaton) (x : Naming) → Late (automaton_marks x a)
late = automaton_asks ⊥ IsInBody tt (λ n. tt) (λ n. tt)

flat : (a c k : List Mark) → ((a ++ seal ∷ []) ++ c) ++ k ≡ a ++ seal ∷ (c ++ k)
flat a c k = rw (append_assoc, append_assoc)

automata_rest : (all bs : List Automaton) (x : Naming) (a b : List Mark) → length all ≡ length bs → automata_marks x all ++ a ≡ automata_marks x bs ++ b → a ≡ b
automata_rest [] [] x a b n e = e
automata_rest [] (q ∷ bs) x a b n e = absurd cc
automata_rest (p ∷ all) [] x a b n e = absurd cc
automata_rest (p ∷ all) (q ∷ bs) x a b n e = automata_rest all bs x a b (cc) (sealed (automaton_marks x p) (automaton_marks x q) _ _ (late p x) (late q x)
    (sym (flat (automaton_marks x p) (automata_marks x all) a) ∙ e ∙ flat (automaton_marks x q) (automata_marks x bs) b))

heading_rest : (u w : Uses) (all bs : List Automaton) (x : Naming) (a b : List Mark) → heading_marks x u all ++ a ≡ heading_marks x w bs ++ b → (version_of u ≡ version_of w) × (a ≡ b)
heading_rest in_full in_full all bs x a b e = (refl, append_cancel_left (fixed (codes "concon 1\n") ∷ []) a b e)
heading_rest in_full (by_number h) all bs x a b e = absurd (clash _ _ _ _ refl e)
heading_rest (by_number f) in_full all bs x a b e = absurd (clash _ _ _ _ refl e)
heading_rest (by_number f) (by_number h) all bs x a b e =
    let lines = append_cancel_left (fixed (codes "concon 2\n") ∷ fixed (codes "shared ") ∷ []) _ _ e in
    (refl, automata_rest all bs x a b (cc) (cc))

-- behind an answer line, if there is one
abbrev behind_answer : List Mark → List Mark
behind_answer (fixed bytes ∷ ms) = cond (get_or bytes 0 0 == 99) (fixed bytes ∷ ms) ms
behind_answer ms = ms

behind_it : (g : Option Bool) (u : Uses) (all : List Automaton) (x : Naming) (a : List Mark) → behind_answer (answer_marks g ++ (heading_marks x u all ++ a)) ≡ heading_marks x u all ++ a
behind_it None in_full all x a = refl
behind_it None (by_number f) all x a = refl
behind_it (Some true) u all x a = refl
behind_it (Some false) u all x a = refl

pub no_front : (x : Naming) (u w : Uses) (all bs : List Automaton) (g h : Option Bool) (o : Opening) (es : List PairEntry) (m : Mark) (ms : List Mark)
    → read_marks x u all g o es ≡ read_marks x w bs h o es ++ m ∷ ms → ⊥
no_front x u w all bs g h o es m ms e =
    let one = body_marks x u g (certificate_for o es) in
    let other = body_marks x w h (certificate_for o es) in
    let whole : answer_marks g ++ (heading_marks x u all ++ one) ≡ answer_marks h ++ (heading_marks x w bs ++ (other ++ m ∷ ms)) =
    cc (append_assoc (answer_marks h) (heading_marks x w bs ++ other) (m ∷ ms), append_assoc (heading_marks x w bs) other (m ∷ ms)) in
    let rest = heading_rest u w all bs x one (other ++ m ∷ ms) (sym (behind_it g u all x one) ∙ ap behind_answer whole ∙ behind_it h w bs x (other ++ m ∷ ms)) in
    let sum : length one ≡ length other + suc (length ms) = ap length rest.1 ∙ length-append other (m ∷ ms) in
    omega (arith, sum, body_long o es x u w g h rest.0)
