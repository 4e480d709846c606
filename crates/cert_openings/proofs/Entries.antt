-- One entry more, and the last line.
use Rattle.cert_openings.proofs.Prelude.{◌≡◌, ◌⊎◌, inl, inr, ℕ, zero, suc, ◌+◌, ◌-◌, ◌≤◌, slice_get, Some, ◌<◌, cond, List, [], ◌∷◌, ◌++◌, length, refl, sym, ap, ◌∙◌, subst, codes, decimal}
use Rattle.cert_openings.proofs.Prelude.{append_assoc, append-nil, length-append, arith, three_parts, Automaton, PairEntry, Certificate, NameTable, position_text, Version, first_version}
use Rattle.cert_openings.proofs.Prelude.{second_version, Uses, IsUnsimplified, IsOfVersion, used_by_evidence, used_by_pairs, used_by_steps, automata_of, is_among, texts_of, with_new, shared_by}
use Rattle.cert_openings.proofs.Prelude.{unfolded_length, AllNew, AreAutomata, automaton_text, evidence_text, pairs_text, ArePairs, measure_text, simplifications_text, heading_text, body_text}
use Rattle.cert_openings.proofs.Prelude.{answer_line, certificate_text, IsWithin, IsCertificateText, is_shared, front_text, whole_text, none_left, Opening, ortho_opening, quasi_opening}
use Rattle.cert_openings.proofs.Prelude.{simplified_opening, certificate_for, uses_with, AreLeft, IsRead, Takes, IsWhole, IsReadTo, IsTold}
use Rattle.cert_sharing.proofs.FirstUses.{told, pick, pick_number}

-- ---- the automata of one entry more

pairs_more : (es : List PairEntry) (p : PairEntry) → used_by_pairs (es ++ p ∷ []) ≡ used_by_pairs es ++ used_by_evidence p.evidence
pairs_more [] p = append-nil (used_by_evidence p.evidence)
pairs_more (e ∷ es) p = cc (pairs_more es p, append_assoc (used_by_evidence e.evidence) (used_by_pairs es) (used_by_evidence p.evidence))

automata_more : (o : Opening) (es : List PairEntry) (p : PairEntry) → automata_of (certificate_for o (es ++ p ∷ [])) ≡ automata_of (certificate_for o es) ++ used_by_evidence p.evidence
automata_more ortho_opening es p = pairs_more es p
automata_more (quasi_opening m) es p = pairs_more es p
automata_more (simplified_opening steps o) es p =
    cc (automata_more o es p, append_assoc (used_by_steps steps) (automata_of (certificate_for o es)) (used_by_evidence p.evidence))

new_both : (a b : List Automaton) (names : NameTable) (old : List Automaton) → with_new names old (a ++ b) ≡ with_new names (with_new names old a) b
new_both [] b names old = refl
new_both (x ∷ a) b names old = new_both a b names (cond (is_among (automaton_text names x) (texts_of names old)) old (old ++ x ∷ []))

unfolded_both : (a b : List Automaton) (names : NameTable) → unfolded_length names (a ++ b) ≡ unfolded_length names a + unfolded_length names b
unfolded_both [] b names = omega arith
unfolded_both (x ∷ a) b names = let q = unfolded_both a b names in omega (arith, q)

-- ---- its text

-- an overlap alone
abbrev entry_text : NameTable → Uses → PairEntry → List ℕ
entry_text names u p = codes "pair " ++ (decimal p.inner ++ (codes " " ++ (position_text p.position ++ (codes " " ++ (decimal p.outer ++ (codes " " ++ evidence_text names u p.evidence))))))

pairs_text_more : (es : List PairEntry) (p : PairEntry) (names : NameTable) (u : Uses) → pairs_text names u (es ++ p ∷ []) ≡ pairs_text names u es ++ pairs_text names u (p ∷ [])
pairs_text_more [] p names u = refl
pairs_text_more (e ∷ es) p names u = cc (pairs_text_more es p names u, append_assoc (entry_text names u e) (pairs_text names u es) (pairs_text names u (p ∷ [])))

body_more : (o : Opening) (es : List PairEntry) (p : PairEntry) (names : NameTable) (u : Uses)
    → body_text names u (certificate_for o (es ++ p ∷ [])) ≡ body_text names u (certificate_for o es) ++ pairs_text names u (p ∷ [])
body_more ortho_opening es p names u = ap (λ (w : List ℕ). codes "ortho\n" ++ w) (pairs_text_more es p names u)
body_more (quasi_opening m) es p names u =
    cc (pairs_text_more es p names u, append_assoc (measure_text names m) (pairs_text names u es) (pairs_text names u (p ∷ [])))
body_more (simplified_opening steps o) es p names u =
    let lines = simplifications_text names u steps ++ body_text names u (certificate_for o es) in
    cc (
      body_more o es p names u,
      append_assoc (simplifications_text names u steps) (body_text names u (certificate_for o es)) (pairs_text names u (p ∷ [])),
      append_assoc (decimal (length steps)) (10 ∷ lines) (pairs_text names u (p ∷ [])),
    )

-- ---- its limits

are_more : (es : List PairEntry) (p : PairEntry) (names : NameTable) → ArePairs names es → ArePairs names (p ∷ []) → ArePairs names (es ++ p ∷ [])
are_more [] p names h k = k
are_more (e ∷ es) p names h k = (h.0, h.1, h.2, h.3, are_more es p names h.4 k)

within_more : (o : Opening) (es : List PairEntry) (p : PairEntry) (names : NameTable) → length es < 20000 → ArePairs names (p ∷ []) → IsWithin names (certificate_for o es)
    → IsWithin names (certificate_for o (es ++ p ∷ []))
within_more ortho_opening es p names l k h = let long = length-append es (p ∷ []) in (omega (arith, l, long), are_more es p names h.1 k)
within_more (quasi_opening m) es p names l k h = let long = length-append es (p ∷ []) in (h.0, omega (arith, l, long), are_more es p names h.2 k)
within_more (simplified_opening steps o) es p names l k h = (h.0, h.1, h.2, within_more o es p names l k h.3)

unsimplified_more : (o : Opening) (es ps : List PairEntry) → IsUnsimplified (certificate_for o es) → IsUnsimplified (certificate_for o ps)
unsimplified_more (simplified_opening steps o) es ps h = absurd h
unsimplified_more _ es ps h = h

pub allowed_more : (o : Opening) (es ps : List PairEntry) (v : Version) → IsOfVersion v (certificate_for o es) → IsOfVersion v (certificate_for o ps)
allowed_more ortho_opening es ps v h = tt
allowed_more (quasi_opening m) es ps v h = h
allowed_more (simplified_opening steps o) es ps first_version h = absurd h
allowed_more (simplified_opening steps o) es ps second_version h = unsimplified_more o es ps h

-- ---- what is shared and what is left

same_shared : (o : Opening) (es : List PairEntry) (p : PairEntry) (names : NameTable) (left then : List Automaton)
    → with_new names (shared_by names (certificate_for o es)) (used_by_evidence p.evidence) ++ then ≡ shared_by names (certificate_for o es) ++ left
    → shared_by names (certificate_for o (es ++ p ∷ [])) ++ then ≡ shared_by names (certificate_for o es) ++ left
same_shared o es p names left then e = cc (automata_more o es p, new_both (automata_of (certificate_for o es)) (used_by_evidence p.evidence) names [])

left_more : (v : Version) (o : Opening) (es : List PairEntry) (p : PairEntry) (names : NameTable) (left then : List Automaton) → AreLeft v names (certificate_for o es) left
    → Takes v names (certificate_for o es) left (used_by_evidence p.evidence) then → AreLeft v names (certificate_for o (es ++ p ∷ [])) then
left_more first_version o es p names left then h t = t
left_more second_version o es p names left then h t =
    let same = same_shared o es p names left then t.0 in
    let long = ap (unfolded_length names) (automata_more o es p) ∙ unfolded_both (automata_of (certificate_for o es)) (used_by_evidence p.evidence) names in
    let most = t.1 in
    subst (λ (l : List Automaton). (length l ≤ 1000) × AllNew [] (texts_of names l) × AreAutomata names l × (unfolded_length names (automata_of (certificate_for o (es ++ p ∷ []))) ≤ 67108864))
    (sym same) (h.0, h.1, h.2, omega (arith, long, most))

-- the lines before the body and the numbers are those of before
front_more : (v : Version) (o : Opening) (es : List PairEntry) (p : PairEntry) (names : NameTable) (left then : List Automaton)
    → Takes v names (certificate_for o es) left (used_by_evidence p.evidence) then
    → (heading_text v names (shared_by names (certificate_for o (es ++ p ∷ [])) ++ then) ≡ heading_text v names (shared_by names (certificate_for o es) ++ left))
    × (uses_with v names (shared_by names (certificate_for o (es ++ p ∷ [])) ++ then) ≡ uses_with v names (shared_by names (certificate_for o es) ++ left))
front_more first_version o es p names left then t = (refl, refl)
front_more second_version o es p names left then t =
    let same = same_shared o es p names left then t.0 in
    (ap (heading_text second_version names) same, ap (uses_with second_version names) same)

pub entry_is_taken :
    (names : NameTable) (bytes : List ℕ) (o : Opening) (es : List PairEntry) (at : ℕ) (p : PairEntry) (left : List Automaton) (rest : List ℕ) → (h : IsRead names bytes o es at)
    → length es < 20000 → ArePairs names (p ∷ [])
    → h.rest ≡ pairs_text names (uses_with h.version names (shared_by names (certificate_for o es) ++ h.left)) (p ∷ []) ++ rest
    → Takes h.version names (certificate_for o es) h.left (used_by_evidence p.evidence) left
    → IsReadTo names bytes o (es ++ p ∷ []) (at + length (pairs_text names (uses_with h.version names (shared_by names (certificate_for o es) ++ h.left)) (p ∷ []))) h.version left rest
entry_is_taken names bytes o es at p then rest h l k e t =
    let c = certificate_for o es in
    let d = certificate_for o (es ++ p ∷ []) in
    let v = h.version in
    let u = uses_with v names (shared_by names c ++ h.left) in
    let heading = heading_text v names (shared_by names c ++ h.left) in
    let one = pairs_text names u (p ∷ []) in
    let body : body_text names u d ++ rest ≡ body_text names u c ++ h.rest =
    cc (body_more o es p names u, append_assoc (body_text names u c) one rest) in
    record {
      read = record {
        version = v;
        allowed = allowed_more o es (es ++ p ∷ []) v h.allowed;
        within = within_more o es p names l k h.within;
        left = then;
        are_left = left_more v o es p names h.left then h.are_left t;
        answer = h.answer;
        is_answer = h.is_answer;
        rest = rest;
        text = (let same = front_more v o es p names h.left then t in cc);
        place = omega (arith, ap length e ∙ length-append one rest, h.place);
      };
      is_version = refl;
      is_left = refl;
      is_rest = refl;
    }

-- the automaton with a number stands at its place
pub pick_stands : (all : List Automaton) (n : ℕ) → 1 ≤ n → n ≤ length all → slice_get all (n - 1) ≡ Some (pick all n)
pick_stands [] n low high = absurd (let q : n ≤ 0 = high in omega arith)
pick_stands (a ∷ all) zero low high = absurd (omega (arith, low))
pick_stands (a ∷ all) (suc zero) low high = refl
pick_stands (a ∷ all) (suc (suc n)) low high =
    let e : suc (suc n) - 1 ≡ suc n = omega arith in
    let d : n ≡ suc n - 1 = omega arith in
    ap (slice_get (a ∷ all)) e ∙ ap (slice_get all) d ∙ pick_stands all (suc n) (omega arith) (let q : suc (suc n) ≤ suc (length all) = high in omega arith)

pub number_tells : (names : NameTable) (now left : List Automaton) (n : ℕ) → AllNew [] (texts_of names (now ++ left)) → 1 ≤ n → n ≤ length (now ++ left)
    → n ≤ suc (length now) → IsTold names now left n
number_tells names now left n h low high most =
    let r = told (n ∷ []) names (now ++ left) now left h refl (low, high, most, tt) in
    record {
      automaton = pick (now ++ left) n;
      stands = pick_stands (now ++ left) n low high;
      number = pick_number names (now ++ left) n h low high;
      then = r.left;
      takes = r.parts;
    }

-- ---- the whole text

pub answer_is : (o : Opening) (es : List PairEntry) → answer_line (certificate_for o es) ≡ codes "YES\n"
answer_is ortho_opening es = refl
answer_is (quasi_opening m) es = refl
answer_is (simplified_opening steps o) es = answer_is o es

pub whole_is_text : (names : NameTable) (bytes : List ℕ) (o : Opening) (es : List PairEntry) (at : ℕ) → (h : IsRead names bytes o es at) → h.left ≡ [] → h.rest ≡ codes "end\n"
    → IsCertificateText names bytes (certificate_for o es)
whole_is_text names bytes o es at h e f = (
  h.version,
  record {
    spelt = (h.allowed, h.within, is_shared h.version names c h.left e h.are_left);
    text = elim h.is_answer [ inl q ↦ inl (rw q at text) | inr q ↦ inr (text ∙ ap (λ (a : List ℕ). a ++ certificate_text h.version names c) (q ∙ sym (answer_is o es))) ];
  },
)
  where
    c : Certificate
    c = certificate_for o es

    text : bytes ≡ h.answer ++ certificate_text h.version names c
    text =
        let all = shared_by names c ++ h.left in
        h.text ∙ ap (λ (w : List ℕ). h.answer ++ w) (sym (append_assoc (heading_text h.version names all) (body_text names (uses_with h.version names all) c) h.rest)
        ∙ ap (λ (w : List ℕ). front_text names h.version c all ++ w) f
        ∙ ap (λ (l : List Automaton). front_text names h.version c (shared_by names c ++ l) ++ codes "end\n") e ∙ whole_text h.version names c)

pub text_is_whole : (names : NameTable) (bytes : List ℕ) (o : Opening) (es : List PairEntry) → IsCertificateText names bytes (certificate_for o es) → IsWhole names bytes o es
text_is_whole names bytes o es (v, h) = elim h.text [ inl e ↦ whole [] (inl refl) e | inr e ↦ whole (answer_line c) (inr (answer_is o es)) e ]
  where
    c : Certificate
    c = certificate_for o es

    whole : (answer : List ℕ) → (answer ≡ []) ⊎ (answer ≡ codes "YES\n") → bytes ≡ answer ++ certificate_text v names c → IsWhole names bytes o es
    whole answer is_answer e =
        let all = shared_by names c ++ [] in
        let heading = heading_text v names all in
        let body = body_text names (uses_with v names all) c in
        let text = e ∙ ap (λ (w : List ℕ). answer ++ w) (sym (whole_text v names c) ∙ append_assoc heading body (codes "end\n")) in
        record {
          at = length (answer ++ (heading ++ body));
          read = record {
            version = v;
            allowed = h.spelt.0;
            within = h.spelt.1;
            left = [];
            are_left = none_left v names c h.spelt.1 h.spelt.2;
            answer = answer;
            is_answer = is_answer;
            rest = codes "end\n";
            text = text;
            place = sym (ap length (text ∙ three_parts answer heading body (codes "end\n")) ∙ length-append (answer ++ (heading ++ body)) (codes "end\n"));
          };
          all_used = refl;
          last = refl;
        }
