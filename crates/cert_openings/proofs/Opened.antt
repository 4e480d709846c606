-- A read opening, with entries behind it, by its marks: they pass, and so do its shared automata.
use Rattle.cert_openings.proofs.Prelude.{◌≡◌, ◌⊎◌, inl, inr, ℕ, ◌+◌, Bool, true, false, List, [], ◌++◌, length, Option, Some, None, refl, sym, ap, ◌∙◌, subst, codes, length-append, arith}
use Rattle.cert_openings.proofs.Prelude.{three_parts, Automaton, PairEntry, Certificate, NameTable, name_of, IsWithin, Version, Uses, version_of, IsOfVersion, shared_by, is_answer, marks_text}
use Rattle.cert_openings.proofs.Prelude.{answer_marks, heading_text, body_text, nothing_shared, PassShares, Sound, front_marks, same_version, spelt_front, pass_front, Opening, ortho_opening}
use Rattle.cert_openings.proofs.Prelude.{quasi_opening, simplified_opening, certificate_for, uses_with, AreLeft, IsRead, told_marks, IsReadTo}
use Rattle.cert_laws.proofs.SpeltWhole.{answer_of}
use Rattle.cert_openings.proofs.Along.{Along, along}
use Rattle.cert_openings.proofs.OpeningMarks.{with_closing}

-- ---- an opening and entries

pub record Gone (names : NameTable) (bytes : List ℕ) (o : Opening) (es : List PairEntry) (end : ℕ) : Type 0 where
  pub uses : Uses
  pub shared : List Automaton
  pub answer : Option Bool
  pub allowed : IsOfVersion (version_of uses) (certificate_for o es)
  pub spells : Sound names (front_marks (name_of names) uses shared answer (certificate_for o es))
  pub pass_shared : PassShares nothing_shared (front_marks (name_of names) uses shared answer (certificate_for o es))
  pub rest : List ℕ
  pub text : bytes ≡ marks_text (front_marks (name_of names) uses shared answer (certificate_for o es)) ++ rest
  pub place : length (marks_text (front_marks (name_of names) uses shared answer (certificate_for o es))) ≡ end

pub told_is : (o : Opening) (es : List PairEntry) → answer_of (certificate_for o es) ≡ true
told_is ortho_opening es = refl
told_is (quasi_opening m) es = refl
told_is (simplified_opening ss o) es = told_is o es

-- an answer line that fits, or none
pub given_of : (a : List ℕ) → (a ≡ []) ⊎ (a ≡ codes "YES\n") → (g : Option Bool) × (a ≡ marks_text (answer_marks g)) × (is_answer true g ≡ true)
given_of a (inl e) = (None, e, refl)
given_of a (inr e) = (Some true, e, refl)

unfoldable pub gone : (names : NameTable) (bytes : List ℕ) (o : Opening) (es : List PairEntry) (end : ℕ) → IsRead names bytes o es end → Gone names bytes o es end
gone names bytes o es end h =
    let c = certificate_for o es in
    let v = h.version in
    let bs = shared_by names c ++ h.left in
    let u = uses_with v names bs in
    let g = given_of h.answer h.is_answer in
    let ms = front_marks (name_of names) u bs g.0 c in
    let spells = spelt_front v names c h.left g.0 h.are_left (ap (λ (b : Bool). is_answer b g.0) (told_is o es) ∙ g.2) h.within in
    let text : bytes ≡ marks_text ms ++ h.rest = cc (three_parts h.answer (heading_text v names bs) (body_text names u c) h.rest) in
    record {
      uses = u;
      shared = bs;
      answer = g.0;
      allowed = subst (λ (w : Version). IsOfVersion w c) (sym (same_version v names bs)) h.allowed;
      spells = record { passed = spells.passed; named = spells.named };
      pass_shared = pass_front v names c h.left g.0 h.are_left;
      rest = h.rest;
      text = text;
      place = (let place = h.place in omega (arith, ap length text ∙ length-append (marks_text ms) h.rest, place));
    }

pub gone_rest : (names : NameTable) (bytes : List ℕ) (o : Opening) (es : List PairEntry) (end : ℕ) → (h : IsRead names bytes o es end) → (gone names bytes o es end h).rest ≡ h.rest
unfolding gone
gone_rest names bytes o es end h = refl

-- a reader goes along them
pub gone_along : (names : NameTable) (bytes : List ℕ) (o : Opening) (es : List PairEntry) (end : ℕ) → (h : Gone names bytes o es end)
    → Along (front_marks (name_of names) h.uses h.shared h.answer (certificate_for o es)) bytes h.rest
gone_along names bytes o es end h =
    let s = with_closing (name_of names) h.uses h.shared h.answer (certificate_for o es) h.allowed h.spells.named in
    along s.0 (front_marks (name_of names) h.uses h.shared h.answer (certificate_for o es)) bytes h.rest s.1 h.text

-- bytes that begin with marks as these
abbrev pub AreMarked : (names : NameTable) (bytes rest : List ℕ) (given : Option Bool) (left : List Automaton) → Version → Certificate → Type 0
AreMarked names bytes rest given left v c = IsOfVersion v c × IsWithin names c × AreLeft v names c left × (is_answer (answer_of c) given ≡ true)
    × (bytes ≡ marks_text (told_marks names v given c (shared_by names c ++ left)) ++ rest)

-- are read
pub read_front : (v : Version) (names : NameTable) (given : Option Bool) (o : Opening) (es : List PairEntry) (left : List Automaton) (bytes rest : List ℕ) (end : ℕ)
    → AreMarked names bytes rest given left v (certificate_for o es) → end + length rest ≡ length bytes → IsReadTo names bytes o es end v left rest
read_front v names given o es left bytes rest end (a, w, l, s, e) p =
    let c = certificate_for o es in
    let all = shared_by names c ++ left in
    let heading = heading_text v names all in
    let body = body_text names (uses_with v names all) c in
    let answer = marks_text (answer_marks given) in
    record {
      read = record {
        version = v;
        allowed = a;
        within = w;
        left = left;
        are_left = l;
        answer = answer;
        is_answer = yes given (ap (λ (b : Bool). is_answer b given) (sym (told_is o es)) ∙ s);
        rest = rest;
        text = e ∙ ap (λ (t : List ℕ). t ++ rest) (spelt_front v names c left given l s w).text ∙ sym (three_parts answer heading body rest);
        place = p;
      };
      is_version = refl;
      is_left = refl;
      is_rest = refl;
    }
  where
    yes : (g : Option Bool) → is_answer true g ≡ true → (marks_text (answer_marks g) ≡ []) ⊎ (marks_text (answer_marks g) ≡ codes "YES\n")
    yes None e = inl refl
    yes (Some true) e = inr refl
    yes (Some false) e = absurd cc
