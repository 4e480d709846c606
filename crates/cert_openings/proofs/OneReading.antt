-- Two readings of a text up to one place are one.
use Rattle.cert_openings.proofs.Prelude.{◌≡◌, ℕ, List, ◌++◌, refl, sym, ap, ◌∙◌, marks_of, append_cancel_left, take-append_seam, Automaton, PairEntry, Simplification, Certificate, NameTable, name_of}
use Rattle.cert_openings.proofs.Prelude.{closing, Version, first_version, second_version, shared_by, marks_text, certificate_marks, text_both, front_marks, numbered_with, whole_marks, Opening}
use Rattle.cert_openings.proofs.Prelude.{ortho_opening, quasi_opening, simplified_opening, certificate_for, AreLeft, IsRead, AreOne}
use Rattle.cert_laws.proofs.AlikePaths.{same_skeletons}
use Rattle.cert_sharing.proofs.OneCertificate.{StandBefore, AreSame, marks_tell}
use Rattle.cert_openings.proofs.Opened.{gone}
use Rattle.cert_openings.proofs.OpeningMarks.{with_closing}

pub openings_same : (o p : Opening) (es fs : List PairEntry) → certificate_for o es ≡ certificate_for p fs → (o ≡ p) × (es ≡ fs)
openings_same ortho_opening ortho_opening es fs e = (refl, cc)
openings_same (quasi_opening m) (quasi_opening n) es fs e = let same : m ≡ n = cc in (ap quasi_opening same, cc)
openings_same (simplified_opening ss o) (simplified_opening ts p) es fs e =
    let steps : ss ≡ ts = cc in
    let inner : certificate_for o es ≡ certificate_for p fs = cc in
    let same = openings_same o p es fs inner in
    (ap (λ (x : List Simplification). simplified_opening x o) steps ∙ ap (simplified_opening ts) same.0, same.1)
openings_same _ _ es fs e = absurd cc

-- ---- what is read, with the last line behind it

stand : (v : Version) (names : NameTable) (c : Certificate) (left : List Automaton) → AreLeft v names c left → StandBefore v names c (shared_by names c ++ left)
stand first_version names c left h = tt
stand second_version names c left h = (h.2, (numbered_with names c left).each)

left_same : (v w : Version) (names : NameTable) (c d : Certificate) (l m : List Automaton) → v ≡ w → c ≡ d → AreLeft v names c l → AreLeft w names d m
    → AreSame v (shared_by names c ++ l) (shared_by names d ++ m) → l ≡ m
left_same first_version first_version names c d l m e f h k s = h ∙ sym k
left_same second_version second_version names c d l m e f h k s = append_cancel_left (shared_by names c) l m (s ∙ ap (λ (x : Certificate). shared_by names x ++ m) (sym f))
left_same _ _ names c d l m e f h k s = absurd cc

pub one_reading : (names : NameTable) (bytes : List ℕ) (o p : Opening) (es fs : List PairEntry) (at : ℕ) → (h : IsRead names bytes o es at) → (k : IsRead names bytes p fs at)
    → AreOne names bytes o p es fs at h k
unfolding gone
one_reading names bytes o p es fs at h k =
    let x = name_of names in
    let c = certificate_for o es in
    let d = certificate_for p fs in
    let bs = shared_by names c ++ h.left in
    let ds = shared_by names d ++ k.left in
    let a = gone names bytes o es at h in
    let b = gone names bytes p fs at k in
    let mine = front_marks x a.uses bs a.answer c in
    let yours = front_marks x b.uses ds b.answer d in
    let s = with_closing x a.uses bs a.answer c a.allowed a.spells.named in
    let t = with_closing x b.uses ds b.answer d b.allowed b.spells.named in
    let texts : marks_text mine ≡ marks_text yours =
    cc (a.text, b.text, a.place, b.place, take-append_seam (marks_text mine) h.rest, take-append_seam (marks_text yours) k.rest) in
    let same_text : marks_text (marks_of s.0) ≡ marks_text (marks_of t.0) = cc (s.1, t.1, text_both mine closing, text_both yours closing) in
    let marks : certificate_marks x a.uses bs a.answer c ≡ certificate_marks x b.uses ds b.answer d =
    cc (s.1, t.1, same_skeletons s.0 t.0 same_text, whole_marks x a.uses bs a.answer c, whole_marks x b.uses ds b.answer d) in
    let tell = marks_tell h.version k.version names c d bs ds a.answer b.answer h.within k.within (stand h.version names c h.left h.are_left) (stand k.version names d k.left k.are_left)
    marks in
    let same = openings_same o p es fs tell.1 in
    record {
      version = tell.0;
      opening = same.0;
      entries = same.1;
      left = left_same h.version k.version names c d h.left k.left tell.0 tell.1 h.are_left k.are_left tell.2;
      rest = append_cancel_left (marks_text mine) h.rest k.rest (cc (a.text, b.text));
    }
