-- What is read along the marks of a certificate is its text: marks that pass, with symbols that are found, mean the certificate itself.
use Rattle.cert_reading.proofs.Prelude.{◌≡◌, ◌+◌, ℕ, Bool, true, List, [], ◌∷◌, ◌++◌, length, drop, take, Option, refl, sym, ap, ◌∙◌, subst, arith, drop_at, append-nil}
use Rattle.cert_reading.proofs.Prelude.{Automaton, PairEntry}
use Rattle.cert_reading.proofs.Prelude.{Certificate, ortho_certificate, quasi_certificate, peak_certificate, simplified_certificate, NameTable, name_of}
use Rattle.cert_reading.proofs.Prelude.{Version, first_version, second_version, version_of, IsOfVersion}
use Rattle.cert_reading.proofs.Prelude.{used_by_steps, automata_of, number_in, shared_by, AreAutomata, Naming, Mark, marks_text, automata_marks, certificate_marks, HaveNames, Pass, Shared}
use Rattle.cert_reading.proofs.Prelude.{nothing_shared, behind_marks, PassShares, opening, IsVersionText, IsCertificateText, Lead, name_lead, leads, is_there, mark_of, taken, Left, pick}
use Rattle.cert_reading.proofs.Prelude.{pick_number, Opening, certificate_for, pick_stands, with_begun, Walks, Run, walks_text, walks_pass, ArePlainAutomata, IsUsed}
use Rattle.cert_reading.proofs.Prelude.{IsPlainBy}
use Rattle.std.proofs.Math.Seq.{drop-nil}
use Rattle.cert_grammar.proofs.ScanWords.{name_is}
use Rattle.cert_laws.proofs.PassEvidence.{AllOf}
use Rattle.cert_reading.proofs.ListMarks.{all_both}
use Rattle.cert_laws.proofs.Paths.{first_sound, found_there}
use Rattle.cert_laws.specs.FoundNames.{tagged, AreFound}
use Rattle.cert_openings.proofs.Back.{read_meant}
use Rattle.cert_openings.specs.Laws.{IsReadTo}
use Rattle.cert_reading.specs.Shared.{CanShare}
use Rattle.cert_sharing.proofs.PassShares.{Shows, IsCounted, AreShared, MeantFront, front_meant, text_meant, meant_automata}
use Rattle.cert_sharing.proofs.SpeltShares.{front_marks, same_version}
use Rattle.cert_sharing.specs.Fronts.{uses_with, AreLeft}

-- ---- names that are walked over are identifiers

named_lead : (a : Lead) (bytes : List ℕ) (ms : List Mark) → is_there a bytes ≡ true → HaveNames ms → HaveNames (mark_of a (take (taken a bytes) bytes) ∷ ms)
named_lead (name_lead demands items) bytes ms e h = (name_is (take (taken (name_lead demands items) bytes) bytes) (found_there (name_lead demands items) bytes e).spelt, h)
named_lead _ bytes ms e h = h

pub walks_named : (names : NameTable) (ms : List Mark) (l k : Left) → Walks names ms l k → HaveNames ms
walks_named names [] l k w = tt
walks_named names (m ∷ ms) l k w = subst (λ (n : Mark). HaveNames (n ∷ ms)) (sym w.1.mark)
    (named_lead w.1.lead l.bytes ms (first_sound (leads w.1.item) w.1.lead l.bytes w.1.first).1 (walks_named names ms w.0 k w.2))

-- marks that pass, for names that are found
pub record Along (names : NameTable) (f : Naming → List Mark) : Type 0 where
  pub named : HaveNames (f (name_of names))
  pub passed : Pass names (f (name_of names))
  pub found : AreFound names (f tagged)

-- ---- what is known of automata that are used

pub of_certificate : (v : Version) (all : List Automaton) (c : Certificate) → IsPlainBy v all c → AllOf (IsUsed v all) (automata_of c)
of_certificate v all (ortho_certificate ps) h = h
of_certificate v all (quasi_certificate m ps) h = h.1
of_certificate v all (peak_certificate p) h = h
of_certificate v all (simplified_certificate ss c) h = all_both (IsUsed v all) (used_by_steps ss) (automata_of c) h.1 (of_certificate v all c h.2)

plain_version : (v : Version) (all : List Automaton) (c : Certificate) → IsPlainBy v all c → IsOfVersion v c
plain_version v all (ortho_certificate ps) p = tt
plain_version v all (quasi_certificate m ps) p = p.0
plain_version v all (peak_certificate x) p = tt
plain_version v all (simplified_certificate ss c) p = p.0

-- its number tells an automaton
shows : (v : Version) (names : NameTable) (all : List Automaton) → ArePlainAutomata all → Shows names (IsUsed v all) (uses_with v names all) all
shows first_version names all p = λ a h. h
shows second_version names all p = (
  p,
  λ new a h.
      let there : pick all h.0 ≡ a = cc (pick_stands all h.0 h.1 h.2, h.3) in
      subst (λ (b : Automaton). pick all (number_in names all b) ≡ b) there (ap (pick all) (pick_number names all h.0 new h.1 h.2)),
)

pub automata_within : (bs : List Automaton) (names : NameTable) → ArePlainAutomata bs → Along names (λ u. automata_marks u bs) → AreAutomata names bs
automata_within bs names p h =
    let m = meant_automata bs (name_of names) names (record { named = h.named; passed = h.passed }) in
    subst (AreAutomata names) (sym (m.same ((λ f. refl), p) h.found)) m.is.0

-- ---- an opening and entries

left_is : (v : Version) (names : NameTable) (c : Certificate) (all left : List Automaton) (s : Shared) → CanShare v all → AreLeft v names c left
    → IsCounted (version_of (uses_with v names all)) names c (shared_by names c ++ left) s → AreShared (uses_with v names all) all (shared_by names c ++ left) → left ≡ drop s.used all
left_is first_version names c all left s none l k e = l ∙ sym (ap (drop s.used) none ∙ drop-nil s.used)
left_is second_version names c all left s none l k e = sym (ap (drop s.used) e ∙ drop_at (shared_by names c) left s.used (sym k.0))

pub front_found : (v : Version) (all : List Automaton) (names : NameTable) (bytes left : List ℕ) (given : Option Bool) (o : Opening) (es : List PairEntry) (at used : ℕ)
    → CanShare v all → IsPlainBy v all (certificate_for o es) → ArePlainAutomata all → Along names (λ u. front_marks u (uses_with v names all) all given (certificate_for o es))
    → PassShares nothing_shared (front_marks (name_of names) (uses_with v names all) all given (certificate_for o es))
    → (behind_marks (front_marks (name_of names) (uses_with v names all) all given (certificate_for o es)) nothing_shared).used ≡ used
    → bytes ≡ marks_text (front_marks (name_of names) (uses_with v names all) all given (certificate_for o es)) ++ left → at + length left ≡ length bytes
    → IsReadTo names bytes o es at v (drop used all) left
front_found v all names bytes left given o es at used share p q a h e text place =
    subst (λ (l : List Automaton). IsReadTo names bytes o es at v l left) (left_is v names k.certificate all k.left _ share (subst (λ (w : Version). AreLeft w names k.certificate k.left) version
    k.are_left) k.counted same.1 ∙ ap (λ (n : ℕ). drop n all) e) (read_meant k o es v bytes left at version (sym same.0) text place)
  where
    c : Certificate
    c = certificate_for o es

    version : version_of (uses_with v names all) ≡ v
    version = same_version v names all

    k : MeantFront (name_of names) names (uses_with v names all) (IsUsed v all) all given c
    k = front_meant (uses_with v names all) c (name_of names) names (IsUsed v all) all given (of_certificate v all c p)
        (subst (λ (w : Version). IsOfVersion w c) (sym version) (plain_version v all c p)) a.named a.passed h

    same : (c ≡ k.certificate) × AreShared (uses_with v names all) all (shared_by names k.certificate ++ k.left)
    same = k.same (λ f. refl) (shows v names all q) a.found

-- ---- whole texts

pub found_by : (v : Version) (c : Certificate) (names : NameTable) (all : List Automaton) (given : Option Bool) (bytes : List ℕ) (s t : Shared) → s ≡ nothing_shared
    → CanShare v all → IsPlainBy v all c → ArePlainAutomata all
    → Run names (length bytes) (opening ∷ []) (λ u. certificate_marks u (uses_with v names all) all given c) [] bytes [] s t → IsCertificateText names bytes c
found_by v c names all given bytes s t fresh share p q r =
    let x = name_of names in
    let u = uses_with v names all in
    let ms = certificate_marks x u all given c in
    let w = r.walks (omega arith) [] in
    let keeps = r.shares (omega arith) [] in
    let k = text_meant u c x names (IsUsed v all) all given (of_certificate v all c p) (subst (λ (d : Version). IsOfVersion d c) (sym (same_version v names all)) (plain_version v all c p))
    (walks_named names ms _ _ w) (walks_pass names ms _ _ w) (subst (λ (z : Shared). PassShares z ms) (ap (with_begun []) fresh) keeps.0) in (
      version_of u,
      subst (IsVersionText (version_of u) names bytes) (sym (k.same (λ f. refl) (shows v names all q) r.found))
          (subst (λ (b : List ℕ). IsVersionText (version_of u) names b k.certificate) (sym (walks_text names ms _ _ w ∙ append-nil (marks_text ms))) k.text),
    )
