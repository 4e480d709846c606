-- Texts that are read up to a body, or behind the word of its kind.
use Rattle.cert_text.proofs.Prelude.{◌≡◌, ℕ, Bool, List, [], ◌∷◌, ◌++◌, length, Option, Some, None, codes, refl, sym, ap, ◌∙◌, arith, append_assoc, append-nil, Automaton}
use Rattle.cert_text.proofs.Prelude.{Simplification, Certificate, simplified_certificate, NameTable, name_of, Version, first_version, second_version, Uses, number_in}
use Rattle.cert_text.proofs.Prelude.{CertificateCause, Naming, Mark, fixed, marks_text, answer_marks, heading_marks, body_marks, closing, certificate_marks, HaveNames, Item, opening}
use Rattle.cert_text.proofs.Prelude.{between, line, nothing_shared, AreStill, counts_still, Opening, certificate_for, uses_with, IsOpeningEnd, IsOpened, CertError, told, IsRefusedAs}
use Rattle.cert_text.proofs.Prelude.{Run, Reads, walks_text, kind_mark, item_by, Peak, Place, IsStoppedWhere, ReadsWhere, WithinOpening, BeforeEntries, Anywhere, walks_named, kind_item}
use Rattle.cert_text.proofs.Prelude.{then_where, as_marks_where, low_where, elsewhere, anywhere, reads_anywhere, open_before_where, ran, stopped_where, low_unopened, known_where}
use Rattle.cert_text.proofs.Prelude.{read_marks, steps_marks, opening_behind, CanStep, front_marks, IsBegun, BeginsBody, gone}
use Rattle.cert_laws.proofs.Spelt.{have_append, text_both}
use Rattle.cert_openings.proofs.OwnLines.{TellNone, tell_both, front_tells, simplify_tells}
use Rattle.cert_openings.proofs.Lines.{front_of, text_of, opened}
use Rattle.cert_sharing.proofs.SpeltShares.{same_version}
use Rattle.cert_openings.proofs.Bare.{none_at_peak as no_opening}
use Rattle.cert_text.specs.OpenedText.{IsBad}
use Rattle.cert_openings.proofs.BadOpenings.{bad_openings_are_refused}
use Rattle.cert_words.specs.declared.reading.Reading.{Reading}
use Rattle.cert_reading.specs.declared.headings.Kind.{Kind}
use Rattle.cert_text.proofs.Runs.{refused_as, refused_as_told}
use Rattle.cert_text.proofs.Begun.{version_in, unopened, told_version, version_told}

-- ---- a part more

pub begun_on : {names : NameTable} {bytes : List ℕ} {v : Version} {shared : List Automaton} {given : Option Bool} {steps : Option (List Simplification)} {further : List Mark}
    {items to : List Item} {ns : List Mark} {s t : Reading} → IsBegun names bytes v shared given steps further items s → AreStill ns
    → ReadsWhere BeforeEntries names (length bytes) items (λ u. ns) to s t
    → IsBegun names bytes v shared given steps (further ++ ns) to t
begun_on {names} {v = v} {shared = shared} {given = given} {steps = steps} {further = further} {ns = ns} b still h = record {
  can_share = b.can_share;
  start = b.start;
  first = b.first;
  read = as_marks_where (λ none u. append_assoc (front_marks u (uses_with v names shared) shared given steps) further ns) (then_where b.read h);
  known = known_where v shared h [] (counts_still ns still) b.known;
  plain_shared = λ none. b.plain_shared (open_before_where h none);
  can_step = λ none. b.can_step (open_before_where h none);
}

-- behind the line of a kind that is known, as the code writes uses
pub line_of : {names : NameTable} {bytes : List ℕ} {v w : Version} {shared all : List Automaton} {steps : Option (List Simplification)} {kind : Kind} {s t : Reading} (k : Kind) → kind ≡ k
    → w ≡ v → all ≡ shared → (b : BeginsBody names bytes v shared steps kind s) → Reads names (length bytes) (between line ∷ []) (λ u. fixed (codes "\n") ∷ []) [] s t
    → IsBegun names bytes w all b.given steps (kind_mark b.given k ∷ fixed (codes "\n") ∷ []) (item_by w k ∷ []) t
line_of {v = v} {kind = kind} k e p q b h = rw (← e, p, q) (begun_on b.begun (tt, tt)
    (low_where (item_by v kind) (λ i m q w. low_unopened w (item_by v kind) (kind_item v w kind) i m q) h))

-- ---- the marks from the first one on

abbrev pub certificate_behind : Option (List Simplification) → Certificate → Certificate
certificate_behind None c = c
certificate_behind (Some steps) c = simplified_certificate steps c

front_read : (steps : Option (List Simplification)) (u : Naming) (w : Uses) (shared : List Automaton) (given : Option Bool) (o : Opening)
    → front_marks u w shared given steps ++ body_marks u w given (certificate_for o []) ≡ read_marks u w shared given (opening_behind steps o) []
front_read None u w shared given o = simp (append_assoc, append-nil)
front_read (Some ss) u w shared given o = simp append_assoc

front_whole : (steps : Option (List Simplification)) (u : Naming) (w : Uses) (shared : List Automaton) (given : Option Bool) (c : Certificate)
    → front_marks u w shared given steps ++ (body_marks u w given c ++ closing) ≡ certificate_marks u w shared given (certificate_behind steps c)
front_whole None u w shared given c = simp (append_assoc, append-nil)
front_whole (Some ss) u w shared given c = simp append_assoc

-- the lines before a body tell no kind
own_before : (v : Version) (names : NameTable) (shared : List Automaton) (steps : Option (List Simplification)) → CanStep v shared steps
    → TellNone (steps_marks (name_of names) (uses_with v names shared) steps)
own_before v names shared None h = λ ks. refl
own_before first_version names shared (Some ss) h = let e = h.0 in absurd cc
own_before second_version names shared (Some ss) h = simplify_tells ss (name_of names) (number_in names shared)

own_lines : (v : Version) (names : NameTable) (shared : List Automaton) (given : Option Bool) (steps : Option (List Simplification)) (further : List Mark) → CanStep v shared steps
    → HaveNames (front_marks (name_of names) (uses_with v names shared) shared given steps ++ further)
    → TellNone (front_marks (name_of names) (uses_with v names shared) shared given steps)
own_lines v names shared given steps further can named =
    let x = name_of names in
    let w = uses_with v names shared in
    let heading = heading_marks x w shared in
    let ms = steps_marks x w steps in
    let front = have_append (answer_marks given) (heading ++ ms) (have_append (answer_marks given ++ (heading ++ ms)) further named).0 in
    rw (← append_assoc) (tell_both (answer_marks given ++ heading) ms (front_tells given w shared x (have_append heading ms front.1).0) (own_before v names shared steps can))

module _ {names : NameTable} {bytes : List ℕ} {v : Version} {shared : List Automaton} {given : Option Bool} {steps : Option (List Simplification)} {further : List Mark}
    {items : List Item} {s : Reading} (b : IsBegun names bytes v shared given steps further items s) where
  -- further parts behind it
  pub read_behind : {P : Place} {f : Naming → List Mark} {to : List Item} {t : Reading} (o : Opening) → ((is : List Item) (q : List ℕ) → BeforeEntries is q → P is q)
      → ((u : Naming) → further ++ f u ≡ body_marks u (uses_with v names shared) given (certificate_for o [])) → ReadsWhere P names (length bytes) items f to s t
      → ReadsWhere P names (length bytes) (opening ∷ []) (λ u. read_marks u (uses_with v names shared) shared given (opening_behind steps o) []) to b.start t
  read_behind {f = f} o less same h = as_marks_where (λ none u. append_assoc (front_marks u (uses_with v names shared) shared given steps) further (f u)
      ∙ ap (λ (z : List Mark). front_marks u (uses_with v names shared) shared given steps ++ z) (same u) ∙ front_read steps u (uses_with v names shared) shared given o)
      (then_where (elsewhere less b.read) h)

  pub whole_behind : {f : Naming → List Mark} {to : List Item} {t : Reading} (c : Certificate)
      → ((u : Naming) → further ++ f u ≡ body_marks u (uses_with v names shared) given c ++ closing) → Reads names (length bytes) items f to s t
      → ReadsWhere Anywhere names (length bytes) (opening ∷ []) (λ u. certificate_marks u (uses_with v names shared) shared given (certificate_behind steps c)) to b.start t
  whole_behind {f = f} c same h = as_marks_where (λ none u. append_assoc (front_marks u (uses_with v names shared) shared given steps) further (f u)
      ∙ ap (λ (z : List Mark). front_marks u (uses_with v names shared) shared given steps ++ z) (same u) ∙ front_whole steps u (uses_with v names shared) shared given c)
      (then_where (anywhere b.read) (reads_anywhere h))

  pub run_of : {P : Place} {f : Naming → List Mark} {to : List Item} {t : Reading} → t.refused ≡ None → ReadsWhere P names (length bytes) (opening ∷ []) f to b.start t
      → Run names (length bytes) (opening ∷ []) f to bytes t.left.now nothing_shared t.shares
  run_of none h = rw (b.first.all_left, b.first.fresh) at (ran b.first.not_refused none h)

  pub stop_of : {P : Place} {f : Naming → List Mark} {to : List Item} {t : Reading} (e : CertError) → t.refused ≡ Some e
      → ReadsWhere P names (length bytes) (opening ∷ []) f to b.start t → IsStoppedWhere P names (length bytes) (opening ∷ []) bytes nothing_shared (told e)
  stop_of e q h = rw (b.first.all_left, b.first.fresh) at (stopped_where e b.first.not_refused q h)

  -- ---- where it is refused no opening is there

  version_there : s.refused ≡ None → (o : Opening) (end : ℕ) → (h : IsOpened names bytes o end) → version_in names bytes o end h.read ≡ v
  version_there none o end h =
      let x = name_of names in
      let w = uses_with v names shared in
      let text : bytes ≡ marks_text (answer_marks given ++ (heading_marks x w shared ++ (steps_marks x w steps ++ further))) ++ s.left.now =
      rw (append_assoc (answer_marks given), append_assoc (heading_marks x w shared)) at (walks_text names _ _ _ ((run_of none b.read).walks (omega arith) [])) in
      let a = gone names bytes o [] end h.read in
      sym (version_told a.uses x a.shared a.answer (body_marks x a.uses a.answer (certificate_for o [])) a.rest) ∙ ap told_version (sym a.text ∙ text)
      ∙ version_told w x shared given (steps_marks x w steps ++ further) s.left.now ∙ same_version v names shared

  -- before it, or behind it if none is there where it goes on
  pub bad : {P : Place} {f : Naming → List Mark} {to : List Item} {t : Reading} (e : CertError) → t.refused ≡ Some e → ReadsWhere P names (length bytes) items f to s t
      → (s.refused ≡ None → (x : CertificateCause × ℕ) → told e ≡ Some x → (o : Opening) (end : ℕ) → IsOpened names bytes o end → ⊥) → IsBad names bytes e
  bad {t = t} e q h none = (refused, λ cause at x end k. bad_openings_are_refused names bytes end cause at k (by s.refused refl (cause, at) x end) (refused_as_told names bytes e cause at refused x))
    where
      refused : IsRefusedAs names bytes e
      refused = refused_as Anywhere names bytes e refl (stop_of e q (then_where (anywhere b.read) (anywhere h)))

      by : (r : Option CertError) → s.refused ≡ r → (x : CertificateCause × ℕ) → told e ≡ Some x → (end : ℕ) (o : Opening) → IsOpened names bytes o end → ⊥
      by (Some d) r x k end o i =
          let stays : told e ≡ told d = rw (r, q) at h.on in
          unopened names bytes o end i (told d) x (sym stays ∙ k) (stop_of d r (elsewhere (λ is l p. p (version_in names bytes o end i.read)) b.read))
      by None r x k end o i = none r x k o end i

  pub entries_bad : {f : Naming → List Mark} {to : List Item} {t : Reading} (e : CertError) → t.refused ≡ Some e → ReadsWhere (WithinOpening v) names (length bytes) items f to s t
      → IsBad names bytes e
  entries_bad e q h = bad e q h (λ r x k o end i. unopened names bytes o end i (told e) x k (rw (version_there r o end i) (stop_of e q (then_where (elsewhere (λ is k p. p v) b.read) h))))

-- behind the line of a peak there is no end of an opening
pub no_end : {names : NameTable} {bytes : List ℕ} {v : Version} {shared : List Automaton} {given : Option Bool} {steps : Option (List Simplification)} {items : List Item} {s : Reading}
    → IsBegun names bytes v shared given steps (kind_mark given Peak ∷ fixed (codes "\n") ∷ []) items s → s.refused ≡ None → (end : ℕ) → IsOpeningEnd bytes end → ⊥
no_end {names} {bytes} {v} {shared} {given} {steps} {items} {s} b none end h =
    let w = (run_of b none b.read).walks (omega arith) [] in
    let front = front_marks (name_of names) (uses_with v names shared) shared given steps in
    let line = kind_mark given Peak ∷ fixed (codes "\n") ∷ [] in
    let text : bytes ≡ marks_text front ++ (codes "peak" ++ 10 ∷ s.left.now) = walks_text names (front ++ line) _ _ w ∙ ap (λ (z : List ℕ). z ++ s.left.now)
    (text_both front line) ∙ append_assoc (marks_text front) (codes "peak\n") s.left.now in
    let own = own_lines v names shared given steps line (b.can_step none) (walks_named names (front ++ line) _ _ w) in
    no_opening (front_of h) h.rest (opened h) front s.left.now own (sym text ∙ text_of h)
