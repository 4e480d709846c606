-- The reader that stops at the first refusal, shared automata judged, is exact.
use Rattle.cert_sharing.proofs.Prelude.{◌≡◌, inl, inr, ℕ, zero, suc, ◌+◌, ◌*◌, ◌<◌, true, List, [], ◌∷◌, length, Option, Some, None, refl, sym, ap, ◌∙◌, subst, arith, append-nil, NameTable}
use Rattle.cert_sharing.proofs.Prelude.{CertificateCause, syntax, Mark, demands_of, verdict, Shared, nothing_shared, share_verdict, behind_mark, behind_marks, PassShares, Pass, marks_of, marks_text}
use Rattle.cert_sharing.proofs.Prelude.{goes_on, IsPlainlyRefused, IsRefusedShared, IsCertificateRefused, Item, opening, Lead, leads, is_there, first_there, longest, mark_of, items_of, Left, refuses}
use Rattle.cert_sharing.proofs.Prelude.{behind_lead, judged, step_lead, step, Reading, accepted, refused, whole_text, SharedStep, ends, further, shared_judged, after_step, shared_step, shared_reading}
use Rattle.cert_sharing.proofs.Prelude.{read_shared, read_text, passed_anywhere, pass_both, skeleton_path, IsMetText, IsAnswer, There}
use Rattle.cert_laws.proofs.LeadTables.{In}
use Rattle.cert_laws.proofs.Paths.{first_sound, Takes}
use Rattle.cert_laws.proofs.Reached.{moves_path, moves_text, same_taken, there_first, no_refusal, StopsFor}
use Rattle.cert_laws.proofs.FirstRefusals.{skeleton_of, read_of, Reached, reached_start, next_reached, lead_move, is_judged, goes_there}
use Rattle.cert_laws.proofs.StuckReaders.{refused_where_stuck, refused_behind_end}
use Rattle.cert_laws.proofs.ExactReader.{weight, lighter}
use Rattle.cert_sharing.proofs.OneShared.{by_shares, shares_anywhere}
use Rattle.cert_sharing.proofs.UseMarks.{behind_both, pass_join}
use Rattle.cert_sharing.proofs.Exact.{met_never, one_certificate_refusal}

-- a reader that does not go on stops
pub stops : (names : NameTable) (at : ℕ) (items : List Item) (left : List ℕ) → ((l : Left) → step names (record { at = at; items = items; bytes = left }) ≡ goes_on l → ⊥)
    → StopsFor (λ m. verdict names 0 (demands_of m) ≡ None) items left
stops names at [] left f = tt
stops names at (i ∷ items) left f = λ m new h t v. by (first_there (leads i) left) refl m new h t v
  where
    l : Left
    l = record { at = at; items = i ∷ items; bytes = left }

    by : (o : Option Lead) → first_there (leads i) left ≡ o → (m : Mark) (new : List Item) (h : Takes i m new) → There h.lead h.word_of left → verdict names 0 (demands_of m) ≡ None → ⊥
    by None q m new h t v = let both : None ≡ Some h.lead = sym q ∙ there_first i m new left h t in absurd cc
    by (Some a) q m new h t v =
        let there = first_sound (leads i) a left q in
        let move = lead_move i a left there.0 there.1 in
        let same = same_taken i m (mark_of a (read_of a left)) new (items_of a (read_of a left)) left h move.takes t move.there in
        let passes : verdict names at (demands_of (mark_of a (read_of a left))) ≡ None = passed_anywhere names 0 at (demands_of (mark_of a (read_of a left)))
        (subst (λ (x : Mark). verdict names 0 (demands_of x) ≡ None) same.marks v) in
        f (behind_lead l a items) (ap (λ (o : Option Lead). step_lead names l o i items) q ∙ ap (λ (o : Option (CertificateCause × ℕ)). judged o (behind_lead l a items)) passes)

-- where the reader is, with what it knows of shared automata
pub record At (names : NameTable) (bytes : List ℕ) (l : Left) (s : Shared) : Type 0 where
  pub reached : Reached names bytes l
  pub passed : PassShares nothing_shared reached.front
  pub is : s ≡ behind_marks reached.front nothing_shared

abbrev pub IsSharedStepOf : NameTable → List ℕ → Left → SharedStep → Type 0
IsSharedStepOf names bytes l (ends r) = IsAnswer names bytes r
IsSharedStepOf names bytes l (further m s) = At names bytes m s × (weight m < weight l)

-- where the reader stops, with all demands before it met, no demand on shared automata is judged: its refusal is the text's
plain : (names : NameTable) (bytes : List ℕ) (l : Left) (s : Shared) (e : CertificateCause) (at : ℕ) → At names bytes l s → step names l ≡ refuses e at
    → IsPlainlyRefused names bytes e at → IsCertificateRefused names bytes e at
plain names bytes l s e at p q h = inr (
  h,
  λ f place (t, k).
      no_refusal by_shares (λ m. verdict names 0 (demands_of m) ≡ None) (Pass names) (λ m ms v. v) p.reached.front nothing_shared (opening ∷ []) l.items bytes l.bytes (marks_of t)
      k.front k.mark (f, place) (length (marks_text k.front)) p.reached.moves p.passed
      (stops names l.at l.items l.bytes (λ m g. let both : goes_on m ≡ refuses e at = sym g ∙ q in absurd cc)) (skeleton_path t) k.goes k.passed k.refused,
)

-- where it accepts, the text is one in which all is met
met : (names : NameTable) (bytes : List ℕ) (at : ℕ) (s : Shared) → At names bytes (record { at = at; items = []; bytes = [] }) s → IsMetText names bytes
met names bytes at s p =
    let front = p.reached.front in
    let t = skeleton_of front (moves_path front (opening ∷ []) [] bytes [] p.reached.moves) in (
      t.0,
      ap marks_text t.1 ∙ sym (append-nil (marks_text front)) ∙ sym (moves_text front (opening ∷ []) [] bytes [] p.reached.moves),
      subst (Pass names) (sym t.1) p.reached.passed,
      subst (PassShares nothing_shared) (sym t.1) p.passed,
    )

module _ (names : NameTable) (bytes : List ℕ) (at : ℕ) (i : Item) (items : List Item) (left : List ℕ) where
  abbrev l : Left
  l = record { at = at; items = i ∷ items; bytes = left }

  -- the reader's step over a lead that is there
  module _ (a : Lead) (n : In a (leads i)) (e : is_there a left ≡ true) (s : Shared) (p : At names bytes l s) where
    abbrev m : Mark
    m = mark_of a (read_of a left)

    abbrev next : Left
    next = behind_lead l a items

    abbrev front : List Mark
    front = p.reached.front

    on : verdict names 0 (demands_of m) ≡ None → share_verdict s 0 (demands_of m) ≡ None → At names bytes next (behind_mark m s)
    on v w = record {
      reached = next_reached names bytes at i items left a p.reached n e v;
      passed = pass_join front (m ∷ []) nothing_shared p.passed (subst (λ (x : Shared). share_verdict x 0 (demands_of m) ≡ None) p.is w, tt);
      is = ap (behind_mark m) p.is ∙ sym (behind_both front (m ∷ []) nothing_shared);
    }

    -- a demand on shared automata that is not met
    is_shared : (x : CertificateCause × ℕ) → verdict names 0 (demands_of m) ≡ None → share_verdict s at (demands_of m) ≡ Some x → IsRefusedShared names bytes x.0 x.1
    is_shared x v w = let t = goes_there names bytes at i items left a p.reached n e in (
      t.0,
      record {
        front = front;
        mark = m;
        goes = t.1;
        passed = pass_both names front (m ∷ []) p.reached.passed (v, tt);
        shared = p.passed;
        refused = subst (λ (k : ℕ). share_verdict (behind_marks front nothing_shared) k (demands_of m) ≡ Some x) p.reached.place
            (subst (λ (y : Shared). share_verdict y at (demands_of m) ≡ Some x) p.is w);
      },
    )

    lead_step : first_there (leads i) left ≡ Some a → IsSharedStepOf names bytes l (after_step l s (Some a) (step_lead names l (Some a) i items))
    lead_step f = by (verdict names at (demands_of m)) refl
      where
        shared : (o : Option (CertificateCause × ℕ)) → share_verdict s at (demands_of m) ≡ o → verdict names 0 (demands_of m) ≡ None
            → IsSharedStepOf names bytes l (shared_judged o next (behind_mark m s))
        shared None w v = (on v (shares_anywhere s at 0 (demands_of m) w), lighter at i items left a n e)
        shared (Some x) w v = inl (is_shared x v w)

        by : (o : Option (CertificateCause × ℕ)) → verdict names at (demands_of m) ≡ o → IsSharedStepOf names bytes l (after_step l s (Some a) (judged o next))
        by None v = shared (share_verdict s at (demands_of m)) refl (passed_anywhere names at 0 (demands_of m) v)
        by (Some x) v = plain names bytes l s x.0 x.1 p
            (ap (λ (o : Option Lead). step_lead names l o i items) f ∙ ap (λ (o : Option (CertificateCause × ℕ)). judged o next) v)
            (inl (is_judged names bytes at i items left a x p.reached n e v))

  further_step : (s : Shared) → At names bytes l s → IsSharedStepOf names bytes l (shared_step names l s)
  further_step s p = by (first_there (leads i) left) refl
    where
      by : (o : Option Lead) → first_there (leads i) left ≡ o → IsSharedStepOf names bytes l (after_step l s o (step_lead names l o i items))
      by None f = plain names bytes l s syntax (at + longest (leads i) left) p (ap (λ (o : Option Lead). step_lead names l o i items) f) (refused_where_stuck names bytes at i items left p.reached f)
      by (Some a) f = let there = first_sound (leads i) a left f in lead_step a there.0 there.1 s p f

pub shared_step_is : (names : NameTable) (bytes : List ℕ) (at : ℕ) (items : List Item) (left : List ℕ) (s : Shared)
    → At names bytes (record { at = at; items = items; bytes = left }) s
    → IsSharedStepOf names bytes (record { at = at; items = items; bytes = left }) (shared_step names (record { at = at; items = items; bytes = left }) s)
shared_step_is names bytes at [] [] s p = met names bytes at s p
shared_step_is names bytes at [] (b ∷ left) s p = plain names bytes (record { at = at; items = []; bytes = b ∷ left }) s syntax at p refl (refused_behind_end names bytes at b left p.reached)
shared_step_is names bytes at (i ∷ items) left s p = further_step names bytes at i items left s p

read_is : (k : ℕ) (names : NameTable) (bytes : List ℕ) (l : Left) (s : Shared) → weight l < k → At names bytes l s → IsAnswer names bytes (read_shared k names l s)
read_is zero names bytes l s h p = absurd (omega (arith, h))
read_is (suc k) names bytes l s h p = by (shared_step names l s) (shared_step_is names bytes l.at l.items l.bytes s p) (λ m t g q. read_is k names bytes m t g q)
  where
    by : (x : SharedStep) → IsSharedStepOf names bytes l x → ((m : Left) (t : Shared) → weight m < k → At names bytes m t → IsAnswer names bytes (read_shared k names m t))
        → IsAnswer names bytes (shared_reading (read_shared k names) x)
    by (ends r) g each = g
    by (further m t) g each = let less = g.1 in each m t (omega (arith, h, less)) g.0

pub read_text_is : (names : NameTable) (bytes : List ℕ) → IsAnswer names bytes (read_text names bytes)
read_text_is names bytes = read_is (2 * length bytes + 2) names bytes (whole_text bytes) nothing_shared (omega arith) (record { reached = reached_start names bytes; passed = tt; is = refl })

-- and it finds each answer
pub answers_are_read : (names : NameTable) (bytes : List ℕ) (r : Reading) → IsAnswer names bytes r → read_text names bytes ≡ r
answers_are_read names bytes r h = by (read_text names bytes) r (read_text_is names bytes) h
  where
    by : (x y : Reading) → IsAnswer names bytes x → IsAnswer names bytes y → x ≡ y
    by accepted accepted h k = refl
    by accepted (refused e at) h k = absurd (met_never names bytes e at h k)
    by (refused e at) accepted h k = absurd (met_never names bytes e at k h)
    by (refused e at) (refused f place) h k =
        let same = one_certificate_refusal names bytes e f at place h k in
        ap (λ (c : CertificateCause). refused c at) same.0 ∙ ap (λ (n : ℕ). refused f n) same.1
