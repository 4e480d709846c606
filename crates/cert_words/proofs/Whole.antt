-- A text that is read whole, or refused.
use Rattle.cert_words.proofs.Prelude.{◌≡◌, ◌-◌, ℕ, List, [], ◌∷◌, ◌++◌, length, drop, Option, None, refl, sym, ap, ◌∙◌, subst, arith, append_assoc, NameTable, CertificateCause, Mark}
use Rattle.cert_words.proofs.Prelude.{mark_text, marks_text, demands_of, verdict, Pass, IsCertificateRefused, Item, opening, Lead, leads, taken, Left, behind_lead}
use Rattle.cert_words.proofs.Prelude.{step_lead, step_items, Shared, nothing_shared, behind_mark, behind_marks, PassShares, first_sound, left_at, StepsOver, Walks, RefusesAt}
use Rattle.cert_laws.proofs.FirstRefusals.{move_text}
use Rattle.cert_laws.proofs.OneRefusal.{passed_anywhere}
use Rattle.cert_sharing.proofs.ExactShared.{At, IsSharedStepOf, shared_step_is}
use Rattle.cert_words.proofs.Walking.{goes_where, step_on, judged_on}

-- what the marks spell
step_text : (names : NameTable) (l k : Left) (m : Mark) → StepsOver names l m k → l.bytes ≡ mark_text m ++ k.bytes
step_text names l k m s =
    let there = first_sound (leads s.item) s.lead l.bytes s.first in
    move_text s.lead l.bytes there.1 ∙ ap (λ (n : Mark). mark_text n ++ drop (taken s.lead l.bytes) l.bytes) (sym s.mark) ∙ ap (λ (x : Left). mark_text m ++ x.bytes) (sym (goes_where names l k m s))

pub walks_text : (names : NameTable) (ms : List Mark) (l k : Left) → Walks names ms l k → l.bytes ≡ marks_text ms ++ k.bytes
walks_text names [] l k w = ap (λ (x : Left). x.bytes) w
walks_text names (m ∷ ms) l k w = step_text names l w.0 m w.1 ∙ ap (λ (b : List ℕ). mark_text m ++ b) (walks_text names ms w.0 k w.2) ∙ sym (append_assoc (mark_text m) (marks_text ms) k.bytes)

-- what they ask is met
step_passes : (names : NameTable) (l k : Left) (m : Mark) → StepsOver names l m k → verdict names 0 (demands_of m) ≡ None
step_passes names l k m s =
    passed_anywhere names l.at 0 (demands_of m) (ap (λ (n : Mark). verdict names l.at (demands_of n)) s.mark
    ∙ (judged_on _ (behind_lead l s.lead s.others) k (sym (ap (λ (x : Option Lead). step_lead names l x s.item s.others) s.first)
    ∙ sym (ap (λ (x : List Item). step_items names l x) s.items) ∙ s.goes)).0)

pub walks_pass : (names : NameTable) (ms : List Mark) (l k : Left) → Walks names ms l k → Pass names ms
walks_pass names [] l k w = tt
walks_pass names (m ∷ ms) l k w = (step_passes names l w.0 m w.1, walks_pass names ms w.0 k w.2)

-- where a reader begins
pub start_at : (names : NameTable) (bytes : List ℕ) → At names bytes (left_at (length bytes) (opening ∷ []) bytes) nothing_shared
start_at names bytes =
    let none : 0 ≡ length bytes - length bytes = omega arith in
    subst (λ (n : ℕ). At names bytes (record { at = n; items = opening ∷ []; bytes = bytes }) nothing_shared) none
    (record { reached = record { front = []; moves = (refl, refl); place = refl; passed = tt }; passed = tt; is = refl })

-- along marks that pass
pub walks_at : (names : NameTable) (bytes : List ℕ) (ms : List Mark) (l k : Left) (z : Shared) → At names bytes l z → Walks names ms l k → PassShares z ms → At names bytes k (behind_marks ms z)
walks_at names bytes [] l k z p w h = subst (λ (x : Left). At names bytes x z) w p
walks_at names bytes (m ∷ ms) l k z p w h =
    let on = subst (IsSharedStepOf names bytes l) (step_on names l w.0 m z w.1 h.0) (shared_step_is names bytes l.at l.items l.bytes z p) in
    walks_at names bytes ms w.0 k (behind_mark m z) on.0 w.2 h.1

-- a refusal where a reader has come
pub refused_at : (names : NameTable) (bytes : List ℕ) (l : Left) (z : Shared) (e : CertificateCause × ℕ) → At names bytes l z → RefusesAt names l z e → IsCertificateRefused names bytes e.0 e.1
refused_at names bytes l z e p r = subst (IsSharedStepOf names bytes l) r (shared_step_is names bytes l.at l.items l.bytes z p)
