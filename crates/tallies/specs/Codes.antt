-- Codes, by which a program's type may have tallies and runs as its value.
use Rattle.std.specs.Prelude.{ℕ, ◌≡◌, ◌⊎◌, List, [], ◌∷◌, Bool, true, false, Option, get_or, refl}
use mathlib.Core.Logic.{inl, inr}
use Rattle.std.specs.Coded.{Coded, code_by, coded×, coded⊎, coded_ℕ, coded_bool, coded_list, coded_option}
use Rattle.rewriting.specs.Prelude.{coded_system, System}
use Rattle.certificates.specs.Reasons.{StepReason, no_such_rule, no_such_hypothesis, no_redex, wrong_count, unbound, condition_fails, too_large, BadStep, Class, left_linear, type3}
use Rattle.certificates.specs.Reasons.{extended_oriented, right_stable, deterministic, Blame, MeasureReason, wrong_shape, wrong_coefficient, overflow_at, smaller_variable}
use Rattle.certificates.specs.Reasons.{smaller_constant, not_ordered, EvidenceReason, not_allowed, not_root, sides_differ, tcap_unifies, tcap_large, conflict_number, conflict_left}
use Rattle.certificates.specs.Reasons.{conflict_unifies, conflict_large, auto_number, auto_any, auto_misses, auto_wide, auto_not_closed, auto_wide_right, auto_reaches, join_left}
use Rattle.certificates.specs.Reasons.{join_right, join_differs, unfeasible_number, unfeasible_first, unfeasible_second, first_reducible, second_reducible, unfeasible_unifies}
use Rattle.certificates.specs.Reasons.{unfeasible_large, SimplificationReason, missing_rule, missing_condition, not_inline, inlined_large, bad_evidence, Rejection, class_fails}
use Rattle.certificates.specs.Reasons.{not_irreducible, measure_fails, unraveling_large, pair_large, too_many_pairs, pair_missing, pair_extra, evidence_fails, foreign, first_bad}
use Rattle.certificates.specs.Reasons.{second_bad, same_term, not_normal, redex_extra, redex_fails, caps_unify, caps_large, simplification_fails}
use Rattle.valid_certificates.specs.Kinds.{Kind, ortho, quasi}
use Rattle.tallies.specs.Tally.{Tally, passed, failed}
use Rattle.tallies.specs.Runs.{PairRun, OrthoRun, QuasiRun}

-- a kind, as whether it is that of almost orthogonal systems
abbrev is_ortho : Kind → Bool
is_ortho ortho = true
is_ortho quasi = false

abbrev kind_of : Bool → Kind
kind_of true = ortho
kind_of false = quasi

pub kind_back : (kind : Kind) → kind_of (is_ortho kind) ≡ kind
kind_back ortho = refl
kind_back quasi = refl

abbrev pub coded_kind : Coded Kind
coded_kind = code_by Bool coded_bool is_ortho kind_of kind_back

-- a reason why a step is bad, as its place among all
abbrev step_number : StepReason → ℕ
step_number no_such_rule = 0
step_number no_such_hypothesis = 1
step_number no_redex = 2
step_number wrong_count = 3
step_number unbound = 4
step_number condition_fails = 5
step_number too_large = 6

abbrev step_reason_of : ℕ → StepReason
step_reason_of n = get_or (no_such_rule ∷ no_such_hypothesis ∷ no_redex ∷ wrong_count ∷ unbound ∷ condition_fails ∷ []) n too_large

pub step_reason_back : (r : StepReason) → step_reason_of (step_number r) ≡ r
step_reason_back no_such_rule = refl
step_reason_back _ = refl

abbrev coded_step_reason : Coded StepReason
coded_step_reason = code_by ℕ coded_ℕ step_number step_reason_of step_reason_back

abbrev coded_bad_step : Coded BadStep
coded_bad_step = code_by (List ℕ × StepReason) (coded× (coded_list coded_ℕ) coded_step_reason) (λ b. (b.path, b.reason)) (λ p. record { path = p.0; reason = p.1 }) (λ _. refl)

-- a class, as its place among all
abbrev class_number : Class → ℕ
class_number left_linear = 0
class_number type3 = 1
class_number extended_oriented = 2
class_number right_stable = 3
class_number deterministic = 4

abbrev class_of : ℕ → Class
class_of n = get_or (left_linear ∷ type3 ∷ extended_oriented ∷ right_stable ∷ []) n deterministic

pub class_back : (c : Class) → class_of (class_number c) ≡ c
class_back left_linear = refl
class_back _ = refl

abbrev coded_class : Coded Class
coded_class = code_by ℕ coded_ℕ class_number class_of class_back

abbrev coded_blame : Coded Blame
coded_blame =
    code_by (Class × (ℕ × (ℕ × Option ℕ))) (coded× coded_class (coded× coded_ℕ (coded× coded_ℕ (coded_option coded_ℕ)))) (λ b. (b.class, (b.rule, (b.condition, b.variable))))
    (λ p. record { class = p.0; rule = p.1.0; condition = p.1.1.0; variable = p.1.1.1 }) (λ _. refl)

-- why a measure is not good, as its place among all with the numbers that it tells
abbrev measure_numbers : MeasureReason → ℕ × (ℕ × ℕ)
measure_numbers (wrong_shape i) = (0, (i, 0))
measure_numbers (wrong_coefficient i) = (1, (i, 0))
measure_numbers (overflow_at i) = (2, (i, 0))
measure_numbers (smaller_variable i x) = (3, (i, x))
measure_numbers (smaller_constant i) = (4, (i, 0))
measure_numbers (not_ordered i) = (5, (i, 0))

abbrev measure_reason_of : ℕ × (ℕ × ℕ) → MeasureReason
measure_reason_of (n, (i, x)) = get_or (wrong_shape i ∷ wrong_coefficient i ∷ overflow_at i ∷ smaller_variable i x ∷ smaller_constant i ∷ []) n (not_ordered i)

pub measure_reason_back : (r : MeasureReason) → measure_reason_of (measure_numbers r) ≡ r
measure_reason_back (wrong_shape i) = refl
measure_reason_back _ = refl

abbrev coded_measure_reason : Coded MeasureReason
coded_measure_reason = code_by (ℕ × (ℕ × ℕ)) (coded× coded_ℕ (coded× coded_ℕ coded_ℕ)) measure_numbers measure_reason_of measure_reason_back

-- why evidence fails: a place among those that tell nothing more; the numbers of a rule and of states; or, with a bad step, a
-- place among those that tell one
abbrev EvidenceParts : Type 0
EvidenceParts = ℕ ⊎ (ℕ ⊎ ((ℕ × (List ℕ × ℕ)) ⊎ (ℕ × BadStep)))

abbrev evidence_parts : EvidenceReason → EvidenceParts
evidence_parts not_allowed = inl 0
evidence_parts not_root = inl 1
evidence_parts sides_differ = inl 2
evidence_parts tcap_unifies = inl 3
evidence_parts tcap_large = inl 4
evidence_parts conflict_number = inl 5
evidence_parts conflict_left = inl 6
evidence_parts conflict_unifies = inl 7
evidence_parts conflict_large = inl 8
evidence_parts auto_number = inl 9
evidence_parts auto_any = inl 10
evidence_parts auto_misses = inl 11
evidence_parts (auto_wide i) = inr (inl i)
evidence_parts (auto_not_closed i ks k) = inr (inr (inl (i, (ks, k))))
evidence_parts auto_wide_right = inl 12
evidence_parts auto_reaches = inl 13
evidence_parts (join_left bad) = inr (inr (inr (0, bad)))
evidence_parts (join_right bad) = inr (inr (inr (1, bad)))
evidence_parts join_differs = inl 14
evidence_parts unfeasible_number = inl 15
evidence_parts (unfeasible_first bad) = inr (inr (inr (2, bad)))
evidence_parts (unfeasible_second bad) = inr (inr (inr (3, bad)))
evidence_parts first_reducible = inl 16
evidence_parts second_reducible = inl 17
evidence_parts unfeasible_unifies = inl 18
evidence_parts unfeasible_large = inl 19

abbrev evidence_reason_of : EvidenceParts → EvidenceReason
evidence_reason_of (inl n) =
    get_or
    (not_allowed ∷ not_root ∷ sides_differ ∷ tcap_unifies ∷ tcap_large ∷ conflict_number ∷ conflict_left ∷ conflict_unifies ∷ conflict_large ∷ auto_number ∷ auto_any ∷ auto_misses
    ∷ auto_wide_right ∷ auto_reaches ∷ join_differs ∷ unfeasible_number ∷ first_reducible ∷ second_reducible ∷ unfeasible_unifies ∷ [])
    n unfeasible_large
evidence_reason_of (inr (inl i)) = auto_wide i
evidence_reason_of (inr (inr (inl (i, (ks, k))))) = auto_not_closed i ks k
evidence_reason_of (inr (inr (inr (n, bad)))) = get_or (join_left bad ∷ join_right bad ∷ unfeasible_first bad ∷ []) n (unfeasible_second bad)

pub evidence_reason_back : (r : EvidenceReason) → evidence_reason_of (evidence_parts r) ≡ r
evidence_reason_back not_allowed = refl
evidence_reason_back _ = refl

abbrev coded_evidence_reason : Coded EvidenceReason
coded_evidence_reason =
    code_by EvidenceParts (coded⊎ coded_ℕ (coded⊎ coded_ℕ (coded⊎ (coded× coded_ℕ (coded× (coded_list coded_ℕ) coded_ℕ)) (coded× coded_ℕ coded_bad_step)))) evidence_parts
    evidence_reason_of evidence_reason_back

-- why a step that simplifies is not good: a place among those that tell nothing more, or a reason of evidence
abbrev simplification_parts : SimplificationReason → ℕ ⊎ EvidenceReason
simplification_parts missing_rule = inl 0
simplification_parts missing_condition = inl 1
simplification_parts not_inline = inl 2
simplification_parts inlined_large = inl 3
simplification_parts (bad_evidence why) = inr why

abbrev simplification_reason_of : ℕ ⊎ EvidenceReason → SimplificationReason
simplification_reason_of (inl n) = get_or (missing_rule ∷ missing_condition ∷ not_inline ∷ []) n inlined_large
simplification_reason_of (inr why) = bad_evidence why

pub simplification_reason_back : (r : SimplificationReason) → simplification_reason_of (simplification_parts r) ≡ r
simplification_reason_back missing_rule = refl
simplification_reason_back _ = refl

abbrev coded_simplification_reason : Coded SimplificationReason
coded_simplification_reason = code_by (ℕ ⊎ EvidenceReason) (coded⊎ coded_ℕ coded_evidence_reason) simplification_parts simplification_reason_of simplification_reason_back

-- why a certificate is rejected: a place among the reasons that tell only numbers, with these; a blame; a reason of a measure; a
-- bad step; an entry's number with a reason of evidence; or a step's with one of its own
abbrev RejectionParts : Type 0
RejectionParts = (ℕ × (ℕ × (List ℕ × ℕ))) ⊎ (Blame ⊎ (MeasureReason ⊎ ((ℕ × BadStep) ⊎ ((ℕ × (ℕ × EvidenceReason)) ⊎ (ℕ × SimplificationReason)))))

abbrev rejection_parts : Rejection → RejectionParts
rejection_parts (class_fails blame) = inr (inl blame)
rejection_parts (not_irreducible i k) = inl (0, (i, ([], k)))
rejection_parts (measure_fails why) = inr (inr (inl why))
rejection_parts (unraveling_large i) = inl (1, (i, ([], 0)))
rejection_parts (pair_large i p j) = inl (2, (i, (p, j)))
rejection_parts too_many_pairs = inl (3, (0, ([], 0)))
rejection_parts (pair_missing i p j) = inl (4, (i, (p, j)))
rejection_parts (pair_extra n) = inl (5, (n, ([], 0)))
rejection_parts (evidence_fails n why) = inr (inr (inr (inr (inl (0, (n, why))))))
rejection_parts (foreign which) = inl (10, (which, ([], 0)))
rejection_parts (first_bad bad) = inr (inr (inr (inl (0, bad))))
rejection_parts (second_bad bad) = inr (inr (inr (inl (1, bad))))
rejection_parts same_term = inl (6, (0, ([], 0)))
rejection_parts (not_normal n p i) = inl (7, (n, (p, i)))
rejection_parts (redex_extra n) = inl (8, (n, ([], 0)))
rejection_parts (redex_fails n why) = inr (inr (inr (inr (inl (1, (n, why))))))
rejection_parts caps_unify = inl (9, (0, ([], 0)))
rejection_parts caps_large = inl (11, (0, ([], 0)))
rejection_parts (simplification_fails n why) = inr (inr (inr (inr (inr (n, why)))))

abbrev rejection_of : RejectionParts → Rejection
rejection_of (inl (n, (i, (p, j)))) =
    get_or
    (not_irreducible i j ∷ unraveling_large i ∷ pair_large i p j ∷ too_many_pairs ∷ pair_missing i p j ∷ pair_extra i ∷ same_term ∷ not_normal i p j ∷ redex_extra i ∷ caps_unify ∷ foreign i ∷ []) n
    caps_large
rejection_of (inr (inl blame)) = class_fails blame
rejection_of (inr (inr (inl why))) = measure_fails why
rejection_of (inr (inr (inr (inl (n, bad))))) = get_or (first_bad bad ∷ []) n (second_bad bad)
rejection_of (inr (inr (inr (inr (inl (n, (k, why))))))) = get_or (evidence_fails k why ∷ []) n (redex_fails k why)
rejection_of (inr (inr (inr (inr (inr (n, why)))))) = simplification_fails n why

pub rejection_back : (r : Rejection) → rejection_of (rejection_parts r) ≡ r
rejection_back (class_fails blame) = refl
rejection_back _ = refl

abbrev pub coded_rejection : Coded Rejection
coded_rejection =
    code_by RejectionParts
    (coded⊎ (coded× coded_ℕ (coded× coded_ℕ (coded× (coded_list coded_ℕ) coded_ℕ)))
    (coded⊎ coded_blame (coded⊎ coded_measure_reason
    (coded⊎ (coded× coded_ℕ coded_bad_step) (coded⊎ (coded× coded_ℕ (coded× coded_ℕ coded_evidence_reason)) (coded× coded_ℕ coded_simplification_reason))))))
    rejection_parts rejection_of rejection_back

-- a tally, as a number or a reason
abbrev tally_parts : Tally → ℕ ⊎ Rejection
tally_parts (passed n) = inl n
tally_parts (failed r) = inr r

abbrev tally_of : ℕ ⊎ Rejection → Tally
tally_of (inl n) = passed n
tally_of (inr r) = failed r

pub tally_back : (t : Tally) → tally_of (tally_parts t) ≡ t
tally_back (passed n) = refl
tally_back (failed r) = refl

abbrev pub coded_tally : Coded Tally
coded_tally = code_by (ℕ ⊎ Rejection) (coded⊎ coded_ℕ coded_rejection) tally_parts tally_of tally_back

abbrev pub coded_pair_run : Coded PairRun
coded_pair_run =
    code_by (Kind × (System × Tally)) (coded× coded_kind (coded× coded_system coded_tally)) (λ r. (r.kind, (r.system, r.tally))) (λ p. record { kind = p.0; system = p.1.0; tally = p.1.1 })
    (λ _. refl)

abbrev pub coded_ortho_run : Coded OrthoRun
coded_ortho_run = code_by (System × Tally) (coded× coded_system coded_tally) (λ r. (r.system, r.tally)) (λ p. record { system = p.0; tally = p.1 }) (λ _. refl)

-- where measures have a code
abbrev pub coded_quasi_run : {M : Type 0} → Coded M → Coded (QuasiRun M)
coded_quasi_run {M = M} measure =
    code_by (System × (M × Tally)) (coded× coded_system (coded× measure coded_tally)) (λ r. (r.system, (r.measure, r.tally))) (λ p. record { system = p.0; measure = p.1.0; tally = p.1.1 })
    (λ _. refl)
