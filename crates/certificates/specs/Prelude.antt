-- The names that other crates cite, passed on from one place. Declares nothing.
pub use Rattle.certificates.specs.Derivations.{Derivations, Derivation, no_steps, first_step, Step, by_rule, by_hypothesis, no_derivations, first_derivation, derivation_of}
pub use Rattle.certificates.specs.Derivations.{derivations_of}
pub use Rattle.certificates.specs.Evidence.{Transition, Automaton, InfeasibilityEvidence, by_caps, by_automaton, PairEvidence, trivial_pair, infeasible_pair, conflicting_pair}
pub use Rattle.certificates.specs.Evidence.{joined_pair, unfeasible_pair}
pub use Rattle.certificates.specs.Certificates.{PairEntry, LinearEntry, MeasureCertificate, linear_measure, precedence_measure, Redex, Apartness, by_normal_forms, by_rigid_caps}
pub use Rattle.certificates.specs.Certificates.{Peak, Simplification, dropped, inlined, Certificate, ortho_certificate, quasi_certificate, peak_certificate, simplified_certificate}
pub use Rattle.certificates.specs.Reasons.{StepReason, no_such_rule, no_such_hypothesis, no_redex, wrong_count, unbound, condition_fails, too_large, BadStep, Class, left_linear}
pub use Rattle.certificates.specs.Reasons.{type3, extended_oriented, right_stable, deterministic, Blame, MeasureReason, wrong_shape, wrong_coefficient, overflow_at}
pub use Rattle.certificates.specs.Reasons.{smaller_variable, smaller_constant, not_ordered, EvidenceReason, not_allowed, not_root, sides_differ, tcap_unifies, tcap_large}
pub use Rattle.certificates.specs.Reasons.{conflict_number, conflict_left, conflict_unifies, conflict_large, auto_number, auto_any, auto_misses, auto_wide, auto_not_closed}
pub use Rattle.certificates.specs.Reasons.{auto_wide_right, auto_reaches, join_left, join_right, join_differs, unfeasible_number, unfeasible_first, unfeasible_second}
pub use Rattle.certificates.specs.Reasons.{first_reducible, second_reducible, unfeasible_unifies, unfeasible_large, SimplificationReason, missing_rule, missing_condition}
pub use Rattle.certificates.specs.Reasons.{not_inline, inlined_large, bad_evidence, Rejection, class_fails, not_irreducible, measure_fails, unraveling_large, pair_large}
pub use Rattle.certificates.specs.Reasons.{too_many_pairs, pair_missing, pair_extra, evidence_fails, foreign, first_bad, second_bad, same_term, not_normal, redex_extra}
pub use Rattle.certificates.specs.Reasons.{redex_fails, caps_unify, caps_large, simplification_fails}
pub use Rattle.certificates.specs.Blames.{IsFirstVariable, IsFirstRepeated, IsFresh, IsOld, IsType3Blame, IsUnstable, IsRightStableBlame, IsUndetermined, IsDeterministicBlame}
pub use Rattle.certificates.specs.Blames.{IsInClass, IsRuleBlamed, IsBlamed}
pub use Rattle.certificates.specs.Judging.{hypothesis_at, derivation_count, RuleMatches, ConditionMet, ConditionFails, left_unbound, left_large, derivation_fails, right_differs}
pub use Rattle.certificates.specs.Judging.{no_rule, no_position, no_match, count_differs, conditions_fail, right_unbound, result_large, HypothesisStep, HypothesisFails}
pub use Rattle.certificates.specs.Judging.{no_hypothesis, left_differs, large_result, Derives, StepsTo, AreMet, FailsFrom, StepFails, FailFrom, IsFirstBad}
pub use Rattle.certificates.specs.Soundness.{AreConditionsOver, ReachesUnder}
pub use Rattle.certificates.specs.Sizes.{step_count, AreStepsShort, IsStepShort, AreShort, IsShort, DoConditionsFit}
