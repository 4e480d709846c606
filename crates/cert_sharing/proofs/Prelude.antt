-- The names that the lemmas cite, passed on from one place. Declares nothing.
pub use Rattle.std.proofs.Common.{append-nil, map, le-leb}
pub use Rattle.std.proofs.lemmas.List.{map-append, nil_from_length, length-map}
pub use Rattle.cert_grammar.specs.Prelude.{holds, share_cause, share_place, share_judged, first_of, share_verdict, PassShares, FailsShared, IsRefusedShared, IsCertificateText, IsCertificateRefused}
pub use Rattle.cert_grammar.specs.Prelude.{goes_on, refuses, judged, step_lead, step, Reading, accepted, refused, SharedStep, ends, further, shared_judged, after_step, shared_step, shared_reading}
pub use Rattle.cert_grammar.specs.Prelude.{read_shared, read_text, unfolded, bad_share, is_among, AllNew, text_at, effects, IsShared, certificate_text, answer_line, IsVersionText, shared_by}
pub use Rattle.cert_grammar.specs.Prelude.{texts_of, with_new, number_in, unfolded_length, place_among, uses_of, same_bytes}
pub use Rattle.cert_laws.proofs.AlikePaths.{alike_skeletons, same_marks, same_skeletons}
pub use Rattle.cert_laws.proofs.Moves.{There, tail_same}
pub use Rattle.cert_laws.proofs.OneAnswer.{Stops, one_stop, never}
pub use Rattle.cert_laws.proofs.OneRefusal.{Judging, passed_anywhere}
pub use Rattle.cert_laws.proofs.PassEvidence.{AllOf, AllBy, Solves, meant_automaton, all_of, target_marks}
pub use Rattle.cert_laws.proofs.PassWhole.{pair_front, redex_front, steps_front, IsBare, meant_body, told_is}
pub use Rattle.cert_laws.proofs.Prelude.{◌≡◌, inr, ℕ, Bool, true, false, cond, List, [], ◌∷◌, length, Option, Some, None, refl, ap, ◌∙◌, arith, NameTable, CertificateCause, Demand, shares, Mark}
pub use Rattle.cert_laws.proofs.Prelude.{marks_text, Shared, nothing_shared, ◌⊎◌, inl, ◌≤◌, ◌++◌, length-append, Share, automaton_begins, automaton_ends, is_use, is_light, all_used, mark_text}
pub use Rattle.cert_laws.proofs.Prelude.{demands_of, behind_marks, Skeleton, marks_of, skeleton_text, Pass, zero, suc, ◌+◌, ◌*◌, ◌<◌, sym, subst, syntax, verdict, behind_mark, IsPlainlyRefused, Item}
pub use Rattle.cert_laws.proofs.Prelude.{opening, Lead, leads, is_there, first_there, longest, mark_of, items_of, Left, behind_lead, whole_text, ◌-◌, max, not, codes, append_assoc, not-true, Term}
pub use Rattle.cert_laws.proofs.Prelude.{Position, Derivation, Automaton, InfeasibilityEvidence, by_caps, by_automaton, PairEvidence, trivial_pair, infeasible_pair, conflicting_pair, joined_pair}
pub use Rattle.cert_laws.proofs.Prelude.{unfeasible_pair, PairEntry, MeasureCertificate, Redex, Apartness, by_normal_forms, by_rigid_caps, Simplification, dropped, inlined, Certificate}
pub use Rattle.cert_laws.proofs.Prelude.{ortho_certificate, quasi_certificate, peak_certificate, simplified_certificate, Uses, in_full, by_number, used_by, used_by_evidence, used_by_pairs}
pub use Rattle.cert_laws.proofs.Prelude.{used_by_redexes, used_by_apart, used_by_steps, automata_of, largest, Naming, Counted, limit, in_range, is_few, fits_answer, fixed, word, closed, are_places}
pub use Rattle.cert_laws.proofs.Prelude.{number, number_for, term_marks, derivation_marks, use_mark, accepting_marks, transitions_marks, automaton_marks, automata_marks, infeasibility_marks}
pub use Rattle.cert_laws.proofs.Prelude.{evidence_marks, pairs_marks, measure_marks, redexes_marks, apart_marks, simplifications_marks, body_marks, ◌==◌, eqb-true, name_of, Version, first_version}
pub use Rattle.cert_laws.proofs.Prelude.{second_version, version_of, IsOfVersion, IsAutomaton, IsWithin, is_answer, closing, heading_marks, answer_marks, certificate_marks, AreAutomata, HaveNames}
pub use Rattle.cert_laws.proofs.Prelude.{eq-eqb, automaton_text, IsInfeasibility, IsEvidence, ArePairs, heading_text, body_text, AreRedexEntries, IsApart, AreSimplifications, cases_lt, and_from}
pub use Rattle.cert_laws.proofs.Prelude.{and_parts, Head, file, auxiliary, LinearEntry, linear_measure, precedence_measure, Peak, IsMeasured, AreEntries, AreHeads, IsMeasure, use_marks}
pub use Rattle.cert_laws.proofs.Prelude.{coefficients_marks, measured_marks, entries_marks, heads_marks, states_line, var, app, Terms, nil, cons, count, size, no_steps, first_step, Step, by_rule}
pub use Rattle.cert_laws.proofs.Prelude.{by_hypothesis, Derivations, no_derivations, first_derivation, derivation_count, step_count, Transition, name_at, number_of, IsSpelt, AreSpelt, IsHead}
pub use Rattle.cert_laws.proofs.Prelude.{AreTransitions, has_arity, behind, places_text, position, places, arguments_marks, further_marks, steps_marks, step_marks, derivations_marks}
pub use Rattle.cert_laws.proofs.Prelude.{further_states_marks, states_marks, head_marks}
pub use Rattle.cert_laws.proofs.SkeletonPaths.{skeleton_path, automaton_alone}
pub use Rattle.cert_laws.proofs.Spelt.{pass_both, have_append, text_both, Spells, put_bytes, put_two, same_text, automata_both}
pub use Rattle.cert_laws.proofs.SpeltWhole.{answer_of, spelt_automaton, AreShort, HasHeading, spelt_heading, spelt_body}
pub use Rattle.cert_sharing.specs.Fronts.{uses_with, AreLeft}
pub use Rattle.cert_sharing.specs.SharedLaws.{IsMetText, IsAnswer}
