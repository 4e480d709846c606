-- The names that other crates cite, passed on from one place. Declares nothing.
pub use Rattle.cert_grammar.specs.Words.{largest, IsIdentifier, IsNamed, IsSpelt, AreSpelt, name_of, term_text, arguments_text, further_text, each_behind, parts_text, position_text, ArePlaces}
pub use Rattle.cert_grammar.specs.Versions.{Version, first_version, second_version, Uses, in_full, by_number, version_of, HasMeasure, IsUnsimplified, CanSimplify, IsOfVersion, used_by}
pub use Rattle.cert_grammar.specs.Versions.{used_by_evidence, used_by_pairs, used_by_redexes, used_by_apart, used_by_steps, automata_of}
pub use Rattle.cert_grammar.specs.Sharing.{Shared, nothing_shared, text_at, holds, share_cause, share_place, share_judged, first_of, share_verdict, share_effect, effects, behind_mark}
pub use Rattle.cert_grammar.specs.Sharing.{behind_marks, PassShares}
pub use Rattle.cert_grammar.specs.Steps.{steps_line, rule_line, steps_text, step_text, derivations_text, derivation_text}
pub use Rattle.cert_grammar.specs.Limits.{AreSteps, IsStep, AreDerivations, IsDerivation}
pub use Rattle.cert_grammar.specs.EvidenceText.{IsName, numbers_text, further_states_text, states_text, head_text, transitions_text, automaton_text, infeasibility_text, evidence_text, pairs_text}
pub use Rattle.cert_grammar.specs.EvidenceText.{AreAtMost, AreStates, IsHead, AreTransitions, IsAutomaton, IsInfeasibility, IsEvidence, ArePairs}
pub use Rattle.cert_grammar.specs.SharedText.{same_bytes, is_among, texts_of, with_new, shared_by, place_among, number_in, uses_of, unfolded_length, AllNew, AreAutomata}
pub use Rattle.cert_grammar.specs.CertificateText.{measured_text, entries_text, heads_text, measure_text, redexes_text, apart_text, peak_text, simplifications_text, body_text, automata_text}
pub use Rattle.cert_grammar.specs.CertificateText.{heading_text, certificate_text, answer_line, IsMeasured, AreEntries, AreHeads, IsMeasure, AreRedexEntries, IsApart, AreSimplifications}
pub use Rattle.cert_grammar.specs.CertificateText.{IsWithin, IsShared, CanBeSpelt, IsVersionText, IsCertificateText}
pub use Rattle.cert_grammar.specs.Marks.{symbol, Naming, Counted, pairs, entries, numbers, steps, redexes, states, transitions, nodes, shared_automata, unfolded, simplifications, limit}
pub use Rattle.cert_grammar.specs.Marks.{counted_as, CertificateCause, syntax, unknown_name, wrong_arity, bad_number, bad_share, too_many, too_deep, Share, word, automaton_begins, automaton_ends}
pub use Rattle.cert_grammar.specs.Marks.{is_use, is_light, all_used, Demand, is_symbol, has_arity, behind, in_range, is_few, is_shallow, fits_answer, shares, is_number, is_answer, meets}
pub use Rattle.cert_grammar.specs.Marks.{refusal_of, refusal_place, verdict, Mark, fixed, closed, mark_text, marks_text, demands_of}
pub use Rattle.cert_grammar.specs.WordMarks.{number, number_for, dotted, position, are_places, places_text, is_node, term_marks, arguments_marks, further_marks, steps_mark, rule_mark}
pub use Rattle.cert_grammar.specs.WordMarks.{steps_marks, step_marks, derivations_marks, derivation_marks}
pub use Rattle.cert_grammar.specs.CertificateMarks.{state, accepting_marks, further_states_marks, states_marks, head_marks, transitions_marks, automaton_marks, use_mark, use_marks}
pub use Rattle.cert_grammar.specs.CertificateMarks.{infeasibility_marks, evidence_marks, pairs_marks, coefficients_marks, measured_marks, entries_marks, heads_marks, measure_marks, redexes_marks}
pub use Rattle.cert_grammar.specs.CertificateMarks.{apart_marks, peak_marks, simplifications_marks, body_marks, answer_marks, automata_marks, heading_marks, closing, certificate_marks}
pub use Rattle.cert_grammar.specs.Refusals.{HaveNames, Skeleton, marks_of, skeleton_text, IsWhole, IsReached, GoesTo, Pass, IsPlainText, Fails, IsRefusedAtMark, Begins, IsStuck, IsPlainlyRefused}
pub use Rattle.cert_grammar.specs.Refusals.{FailsShared, IsRefusedShared, IsCertificateRefused}
pub use Rattle.cert_grammar.specs.Scans.{Mode, spelling, bar_begins, number_begins, number_zero, number_more, place_begins, place_root, place_number, place_zero, place_more, name_begins}
pub use Rattle.cert_grammar.specs.Scans.{name_dash, name_equals, name_more, is_digit, next, is_word, Scan, scan_next, scan, value, value_from, numbers_from, places}
pub use Rattle.cert_grammar.specs.Items.{Frame, between, Between, space, line, Item, opening, heading, shared_line, shared_count, automata_left, automaton_end, body, simplified}
pub use Rattle.cert_grammar.specs.Items.{simplification_count, simplifications_left, any_number, any_position, text, pairs_from, entries_from, heads_from, redexes_from, last_line, measure}
pub use Rattle.cert_grammar.specs.Items.{head_name, measured_name, measured_condition, coefficients_behind, coefficient, evidence, infeasibility, shared_use, states_line, state_count}
pub use Rattle.cert_grammar.specs.Items.{accepting_line, accepting, accepted_state, transition_count, transitions_left, target, states_behind, argument_state, further_states, head_closed}
pub use Rattle.cert_grammar.specs.Items.{derivations_left, nesting_count, steps_left, condition_count, start_line, node, name_behind, term_behind, term_closed, next_argument, symbol_end, apart}
pub use Rattle.cert_grammar.specs.Items.{Lead, check, at_once, keyword, numeral_lead, position_lead, variable_lead, name_lead, between_text, is_short, derivations, steps_of, transitions_of}
pub use Rattle.cert_grammar.specs.Items.{simplifications_of, behind_automata, end_lead, pair_or_end, infeasibility_leads, body_leads, with_next, term_checks, leads}
pub use Rattle.cert_grammar.specs.FirstRefusal.{step, mode_of, ends_here, ends_lead, is_there, first_there, longest, taken, mark_of, items_of, Left, Step, accepts, refuses, goes_on, behind_lead}
pub use Rattle.cert_grammar.specs.FirstRefusal.{judged, step_lead, step_items, Reading, accepted, refused, whole_text}
pub use Rattle.cert_grammar.specs.SharedReader.{next_lead, SharedStep, ends, further, shared_judged, behind_lead_shared, after_step, shared_step, shared_reading, read_shared, read_text}
