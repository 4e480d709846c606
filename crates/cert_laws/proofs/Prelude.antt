-- The names that the lemmas cite, passed on from one place. Declares nothing.
pub use Rattle.std.proofs.Common.{◌≡◌, ◌⊎◌, inl, inr, ℕ, ◌==◌, true, false, not, List, [], ◌∷◌, ◌++◌, refl, sym, ap, ◌∙◌, subst, eqb-true, take, Option, Some, None, append_assoc, suc, ◌+◌, ◌≤◌, ◌<◌}
pub use Rattle.std.proofs.Common.{Bool, length, codes, arith, zero, drop, max, length-append, nat_le, nat_lt, decimal, eq-eqb, ◌-◌, cond, ◌&&◌, ◌*◌, if◌then◌else◌, length-drop}
pub use Rattle.std.specs.Prelude.{is_some, unwrap_or, option_and_then}
pub use Rattle.std.proofs.Math.Seq.{take-append_seam, drop-append_seam, take-append-add}
pub use Rattle.std.proofs.lemmas.Bool.{not-true, and_parts, cases_lt, lt-ltb, le-leb, and_from, ltb-true, leb-true}
pub use Rattle.std.proofs.lemmas.List.{append-nil, append_cancel_left, take-append-drop, length-take-le, take-take}
pub use Rattle.rewriting.specs.Prelude.{Term, Fits, var, app, Terms, nil, cons, size, Position, Head, file, auxiliary, count, size_all}
pub use Rattle.file_text.specs.Bytes.{is_id}
pub use Rattle.certificates.specs.Prelude.{Automaton, InfeasibilityEvidence, by_caps, by_automaton, PairEvidence, trivial_pair, infeasible_pair, conflicting_pair, joined_pair, unfeasible_pair, Step}
pub use Rattle.certificates.specs.Prelude.{PairEntry, LinearEntry, MeasureCertificate, linear_measure, precedence_measure, Redex, Apartness, by_normal_forms, by_rigid_caps, Simplification, dropped}
pub use Rattle.certificates.specs.Prelude.{inlined, Certificate, ortho_certificate, quasi_certificate, peak_certificate, simplified_certificate, Derivation, no_steps, first_step, by_rule, Peak}
pub use Rattle.certificates.specs.Prelude.{by_hypothesis, Derivations, no_derivations, first_derivation, derivation_count, step_count, Transition}
pub use Rattle.cops_names.specs.NameTable.{NameTable, number_of, name_at, arity_at}
pub use Rattle.cert_grammar.specs.Prelude.{Mark, fixed, behind, closed, mark_text, marks_text, IsWhole, IsReached, GoesTo, Item, Demand, Lead, text, check, at_once, keyword, numeral_lead, name_lead}
pub use Rattle.cert_grammar.specs.Prelude.{position_lead, variable_lead, leads, mode_of, ends_here, ends_lead, mark_of, items_of, Skeleton, marks_of, skeleton_text, opening, CertificateCause, Scan}
pub use Rattle.cert_grammar.specs.Prelude.{demands_of, scan, first_there, Shared, behind_mark, behind_marks, largest, name_of, IsInfeasibility, IsEvidence, ArePairs, AreAtMost, IsMeasured, AreHeads}
pub use Rattle.cert_grammar.specs.Prelude.{AreEntries, IsMeasure, AreRedexEntries, IsApart, AreSimplifications, IsWithin, Version, first_version, second_version, Uses, HasMeasure, IsUnsimplified}
pub use Rattle.cert_grammar.specs.Prelude.{CanSimplify, IsOfVersion, used_by, used_by_evidence, used_by_pairs, used_by_redexes, used_by_apart, used_by_steps, automata_of, Naming, Counted, in_range}
pub use Rattle.cert_grammar.specs.Prelude.{is_few, fits_answer, is_answer, word, number, position, term_marks, derivation_marks, heads_marks, measure_marks, simplifications_marks, evidence_marks}
pub use Rattle.cert_grammar.specs.Prelude.{infeasibility_marks, pairs_marks, coefficients_marks, measured_marks, entries_marks, redexes_marks, apart_marks, body_marks, Pass, syntax, IsRefusedAtMark}
pub use Rattle.cert_grammar.specs.Prelude.{Begins, IsStuck, IsPlainlyRefused, longest, Left, nothing_shared, position_text, parts_text, ArePlaces, IsNamed, IsIdentifier, limit, is_symbol, has_arity}
pub use Rattle.cert_grammar.specs.Prelude.{is_shallow, meets, verdict, symbol, number_for, dotted, are_places, places_text, HaveNames, term_text, arguments_text, further_text, IsSpelt, AreSpelt}
pub use Rattle.cert_grammar.specs.Prelude.{steps_line, steps_text, step_text, derivations_text, derivation_text, AreSteps, IsStep, AreDerivations, IsDerivation, is_node, arguments_marks, steps_mark}
pub use Rattle.cert_grammar.specs.Prelude.{further_marks, steps_marks, step_marks, derivations_marks, refusal_of, refusal_place, in_full, by_number, Share, automaton_begins, is_use, is_light, state}
pub use Rattle.cert_grammar.specs.Prelude.{shares, automaton_marks, accepting_marks, further_states_marks, states_marks, head_marks, transitions_marks, peak_marks, AreStates, IsHead, AreTransitions}
pub use Rattle.cert_grammar.specs.Prelude.{IsAutomaton, use_marks, numbers_text, further_states_text, states_text, head_text, transitions_text, automaton_text, infeasibility_text, evidence_text}
pub use Rattle.cert_grammar.specs.Prelude.{pairs_text, measured_text, entries_text, heads_text, measure_text, redexes_text, apart_text, simplifications_text, body_text, automata_text, heading_text}
pub use Rattle.cert_grammar.specs.Prelude.{version_of, AreAutomata, automata_marks, heading_marks, Frame, space, line, heading, shared_line, shared_count, automata_left, automaton_end, simplified}
pub use Rattle.cert_grammar.specs.Prelude.{simplification_count, simplifications_left, body, between, any_number, any_position, pairs_from, entries_from, heads_from, redexes_from, last_line, target}
pub use Rattle.cert_grammar.specs.Prelude.{measure, head_name, measured_name, measured_condition, coefficients_behind, coefficient, evidence, infeasibility, shared_use, states_line, state_count}
pub use Rattle.cert_grammar.specs.Prelude.{accepting_line, accepting, accepted_state, transition_count, transitions_left, states_behind, argument_state, further_states, head_closed, nesting_count}
pub use Rattle.cert_grammar.specs.Prelude.{derivations_left, steps_left, condition_count, start_line, node, name_behind, term_behind, term_closed, next_argument, symbol_end, apart, with_next, steps}
pub use Rattle.cert_grammar.specs.Prelude.{numbers, states, transitions, shared_automata, simplifications, automaton_ends, all_used, closing, certificate_marks, number_begins, value, places, Mode}
pub use Rattle.cert_grammar.specs.Prelude.{between_text, is_short, transitions_of, behind_automata, use_mark, derivations, steps_of, simplifications_of, is_word, is_number, rule_mark, is_there}
pub use Rattle.cert_grammar.specs.Prelude.{taken, behind_lead, whole_text, answer_marks, Fails, IsPlainText, spelling, term_checks, next}
pub use Rattle.cert_grammar.specs.WordMarks.{numeral}
pub use Rattle.cert_grammar.specs.SharedText.{same_bytes}
pub use Rattle.cert_grammar.proofs.Names.{name_is, found_is_named}
pub use Rattle.cert_grammar.proofs.Runs.{numeral_is}
pub use Rattle.cert_grammar.proofs.ScanLaws.{IsWordOf, Goes, scanned, scan_least, goes_front, front_completed, completion, completed, spelling_whole, Stops, scan_exact, word_stops}
pub use Rattle.cert_grammar.proofs.ScanWords.{bar_is, number_is, place_is, number_word, numeral_value, place_word, places_of_text, bar_word, name_word}
pub use Rattle.cert_laws.specs.FoundNames.{tagged, AreFound, HasNoStates, AreWithoutStates}
pub use Rattle.cert_laws.specs.MarkLaws.{GoesAlong, Alike, ended, same, parted}
