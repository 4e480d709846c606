-- The names that the proofs of this crate cite, passed on from one place. Declares nothing.
pub use Rattle.std.proofs.Common.{◌≡◌, inl, inr, ℕ, zero, Bool, true, false, not, cond, ◌&&◌, List, [], ◌∷◌, ◌++◌, refl, sym, ap, ◌∙◌, subst, codes, append_assoc, append-nil, ◌+◌, length, Option}
pub use Rattle.std.proofs.Common.{◌⊎◌, ◌<◌, ◌≤◌, take, length-append, arith, suc, ◌-◌, slice_get, Some, decimal, ◌≢◌, ◌==◌, None, eq-eqb}
pub use Rattle.std.proofs.Common.{if◌then◌else◌, ◌||◌, bytes_eq, ne_eqb, Decides}
pub use Rattle.std.proofs.Math.Seq.{take-append_seam}
pub use Rattle.std.proofs.lemmas.Bool.{and_parts, cases_lt, not-true, cases_eq, cases_Bool}
pub use Rattle.std.proofs.lemmas.Bool.Decides.{Decides-or}
pub use Rattle.std.proofs.lemmas.Slice.Eq.{bytes_eq-Decides}
pub use Rattle.file_text.specs.Bytes.{is_id}
pub use Rattle.cert_laws.proofs.PassWhole.{steps_front, IsBare}
pub use Rattle.std.proofs.lemmas.List.{append_cancel_left}
pub use Rattle.cert_grammar.proofs.Runs.{All, numeral_id, name_id}
pub use Rattle.cert_grammar.specs.Prelude.{all_used, shares, same_bytes, Mark, fixed, word, mark_text, marks_text, closing, GoesTo, IsReached, Skeleton, marks_of, Item, opening, between, space, line}
pub use Rattle.cert_grammar.specs.Prelude.{automaton_end, any_number, any_position, measure, evidence, infeasibility, node, name_behind, term_behind, term_closed, Lead, text, keyword, numeral_lead}
pub use Rattle.cert_grammar.specs.Prelude.{position_lead, variable_lead, leads, first_version, mode_of, mark_of, items_of, number_begins, place_begins, bar_begins, Version, Uses, version_of}
pub use Rattle.cert_grammar.specs.Prelude.{IsOfVersion, Naming, automata_of, nothing_shared, PassShares, HaveNames, Pass, CertificateCause, Begins, IsCertificateRefused, demands_of, behind_marks}
pub use Rattle.cert_grammar.specs.Prelude.{name_of, largest, in_full, by_number, IsUnsimplified, Counted, in_range, is_few, pairs_marks, entries_marks, heads_marks, measure_marks}
pub use Rattle.cert_grammar.specs.Prelude.{simplifications_marks, body_marks, answer_marks, heading_marks, certificate_marks, IsCertificateText, skeleton_text, position_text, second_version}
pub use Rattle.cert_grammar.specs.Prelude.{used_by_evidence, used_by_pairs, used_by_steps, is_among, texts_of, with_new, shared_by, unfolded_length, AllNew, AreAutomata, automaton_text}
pub use Rattle.cert_grammar.specs.Prelude.{evidence_text, pairs_text, ArePairs, measure_text, simplifications_text, heading_text, body_text, answer_line, certificate_text, IsWithin}
pub use Rattle.cert_grammar.specs.Prelude.{coefficients_marks, measured_marks, Share, automaton_ends, Demand, fits_answer, refusal_place, verdict, automaton_marks, peak_marks, automata_marks, Shared}
pub use Rattle.cert_grammar.specs.Prelude.{holds, share_cause, share_place, first_of, share_verdict, is_answer, evidence_marks, has_arity, behind, accepting_marks, further_states_marks, states_marks}
pub use Rattle.cert_grammar.specs.Prelude.{head_marks, transitions_marks, infeasibility_marks, IsStuck}
pub use Rattle.cert_grammar.specs.WordMarks.{numeral}
pub use Rattle.cert_laws.proofs.Inside.{here, verdict_inside, certificate_in}
pub use Rattle.cert_laws.proofs.OneAnswer.{begins_shorter, one_answer}
pub use Rattle.cert_laws.proofs.OneRefusal.{Judging, by_names, refused_never, passed_at, passed_anywhere}
pub use Rattle.cert_laws.proofs.Reached.{Moves, same_taken}
pub use Rattle.cert_laws.proofs.SkeletonPaths.{skeleton_path, parts_named, second_allows}
pub use Rattle.cert_laws.proofs.PassTerms.{Sound}
pub use Rattle.cert_laws.proofs.Spelt.{text_both, have_append, have_both, pass_both}
pub use Rattle.cert_openings.specs.Laws.{IsReadTo, IsWhole, IsTold, AreOne}
pub use Rattle.cert_openings.specs.Openings.{Opening, ortho_opening, quasi_opening, simplified_opening, certificate_for, IsRead, BeginsEntry, lines_text, IsOpeningEnd, IsOpened, AreOpeningLines}
pub use Rattle.cert_openings.specs.Openings.{IsKindLine, AreHeadingLines, IsPeak, uses_with, AreLeft, Takes, IsLine}
pub use Rattle.cert_sharing.proofs.OneShared.{by_shares, shares_anywhere}
pub use Rattle.cert_sharing.proofs.PassShares.{MeantFront, front_meant, nothing_known, is_shared, told_marks}
pub use Rattle.cert_sharing.proofs.SpeltShares.{front_marks, whole_marks, front_text, whole_text, none_left, numbered_with, same_version, spelt_front, pass_front}
pub use Rattle.cert_sharing.proofs.Whole.{verdict_before, certificate_is_met}
pub use Rattle.certificates.specs.Prelude.{Automaton, PairEntry, Certificate, ortho_certificate, quasi_certificate, peak_certificate, simplified_certificate, MeasureCertificate, linear_measure}
pub use Rattle.certificates.specs.Prelude.{precedence_measure, Simplification, Transition, InfeasibilityEvidence, by_caps, by_automaton, dropped, inlined}
pub use Rattle.cops_names.specs.NameTable.{NameTable}
pub use Rattle.general_lemmas.proofs.Lists.{three_parts}
pub use Rattle.rewriting.specs.Unraveling.{Head, file, auxiliary}
