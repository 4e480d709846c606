-- The names from below that lemmas and answers cite, passed on from one place. Declares nothing.
pub use Rattle.std.proofs.Common.{◌≡◌, ◌+◌, ℕ, suc, List, [], ◌∷◌, ◌++◌, length, map, codes, refl, sym, ap, ◌∙◌, arith, subst, append_assoc, ◌<◌, None, ◌≤◌, ◌-◌, inl, inr, ◌==◌, zero, Bool, true}
pub use Rattle.std.proofs.Common.{false, Option, Some, IfSome, eqb-true, ap₂, drop, take, max, is_some, slice_get, ◌*◌, if◌then◌else◌, nat_eq}
pub use Rattle.std.proofs.lemmas.List.{append-nil, length-map, length_push, drop_at}
pub use Rattle.cert_grammar.proofs.Views.{seen_push, first_pushed}
pub use Rattle.cert_grammar.specs.Prelude.{largest, Version, Uses, Naming, Mark, fixed, word, numbers, pairs, redexes, in_range, is_few, number, coefficients_marks, entries_marks, measured_marks}
pub use Rattle.cert_grammar.specs.Prelude.{heads_marks, simplifications_marks, infeasibility_marks, redexes_marks, Item, first_version, second_version, fits_answer, syntax, Lead, keyword}
pub use Rattle.cert_grammar.specs.Prelude.{pair_or_end, heading, shared_line, body, between, line, any_number, pairs_from, entries_from, heads_from, measured_name, measured_condition, head_name}
pub use Rattle.cert_grammar.specs.Prelude.{coefficients_behind, is_there, first_there, behind_automata, Shared, has_arity, symbol, behind, is_node, term_marks, arguments_marks, further_marks}
pub use Rattle.cert_grammar.specs.Prelude.{Frame, node, term_closed, with_next, name_of, shared_automata, marks_text, number_for, automata_marks, texts_of, AllNew, AreAutomata, behind_marks}
pub use Rattle.cert_grammar.specs.Prelude.{PassShares, state, version_of, IsOfVersion, used_by, used_by_evidence, used_by_pairs, used_by_redexes, used_by_steps, automata_of, number_in, shared_by}
pub use Rattle.cert_grammar.specs.Prelude.{certificate_marks, HaveNames, Pass, nothing_shared, opening, IsVersionText, IsCertificateText, name_lead, leads, mark_of, taken, Left, CertificateCause}
pub use Rattle.cert_grammar.specs.Prelude.{space, entries, longest, accepts, refuses, goes_on, step, after_step, shared_step, automaton_marks, steps_mark, steps_marks, step_marks}
pub use Rattle.cert_grammar.specs.Prelude.{derivations_marks, head_marks, accepting_marks, further_states_marks, states_marks, transitions_marks, derivations_left, text, evidence, infeasibility}
pub use Rattle.cert_grammar.specs.Prelude.{demands_of, use_mark, shared_use, automata_left, automaton_end, shared_count, apart, derivation_marks, closing, apart_marks, start_line, redexes_from}
pub use Rattle.cert_grammar.specs.Prelude.{coefficient, measure, too_many, rule_mark, derivations, steps_left, steps_of, is_number, states_behind, further_states, transitions_of, states}
pub use Rattle.cert_grammar.specs.Prelude.{transitions, by_number, simplification_count, simplifications_of, simplified, next_argument, symbol_end, name_behind, term_behind, simplifications_left}
pub use Rattle.cert_grammar.specs.WordMarks.{numeral}
pub use Rattle.cert_model.proofs.DerivationViews.{derivation_of_steps, step_of_rule, step_of_hypothesis}
pub use Rattle.cert_model.specs.CertificateView.{apart_view, redex_view, linear_entry_view, head_view, pair_entry_view, simp_view}
pub use Rattle.cert_model.specs.DerivationView.{derivation_view, step_view}
pub use Rattle.cert_model.specs.EvidenceView.{automaton_view, transition_view, inf_evidence_view}
pub use Rattle.cert_openings.proofs.Entries.{pick_stands}
pub use Rattle.cert_openings.specs.Openings.{BeginsEntry, Opening, certificate_for}
pub use Rattle.cert_reading.specs.Arguments.{argument_end, behind_argument}
pub use Rattle.cert_reading.specs.Headings.{item_by, first_marks, kind_mark}
pub use Rattle.cert_reading.specs.Lines.{line_marks}
pub use Rattle.cert_reading.specs.Measures.{SymbolAt}
pub use Rattle.cert_reading.specs.Plain.{EvidenceUses, PairsUse, RedexesUse, StepsUse, IsUsed, IsPlainBy, HasUsed, ApartUses}
pub use Rattle.cert_reading.specs.Shared.{shared_marks, ArePlainAutomata, sealed_marks, IsKnown}
pub use Rattle.cert_reading.specs.Stops.{Place, ReadsWhere, IsBehind, AreBehind, BeginsList, BeforeEntries, WithinOpening, StopsWhere, IsStoppedWhere, Anywhere, lowest, WithinEntry}
pub use Rattle.cert_reading.specs.Uses.{AreShared, use_between, use_item, version_by, automata_by, uses_by, AreKnown}
pub use Rattle.cert_reading.specs.declared.headings.Kind.{Kind}
pub use Rattle.cert_reading.specs.declared.headings.Kind.TheVariants.{Ortho, Quasi, Peak}
pub use Rattle.cert_shares.specs.SharesView.{with_begun}
pub use Rattle.cert_sharing.proofs.FirstUses.{pick, pick_number, texts_length}
pub use Rattle.cert_sharing.proofs.UseMarks.{AreStill, still_marks, pass_split, behind_both, marked_texts, automaton_behind, IsStill, places_still, Counts, counts_still, counts_both}
pub use Rattle.cert_sharing.proofs.UseMarks.{counts_put, counts_use, still_both, term_still, derivation_still, numbers_of, counts_redexes, counts_pairs, counts_steps, meets_automata}
pub use Rattle.cert_sharing.proofs.UseMarks.{measure_still}
pub use Rattle.cert_words.proofs.NodeReads.{suc_is, node_leads, refused_node, any_frame, frames, frames_deep}
pub use Rattle.cert_words.proofs.Stepping.{keyword_run, one_stop, some_now, none_now, one, two, stuck_among, counted_there, counted_out, go, stop, arity_met, text_run, three, front_of}
pub use Rattle.cert_words.proofs.Stepping.{Front}
pub use Rattle.cert_words.proofs.Walking.{then_reads, as_marks, then_nothing, as_reads, open_before, goes_as, already, walks_then, walks_shorter, stops_then, goes_then, goes_open}
pub use Rattle.cert_words.proofs.Walking.{not_both, run_then, framed_run, as_run, front_then, read_run, framed, front_same, went, stopped, reads_as, stuck_stops, stuck_where}
pub use Rattle.cert_words.proofs.Walking.{sealed_stops, other_stop, framed_where}
pub use Rattle.cert_words.proofs.Whole.{walks_pass, walks_text}
pub use Rattle.cert_words.specs.Choices.{Choice, Chosen, lead_of}
pub use Rattle.cert_words.specs.Walks.{Reads, Run, IsStuckAt, Walks, AreWithoutStates, left_at, RefusesAt, BeginsAnew, IsStuckBehind, IsStopped, HasNoStates, Above}
pub use Rattle.cert_words.specs.Words.{told}
pub use Rattle.cert_words.specs.declared.error.CertError.{CertError}
pub use Rattle.cert_words.specs.declared.reading.Reading.{Reading}
pub use Rattle.certificates.specs.Prelude.{PairEntry, Simplification, dropped, inlined, Automaton, Certificate, ortho_certificate, quasi_certificate, peak_certificate, simplified_certificate}
pub use Rattle.certificates.specs.Prelude.{derivation_of, derivations_of, derivation_count, step_count}
pub use Rattle.cops_names.specs.NameTable.{NameTable, arity_at}
pub use Rattle.rewriting.specs.Prelude.{Term, app, nil, terms_of, count, size, size_all}
pub use Rattle.term_core.proofs.Views.{view-Var, view-Fun}
pub use Rattle.term_core.specs.Prelude.{view, views}
