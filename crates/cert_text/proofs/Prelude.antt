-- The names that the proofs of this crate cite, passed on from one place. Declares nothing.
pub use Rattle.std.proofs.Common.{◌≡◌, inl, inr, ◌≤◌, ◌==◌, ℕ, suc, List, [], ◌∷◌, ◌++◌, length, drop, take, Option, Some, None, IfSome, IfNone, refl, sym, ap, ◌∙◌, subst, arith, eqb-true, ◌⊎◌, ◌<◌}
pub use Rattle.std.proofs.Common.{◌&&◌, Bool, true, codes, false, cond, get_or, append_assoc, zero, not, map, Vec, Global, Box, rules, Result, Ok, Err, IfOk, ◌+◌, ◌-◌, length-append}
pub use Rattle.std.proofs.lemmas.Bool.{and_parts, cases_lt, false≢true}
pub use Rattle.std.proofs.lemmas.List.{length-map, length_push, append_cancel_left, append-nil, nil_from_length}
pub use Rattle.cert_grammar.proofs.Views.{seen_push}
pub use Rattle.cert_grammar.specs.Prelude.{IsCertificateText, name_of, Version, first_version, second_version, CanSimplify, pairs_marks, closing, CertificateCause, syntax, bad_share}
pub use Rattle.cert_grammar.specs.Prelude.{Naming, Mark, IsCertificateRefused, Item, pairs_from, entries_from, heads_from, Shared, nothing_shared, Demand, word, mark_text, demands_of}
pub use Rattle.cert_grammar.specs.Prelude.{verdict, Pass, between, line, Lead, text, check, at_once, keyword, leads, mode_of, first_there, taken, mark_of, items_of, Left, behind_lead}
pub use Rattle.cert_grammar.specs.Prelude.{judged, step_lead, share_verdict, behind_mark, behind_marks, PassShares, ends, further, Uses, in_full, by_number, version_of, marks_text}
pub use Rattle.cert_grammar.specs.Prelude.{body_marks, answer_marks, heading_marks, opening, number_in, fixed, certificate_marks, HaveNames, fits_answer, value, same_bytes}
pub use Rattle.cert_grammar.specs.Prelude.{measure_marks, simplifications_marks, automata_marks, number_for, shared_automata, heading, shared_line, shared_count, automata_left}
pub use Rattle.cert_grammar.specs.Prelude.{automaton_end, simplified, body, measure, behind_automata, body_leads, largest, HasMeasure, IsUnsimplified, in_range, is_few, simplifications}
pub use Rattle.cert_grammar.specs.Prelude.{peak_marks, automaton_ends, shares, closed, number, position, automaton_marks, infeasibility_marks, evidence_marks, simplification_count}
pub use Rattle.cert_grammar.specs.Prelude.{simplifications_of}
pub use Rattle.cert_laws.proofs.Paths.{Takes, Path, first_complete, first_sound}
pub use Rattle.cert_laws.proofs.Reached.{Move, Moves, moves_path, there_size}
pub use Rattle.cert_model.specs.CertificateView.{pair_entry_view, measure_view, peak_view, simp_view, certificate_view}
pub use Rattle.cert_model.specs.EvidenceView.{automaton_view}
pub use Rattle.cert_openings.proofs.Along.{Meet, ahead, behind_it, meet, never_ends}
pub use Rattle.cert_openings.proofs.Lines.{bytes_apart, apart}
pub use Rattle.cert_openings.proofs.OneReading.{one_reading}
pub use Rattle.cert_openings.proofs.Opened.{gone, gone_rest, gone_along, Gone}
pub use Rattle.cert_openings.proofs.OpeningMarks.{read_more}
pub use Rattle.cert_openings.specs.Laws.{IsReadTo}
pub use Rattle.cert_openings.specs.Openings.{BeginsEntry, Opening, ortho_opening, quasi_opening, simplified_opening, certificate_for, uses_with, IsRead, IsOpened, lines_text, IsOpeningEnd}
pub use Rattle.cert_reading.proofs.Found.{walks_named, found_by, front_found}
pub use Rattle.cert_reading.proofs.Opening.{entry_at, head_at, same_item, kind_item, other_below}
pub use Rattle.cert_reading.proofs.Stopping.{stop_behind, other_stop, stopped_where, then_where, as_marks_where, low_where, elsewhere, anywhere, anywhere as reads_anywhere}
pub use Rattle.cert_reading.proofs.Stopping.{open_before_where, ran, low_unopened}
pub use Rattle.cert_reading.proofs.UseReads.{known_where, known_behind}
pub use Rattle.cert_reading.specs.Headings.{kind_mark, item_by, behind_measure, behind_version, first_marks}
pub use Rattle.cert_reading.specs.Plain.{EvidenceUses, IsPlainBy, StepsUse, ApartUses}
pub use Rattle.cert_reading.specs.Shared.{shared_marks, IsKnown, ArePlainAutomata, CanShare}
pub use Rattle.cert_reading.specs.Stops.{Anywhere, AreBehind, WithinEntry, IsStoppedWhere, ReadsWhere, lowest, AreAbove, IsBehind, BeginsList, WithinOpening, StopsWhere, Place, BeforeEntries}
pub use Rattle.cert_reading.specs.Uses.{AreShared, version_by, automata_by}
pub use Rattle.cert_reading.specs.declared.headings.Kind.TheVariants.{Peak}
pub use Rattle.cert_shares.specs.SharesView.{with_begun}
pub use Rattle.cert_sharing.proofs.UseMarks.{counts_pairs, alone, pass_split, AreStill, counts_still, counts_both, counts_body, measure_still}
pub use Rattle.cert_sharing.proofs.Whole.{never_both, text_or_refused, places_within}
pub use Rattle.cert_text.specs.Front.{steps_marks, opening_behind, CanStep, front_marks, IsBegun, BeginsBody, opened_behind}
pub use Rattle.cert_text.specs.OpenedText.{at_entries, whole, behind_steps, opened_view, OpenedText, IsOpenedAs, IsRefusedBehind}
pub use Rattle.cert_text.specs.Reading.{Reading, HasRead, IsAll, ReadsOn, IsAtEnd}
pub use Rattle.cert_text.specs.ReadingView.{place_of, EndsMeasure, IsNext, read_marks, IsUpTo}
pub use Rattle.cert_text.specs.declared.opening.Opened.{Opened, Ortho, Quasi, Simplified, the_lemmas}
pub use Rattle.cert_words.proofs.Walking.{run_then, as_run, step_on, goes_where, open_before, then_reads, framed}
pub use Rattle.cert_words.proofs.Whole.{walks_text, walks_at, start_at, walks_pass, refused_at}
pub use Rattle.cert_words.specs.CertRefusals.{IsRefusedAs}
pub use Rattle.cert_words.specs.Walks.{Run, IsFront, left_at, RefusesAt, Walks, Reads}
pub use Rattle.cert_words.specs.Words.{told}
pub use Rattle.cert_words.specs.declared.error.CertError.{CertError}
pub use Rattle.certificates.specs.Prelude.{Automaton, PairEntry, Simplification, Certificate, simplified_certificate, MeasureCertificate, linear_measure, precedence_measure, peak_certificate}
pub use Rattle.certificates.specs.Prelude.{InfeasibilityEvidence, by_caps, by_automaton, PairEvidence, infeasible_pair, dropped, inlined}
pub use Rattle.cops_names.specs.NameTable.{NameTable}
pub use Rattle.general_lemmas.proofs.Lists.{drop_whole, not_nil}
