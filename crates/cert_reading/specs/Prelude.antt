-- The names that contracts cite, passed on from one place. Declares nothing.
pub use Rattle.cert_grammar.specs.Prelude.{second_version, by_number, number_in, simplifications_marks, name_of, has_arity, fixed, behind, is_few, entries, word, coefficients_marks}
pub use Rattle.cert_grammar.specs.Prelude.{measured_marks, entries_marks, heads_marks, measure_marks, Version, HasMeasure, Item, use_marks, infeasibility_marks, evidence_marks, automata_marks}
pub use Rattle.cert_grammar.specs.Prelude.{largest, in_range, is_answer, fits_answer, leads, body_leads, first_there, meets, Frame, closing, redexes_marks, apart_marks, peak_marks, pairs_marks}
pub use Rattle.cert_model.specs.CertificateView.{simp_view, head_view, linear_entry_view, measure_view, redex_view, apart_view, peak_view, pair_entry_view}
pub use Rattle.cert_model.specs.EvidenceView.{automaton_view, transition_view, inf_evidence_view, pair_evidence_view}
pub use Rattle.cert_openings.specs.Openings.{BeginsEntry}
pub use Rattle.cert_reading.specs.Headings.{behind_measure, version_mark, behind_version, first_marks, kind_mark, item_by}
pub use Rattle.cert_reading.specs.Plain.{StepsUse, IsUsed, HasUsed, EvidenceUses, RedexesUse, ApartUses, PairsUse}
pub use Rattle.cert_reading.specs.Stops.{ReadsWhere, WithinOpening, BeforeEntries, Anywhere, WithinEntry}
pub use Rattle.cert_reading.specs.Uses.{AreShared, version_by, automata_by, uses_by, use_between, use_item, AreKnown}
pub use Rattle.cert_words.specs.Walks.{Reads, HasNoStates, AreWithoutStates}
pub use Rattle.cops_names.specs.NameTable.{NameTable, number_of}
