-- What the answers cite, passed on from one place. Declares nothing.
pub use Rattle.std.proofs.Common.{◌≡◌, ◌++◌, map, drop, ℕ, List, ap, ◌∙◌, refl, ◌+◌, sym, []}
pub use Rattle.std.proofs.lemmas.List.{length-map}
pub use Rattle.certificates.specs.Evidence.{Automaton}
pub use Rattle.term_core.specs.View.{views}
pub use Rattle.term_core.proofs.Views.{view-Var}
pub use Rattle.cert_model.specs.CertificateView.{pair_entry_view, redex_view, simp_view, certificate_view}
pub use Rattle.cert_model.specs.EvidenceView.{automaton_view, transition_view}
pub use Rattle.cert_model.proofs.CertificateViews.{simplified_shown}
pub use Rattle.cert_grammar.specs.Prelude.{used_by_pairs, used_by_redexes, used_by_steps, automaton_text, texts_of, place_among, automata_of, automata_text}
pub use Rattle.cert_grammar.specs.Prelude.{arguments_text, further_text, shared_by, each_behind}
pub use Rattle.cert_writing.specs.SharedAutomata.{lent, seen, with_text, with_texts, joined}
pub use Rattle.cert_writing.specs.Written.{each}
pub use Rattle.cert_writing.specs.WrittenUses.{uses_view}
pub use Rattle.cert_writing.proofs.Writing.{each_is, next_left, Left, next_value, first_and_others, lead_in, Leads, none_left}
pub use Rattle.cert_writing.proofs.WritingSteps.{steps_shown, conditions_shown, further_behind, arguments_shown, transitions_each, simplifications_each}
pub use Rattle.cert_writing.proofs.SharedTexts.{inserted, texts_next, texts, found_at, not_there, new_texts, counted_all, unfolded_is, whole_text}
