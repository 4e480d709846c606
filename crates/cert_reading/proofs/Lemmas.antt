-- The lemmas that answers cite, passed on from one place. Declares nothing.
pub use Rattle.cert_reading.proofs.AutomatonMarks.{begun, begun_push, begun_closed, head_first, automaton_anew}
pub use Rattle.cert_reading.proofs.ListMarks.{all_behind, more_of, steps_first, steps_more}
pub use Rattle.cert_reading.proofs.Loops.{counted_more, left_next, left_end, length_grown, next_reads, next_where, one_more, none_left, push, pushed, room, room_less}
pub use Rattle.cert_reading.proofs.Opening.{past, other_below, automata_other, other_word, other_place, entry_at, head_at, linear_line, order_line, none_of_entries, none_refused}
pub use Rattle.cert_reading.proofs.Opening.{versions, pairs_item, none_begins, first_lines}
pub use Rattle.cert_reading.proofs.Stopping.{read_on, open_before_where, low_where, then_where, as_where, as_marks_where, then_nothing_where, sealed_where, at_front, refused_reads}
pub use Rattle.cert_reading.proofs.Stopping.{low_unopened, word_where, word_behind, low_entry, first_entry, line_entry, pair_later, refused_reads as refused_where, anywhere}
pub use Rattle.cert_reading.proofs.Stopping.{anywhere as reads_anywhere}
pub use Rattle.cert_reading.proofs.KindMarks.{kind_still, first_still}
pub use Rattle.cert_reading.proofs.TermMarks.{so_far, so_far_push, size_push, symbol_alone, symbol_read, either_end}
pub use Rattle.cert_reading.proofs.UseReads.{UseFacts, use_facts, number_there, use_line, known_still, known_behind, front_counts, known_where}
