-- The lemmas that answers cite, passed on from one place. Declares nothing.
pub use Rattle.cert_words.proofs.Choosing.{alone_read, not_there, below, front_at, only, second, judged_word, refused_word, judge, name_read, numeral_read, variable_read, bad_name, bad_bar}
pub use Rattle.cert_words.proofs.Choosing.{keyword_why, check_why, unused_why, past_last, chosen_at, plain_choices, same_number}
pub use Rattle.cert_words.proofs.Sharings.{end_read, end_stuck, end_stopped, begins_keeps, use_run, use_bad, use_heavy}
pub use Rattle.cert_words.proofs.Stepping.{none_now, keyword_keeps, position_run, spelt_place, name_found, named, text_run, one_stop, out_of_range, as_counted, word_text}
pub use Rattle.cert_words.proofs.Prelude.{Bool, Lead, Reading, Shared, Some, [], ap, ap₂, arith, bad_number, bad_share, counted_view, false, map, name_of, plain, refl, sym, too_many, true, unfolded}
pub use Rattle.cert_words.proofs.Prelude.{value, ◌∙◌, ◌∷◌, ◌≡◌}
