-- The names from below that lemmas and answers cite, passed on from one place. Declares nothing.
pub use Rattle.std.proofs.Common.{◌≡◌, ◌+◌, ◌*◌, ◌-◌, ◌<◌, ◌≤◌, ◌==◌, nat_lt, nat_le, ℕ, suc, Bool, true, false, ◌&&◌, if◌then◌else◌, List, [], ◌∷◌, ◌++◌, Option, Some, None, length, drop}
pub use Rattle.std.proofs.Common.{get_or, refl, sym, ap, ◌∙◌, arith, ne_eqb, eqb-true, is_some, MatchOption, take, codes, unwrap_or, Bor, subst, length-drop, add-one, not, cond}
pub use Rattle.std.proofs.Common.{length-append, option_map, append_assoc, ap₂, zero, max, map}
pub use Rattle.std.proofs.Math.Seq.{drop-cons, drop-append_seam, take-append_seam}
pub use Rattle.std.proofs.lemmas.Bool.{lt-ltb, le-ltb, le-leb, lt-leb, and_parts, false_from_ne_true}
pub use Rattle.cert_grammar.specs.Prelude.{largest, CertificateCause, bad_number, verdict, dotted, places_text, are_places, value_from, is_digit, places, numbers_from, name_of, IsIdentifier}
pub use Rattle.cert_grammar.specs.Prelude.{is_number, Counted, limit, counted_as, syntax, unknown_name, wrong_arity, too_many, too_deep, has_arity, in_range, is_few, is_shallow, Naming}
pub use Rattle.cert_grammar.specs.Prelude.{Demand, meets, Mark, fixed, word, symbol, behind, demands_of, position, scan, is_word, value, Item, Lead, text, check, keyword, numeral_lead}
pub use Rattle.cert_grammar.specs.Prelude.{position_lead, variable_lead, name_lead, is_short, leads, is_there, taken, mark_of, items_of, longest, first_there, Left, Step, goes_on}
pub use Rattle.cert_grammar.specs.Prelude.{behind_lead, judged, step, step_lead, Shared, share_verdict, behind_mark, ends, next_lead, shared_judged, behind_lead_shared, after_step, mode_of}
pub use Rattle.cert_grammar.specs.Prelude.{ends_lead, refuses, at_once, bad_share, unfolded, automaton_begins, automaton_ends, is_use, is_light, all_used, shares, closed, marks_text}
pub use Rattle.cert_grammar.specs.Prelude.{use_mark, is_among, holds, first_of, share_effect, behind_marks, PassShares, Mode, number_more, Scan, scan_next, next, step_items, further, shared_step}
pub use Rattle.cert_grammar.specs.Prelude.{mark_text, Pass, IsCertificateRefused, opening, nothing_shared, is_node, Frame, node, name_behind, term_behind, spelling, simplifications}
pub use Rattle.cert_grammar.specs.WordMarks.{numeral}
pub use Rattle.cert_laws.proofs.Paths.{found_there, text_is, first_sound, lead_there}
pub use Rattle.cert_shares.specs.SharesView.{with_begun, behind_end}
pub use Rattle.cert_sharing.proofs.UseMarks.{IsStill, still_marks, still_pass, places_still, behind_both, pass_join, alone_met, two_met}
pub use Rattle.cert_words.specs.Choices.{Choice, lead_of, bare_of, Chosen, Missed, IsFirst, WordReads, IsMissed, Finds, IsJudged, Front, plain, IsVerdict, IsWhy, IsNumeral}
pub use Rattle.cert_words.specs.declared.choices.Found.{Found}
pub use Rattle.cert_words.specs.Walks.{left_at, Walks, tagged, AreFound, Keeps, Run, RefusesAt, IsStuckAt, IsStopped, Reads, IsFront, BeginsAnew, IsStuckBehind, StepsOver, GoesOn}
pub use Rattle.cert_words.specs.Walks.{IsWithin, Place, Above, Anywhere, IsStoppedWhere, ReadsWhere}
pub use Rattle.cert_words.specs.Words.{IsReached, IsLeadRead, IsScanned, told, IsTold, counted_view, mode_view, bare}
pub use Rattle.cert_words.specs.declared.error.CertError.{CertError}
pub use Rattle.cert_words.specs.declared.reading.Reading.{Reading}
pub use Rattle.cops_names.specs.NameTable.{NameTable, number_of, arity_at}
