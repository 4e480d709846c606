use Rattle.cert_reading.proofs.Lemmas.{word_where, pairs_item, none_begins}
use Rattle.cert_reading.proofs.Prelude.{refl, pair_or_end, pairs_from, stuck_among, stop}
use Rattle.cert_reading.proofs.headings.entries_begin.Goals as goal

pub returns-clause-read : goal.returns-clause-read
returns-clause-read c = λ names v.
    let left = c.args.at.now.left.now in
    let none = c.begins_entry.ensures.other c.if-begins_entry.false in
    let stuck = stuck_among names c.args.end left c.args.at.now.shares (pairs_from v 1) c.stuck.result (pair_or_end v 1) (pair_or_end v 1) refl (none_begins v 1 left none) refl c.stuck.ensures in
    word_where (λ s. pairs_item v left none) (λ x. stuck) (stop c.is_some.ensures c.if-is_some.false stuck)
