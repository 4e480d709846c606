use Rattle.cert_reading.proofs.Lemmas.{then_where, as_marks_where, word_where, word_behind, low_where, low_entry, first_entry, line_entry, pair_later, known_behind}
use Rattle.cert_reading.proofs.Lemmas.{known_where, front_counts}
use Rattle.cert_reading.proofs.Prelude.{suc, arith, [], ◌∷◌, codes, sym, refl, append-nil, pair_entry_view, name_of, pairs, is_few, word, between, evidence, pairs_from, used_by_pairs}
use Rattle.cert_reading.proofs.Prelude.{numbers_of, counts_pairs, then_reads, framed, open_before, version_by, automata_by, uses_by}
use Rattle.cert_grammar.specs.Items as Items
use Rattle.cert_reading.proofs.pairs.next_pair.Goals as goal

pub returns-then-not-counted_or-clause-last : goal.returns-then-not-counted_or-clause-last
returns-then-not-counted_or-clause-last c =
    let n = c.args.n in
    let v = version_by c.args.uses in
    let names = c.args.names.now in
    let last = c.counted_or.ensures.other c.if-not-counted_or.true names (pairs_from v n) _ _ refl in
    then_where (word_where (λ s. first_entry v n c.args.at.now.left.now c.args.at.now.left.now) (λ none. c.counted_or.ensures.here none names (pairs_from v n) _ _ refl) last)
    (word_behind (λ going. line_entry v n c.args.at.now.left.now c.counted_or.new.at.left.now (c.counted_or.ensures.text c.if-not-counted_or.true (open_before last going) going))
    (λ none. c.text.ensures.here none names (between Items.line) [] refl) (c.text.ensures.read names (between Items.line) [] refl))

pub evidence-evidence-requires : goal.evidence-evidence-requires
evidence-evidence-requires c =
    let names = c.args.names.now in
    let n = c.args.n in
    let v = version_by c.args.uses in
    let numbers = c.between_numbers-inner.result in
    known_behind v (automata_by c.args.uses) (then_reads (c.counted_or.ensures.word c.if-not-counted_or.false names (pairs_from v n) _ _ refl)
    (framed (evidence v ∷ pairs_from v (suc n) ∷ []) (c.between_numbers-inner.ensures names))) []
    (front_counts (word (codes "pair") (is_few pairs n ∷ [])) numbers.0 numbers.1.items numbers.2 tt) c.requires

pub returns-clause-pair : goal.returns-clause-pair
returns-clause-pair c =
    let names = c.args.names.now in
    let n = c.args.n in
    let v = version_by c.args.uses in
    as_marks_where (λ none u. sym (append-nil _))
    (then_where (word_where (λ s. first_entry v n c.args.at.now.left.now c.args.at.now.left.now) (λ none. c.counted_or.ensures.here none names (pairs_from v n) _ _ refl)
    (c.counted_or.ensures.word c.if-not-counted_or.false names (pairs_from v n) _ _ refl))
    (low_where (pairs_from v (suc n)) (low_entry v n c.args.at.now.left.now (pairs_from v (suc n)) (pair_later v (suc n) (suc n) (omega arith)))
    (then_reads (framed (evidence v ∷ []) (c.between_numbers-inner.ensures names)) c.evidence-evidence.ensures.read)))

pub returns-clause-known : goal.returns-clause-known
returns-clause-known c =
    let names = c.args.names.now in
    let v = version_by c.args.uses in
    let numbers = c.between_numbers-inner.result in
    let ps = pair_entry_view (record { inner = numbers.0; pos = numbers.1; outer = numbers.2; evidence = c.evidence-evidence.result }) ∷ [] in
    let w = uses_by names c.args.uses in
    known_where v (automata_by c.args.uses) (returns-clause-pair c) (numbers_of w (used_by_pairs ps)) (counts_pairs ps (name_of names) w c.args.n) c.requires

pub returns-clause-few : goal.returns-clause-few
returns-clause-few c = λ none. c.counted_or.ensures.few c.if-not-counted_or.false (open_before (c.between_numbers-inner.ensures c.args.names.now) (open_before c.evidence-evidence.ensures.read none))
