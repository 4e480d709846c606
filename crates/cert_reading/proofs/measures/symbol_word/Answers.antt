use Rattle.cert_reading.proofs.Lemmas.{word_where, none_of_entries}
use Rattle.cert_reading.proofs.Prelude.{[], ◌∷◌, Bool, ◌≡◌, true, false, is_some, refl, entries, is_few, keyword, pair_or_end, one, two, stuck_among, stop}
use Rattle.cert_reading.specs.Measures.{symbol_word, behind_word}
use Rattle.cert_reading.proofs.measures.symbol_word.Goals as goal

pub returns-in-Some-clause-read : goal.returns-in-Some-clause-read
returns-in-Some-clause-read c = λ names v i low behind s.
    c.counted_word.ensures.read names v i _ _ _ (s.place _ c.requires.other) (one s.are_leads c.in-Some.ensures).first c.in-Some.ensures

pub returns-in-Some-front-clause-read : goal.returns-in-Some-front-clause-read
returns-in-Some-front-clause-read c = λ names v i low behind s.
    c.counted_word-in-Some-front.ensures.read names v i _ _ _ (s.place _ c.requires.other) (two s.are_leads c.in_default.ensures c.in-Some-front.ensures).first c.in-Some-front.ensures

pub returns-clause-read : goal.returns-clause-read
returns-clause-read c = λ names v i low behind s.
    let left = c.args.at.now.left.now in
    let lead = λ (b : Bool). keyword (symbol_word b) (is_few entries c.args.n ∷ []) (behind_word s.name s.condition low b) in
    let leads = lead true ∷ lead false ∷ pair_or_end v 1 in
    let stuck = stuck_among names c.args.end left c.args.at.now.shares i c.stuck.result leads leads s.are_leads
    (none_of_entries v 1 left (lead true) (lead false) c.in_default.ensures c.in_default-front.ensures c.requires.other) refl c.stuck.ensures in
    let none : false ≡ is_some c.args.at.now.refused = rw c.requires.unrefused refl in
    word_where (λ x. s.place left c.requires.other) (λ x. stuck) (stop none refl stuck)
