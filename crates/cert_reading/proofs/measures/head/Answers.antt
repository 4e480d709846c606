use Rattle.cert_reading.proofs.Lemmas.{low_unopened, then_where, low_where, read_on}
use Rattle.cert_reading.proofs.Prelude.{[], ◌∷◌, refl, between, any_number, measured_name, measured_condition, then_reads, open_before, space, framed}
use Rattle.cert_reading.proofs.measures.head.Goals as goal

pub returns-then-symbol_word-clause-head : goal.returns-then-symbol_word-clause-head
returns-then-symbol_word-clause-head c = λ v i low behind s.
    let names = c.args.names.now in
    then_where (rw c.if-symbol_word.true at (c.symbol_word.ensures.read names v i low behind s)) (low_where low (low_unopened v low s.later)
    (then_reads (framed (s.name ∷ []) (c.text.ensures.read names (between space) _ refl)) (c.name-f.ensures s.name (λ name. behind ∷ []) s.name_leads)))

pub returns-then-symbol_word-clause-few : goal.returns-then-symbol_word-clause-few
returns-then-symbol_word-clause-few c = λ none. c.symbol_word.ensures.few (open_before (c.text.ensures.read c.args.names.now (between space) _ refl)
    (open_before (c.name-f.ensures measured_name _ refl) none))

pub returns-clause-head : goal.returns-clause-head
returns-clause-head c = λ v i low behind s.
    let names = c.args.names.now in
    then_where (rw c.if-symbol_word.false at (c.symbol_word.ensures.read names v i low behind s)) (low_where low (low_unopened v low s.later)
    (then_reads (framed (any_number space ∷ s.condition ∷ []) (c.text-2.ensures.read names (between space) _ refl))
    (read_on (c.number-rule.ensures.read names _ _ refl) (read_on (c.text-3.ensures.read names _ _ refl)
    (c.number-cond.ensures.read names s.condition (λ k. behind ∷ []) s.condition_leads)))))

pub returns-clause-few : goal.returns-clause-few
returns-clause-few c = λ none.
    let names = c.args.names.now in
    c.symbol_word.ensures.few (open_before (c.text-2.ensures.read names (between space) _ refl)
    (open_before (c.number-rule.ensures.read names (any_number space) _ refl) (open_before (c.text-3.ensures.read names (between space) _ refl)
    (open_before (c.number-cond.ensures.read names measured_condition _ refl) none))))
