use Rattle.cert_reading.proofs.Lemmas.{pushed}
use Rattle.cert_reading.proofs.Prelude.{accepting_marks, fixed, state, codes, [], ◌∷◌, refl, then_reads, as_marks}
use Rattle.cert_reading.proofs.automata.accepting.Goals as goal

pub states-preserved : goal.states-preserved
states-preserved c = λ names.
    as_marks (λ none u. cc (
      pushed (accepting_marks c.args.states) (λ q. fixed (codes " ") ∷ state c.args.states q ∷ []) refl (λ q qs. refl) c.states.accepted.items c.number-state.result,
      c.put.ensures.grown none,
    ))
    (then_reads (c.states.invariant names) (then_reads (c.either.ensures.one c.states-test.true names _ _ _ refl) (then_reads (c.number-state.ensures.read names _ _ refl)
    (c.put.ensures.read names c.args.end _))))

pub returns : goal.returns
returns c = λ names.
    then_reads (c.states.invariant names) (c.either.ensures.other c.states-test.false names _ _ _ refl)
