use Rattle.std.proofs.Common.{map, subst₂}
use Rattle.certificates.specs.Judging.{Derives}
use Rattle.certificates.proofs.Sound.{derivation_over, derivation_reaches}
use Rattle.rewriting.proofs.Laws.{well_formed}
use Rattle.term_core.specs.Prelude.{view, condition_view}
use Rattle.cert_model.specs.DerivationView.{derivation_view}
use Rattle.derivation.proofs.Shown.{steps_seen}
use Rattle.derivation.proofs.judge.replay.Goals as goal

pub returns-clause-sound : goal.returns-clause-sound
returns-clause-sound c =
    λ over hyps_over.
    let sys = c.args.sys.now in
    let hyps = map condition_view c.args.hyps.now in
    let d = derivation_view c.args.d.now in
    let end = view c.in_ok-end.end.term in
    let good = well_formed sys c.rules_are_sound.ensures in
    let led = subst₂ (λ t z. Derives sys hyps t z end) c.in_ok-term.ensures (steps_seen c.args.d.now c.deref.result.now c.deref.ensures.value) c.in_ok-end.ensures.0 in (
      derivation_over sys good hyps hyps_over (view c.args.start.now) d end over led,
      derivation_reaches sys good hyps hyps_over (view c.args.start.now) d end over led,
    )
