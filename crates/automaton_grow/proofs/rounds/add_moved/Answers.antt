use Rattle.std.proofs.Common.{map, subst}
use Rattle.std.specs.Prelude.{Contains}
use Rattle.cert_model.specs.EvidenceView.{transition_view}
use Rattle.automaton_grow.specs.Growing.{twins}
use Rattle.automaton_grow.proofs.Adding.{added_before}
use Rattle.automaton_grow.proofs.States.{own_twin}
use Rattle.automaton_grow.proofs.rounds.add_moved.Goals as goal

pub returns-then-from-to : goal.returns-then-from-to
returns-then-from-to c =
    let ds = map transition_view c.args.current.now in (
      added_before (Contains (twins c.args.from c.args.to ds)) _ c.requires.sorted
          (λ d h. c.requires.kept d (own_twin c.args.to ds d (subst (λ z. Contains (twins z c.args.to ds) d) c.if-from-to.true h))),
      c.requires.few,
    )
