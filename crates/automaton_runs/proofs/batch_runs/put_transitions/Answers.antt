use Rattle.std.proofs.Common.{◌+◌, ◌⊎◌, ◌↔◌, Bor, List, take, subst}
use Rattle.std.proofs.lemmas.List.{take_all}
use Rattle.general_lemmas.proofs.Places.{map-take_read}
use Rattle.certificates.specs.Evidence as math
use Rattle.number_sets.specs.Sets.{members}
use Rattle.number_sets.specs.Relation.{Relates}
use Rattle.cert_model.specs.EvidenceView.{transition_view}
use Rattle.cert_model.specs.declared.evidence.Transition.{Transition}
use Rattle.automaton_runs.specs.Indexed.{pointed}
use Rattle.automaton_runs.specs.Reached.{Leads, HaveLeads}
use Rattle.automaton_runs.specs.Relations.{relations}
use Rattle.automaton_runs.proofs.Led.{one_more}
use Rattle.automaton_runs.proofs.batch_runs.put_transitions.Goals as goal

pub loop-transition-preserved : goal.loop-transition-preserved
loop-transition-preserved c = record {
  shared = c.in_ok-put_transition.ensures.shared;
  made = λ q k.
      let i = c.loop-transition.transition-index in
      one_more (λ (t : math.Transition). Leads c.args.applied.f (members c.args.applied.all.now) (relations c.args.applied.args.now) t q k) (pointed (take i c.args.transitions.now))
      (transition_view c.transition-item.result.now) (pointed (take (i + 1) c.args.transitions.now))
      (map-take_read (λ (t : Bor Transition). transition_view t.now) c.args.transitions.now i c.transition-item.result c.loop-transition-test.true c.transition-item.is)
      (c.loop-transition.invariant.made q k) (c.in_ok-put_transition.ensures.made q k);
}

pub returns : goal.returns
returns c q k =
    subst (λ (l : List (Bor Transition)). Relates c.loop-transition.made q k ↔ (Relates c.args.made.now q k
    ⊎ HaveLeads c.args.applied.f (members c.args.applied.all.now) (relations c.args.applied.args.now) (pointed l) q k))
    (take_all c.loop-transition.transition-index c.args.transitions.now c.loop-transition-test.false) (c.loop-transition.invariant.made q k)
