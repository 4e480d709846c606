use Rattle.std.proofs.Common.{◌∙◌, List, ℕ, sym, subst}
use Rattle.number_sets.specs.Sets.{members}
use Rattle.cert_model.specs.EvidenceView.{transition_view}
use Rattle.automaton_runs.specs.Relations.{relations}
use Rattle.automaton_runs.specs.Shared.{IsIn, AreShared}
use Rattle.automaton_runs.proofs.Shared.{put_as}
use Rattle.automaton_runs.proofs.Led.{option_is, lead_put}
use Rattle.automaton_runs.proofs.batch_runs.put_transition.Goals as goal

pub returns-in_ok-put-clause-made : goal.returns-in_ok-put-clause-made
returns-in_ok-put-clause-made c =
    let f = c.args.applied.f in
    let all = members c.args.applied.all.now in
    let rs = relations c.args.applied.args.now in
    let t = transition_view c.args.transition.now in
    let s = c.move_to.new.self in
    let same : AreShared all rs c.args.transition.now.args.items (IsIn s.found s.made) =
    subst (λ (qs : List ℕ). AreShared all rs qs (IsIn s.found s.made)) (c.in_ok-move_to.ensures.at ∙ c.deref.ensures.value) c.in_ok-move_to.ensures.shared in
    lead_put f all rs t c.args.made.now c.put.new.relation (option_is t.symbol f (sym c.eq.ensures ∙ c.if-eq.true)) (put_as c.args.made.now t.target c.put.new.relation c.in_ok-put.ensures same)
