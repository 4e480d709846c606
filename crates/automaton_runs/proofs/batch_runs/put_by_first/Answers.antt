use Rattle.std.proofs.Common.{◌+◌, ◌<◌, ◌⊎◌, ◌↔◌, ◌∙◌, List, ℕ, filter, sym, subst, arith}
use Rattle.std.proofs.lemmas.Bool.{false≢true}
use Rattle.certificates.specs.Evidence.{Transition}
use Rattle.number_sets.specs.Sets.{members}
use Rattle.number_sets.specs.Relation.{Relates}
use Rattle.number_sets.specs.declared.rows.NumberRelation.{NumberRelation}
use Rattle.automaton_runs.specs.Counting.{chosen, first_key}
use Rattle.automaton_runs.specs.Reached.{HaveLeads}
use Rattle.automaton_runs.specs.Relations.{relations}
use Rattle.automaton_runs.proofs.Led.{state_more, state_passed, state_all, led_here}
use Rattle.automaton_runs.proofs.batch_runs.put_by_first.Goals as goal
use Rattle.automaton_runs.proofs.batch_runs.put_by_first.Goals.{then-has_left+in_ok-put_transitions, else-has_left}

pub loop-state-preserved : goal.loop-state-preserved
loop-state-preserved c q k =
    let a = c.args.index.now in
    let n = c.loop-state.state in
    let first = c.args.first.now in
    let all = members c.args.applied.all.now in
    let rs = relations c.args.applied.args.now in
    let P = λ (s : ℕ). ((p : ℕ) × Relates first s p) × HaveLeads c.args.applied.f all rs (filter (chosen a.symbols first_key a.automaton.states s) a.automaton.transitions) q k in
    elim c.if-has_left.branch [
      | then-has_left+in_ok-put_transitions w ↦
          subst (λ (r : NumberRelation). Relates r q k ↔ (Relates c.args.made.now q k ⊎ ((s : ℕ) × (s < n + 1) × P s))) (sym w.made-is)
          (state_more P n (c.loop-state.invariant q k)
          (led_here (HaveLeads c.args.applied.f all rs (filter (chosen a.symbols first_key a.automaton.states n) a.automaton.transitions) q k)
          (c.has_left.ensures.0 w.if-has_left.true)
          (subst (λ (l : List Transition). Relates w.put_transitions.new.made q k
          ↔ (Relates c.loop-state.made q k ⊎ HaveLeads c.args.applied.f all rs l q k)) w.with_first.ensures
          (w.in_ok-put_transitions.ensures q k))))
      | else-has_left w ↦
          subst (λ (r : NumberRelation). Relates r q k ↔ (Relates c.args.made.now q k ⊎ ((s : ℕ) × (s < n + 1) × P s))) (sym w.made-is)
          (state_passed P n (c.loop-state.invariant q k) (λ h. false≢true (sym w.if-has_left.false ∙ c.has_left.ensures.1 h.0)))
    ]

pub returns : goal.returns
returns c q k =
    let a = c.args.index.now in
    let n = c.loop-state.state in
    let P = λ (s : ℕ). ((p : ℕ) × Relates c.args.first.now s p) × HaveLeads c.args.applied.f (members c.args.applied.all.now) (relations c.args.applied.args.now)
    (filter (chosen a.symbols first_key a.automaton.states s) a.automaton.transitions) q k in
    state_all P n (c.loop-state.invariant q k) (λ s h. let low = c.lefts-state-end.ensures.above s h.0.0 h.0.1 in let past = c.loop-state-test.false in omega arith)
