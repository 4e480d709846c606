use Rattle.std.proofs.Common.{◌≡◌, ◌+◌, ◌<◌, ℕ, [], Vec, Global, AllPairs, map, length, ap, sym, subst, append-nil, arith, ◌∙◌}
use Rattle.term_core.specs.View.{view}
use Rattle.number_sets.specs.Sets.{members}
use Rattle.number_sets.specs.Relation.{members_at}
use Rattle.number_sets.proofs.Members.{members_ascending}
use Rattle.automaton_runs.specs.Arrivals.{arrival_view, HaveBatchArrivals}
use Rattle.automaton_runs.specs.Choices.{Holds}
use Rattle.automaton_runs.specs.declared.runs.Arrival.{Arrival}
use Rattle.automaton_runs.proofs.Arrived.{none_of_batch, arrivals_choice, arrivals_no_row}
use Rattle.automaton_runs.proofs.runs.put_batch.Goals as goal
use Rattle.automaton_runs.proofs.runs.put_batch.Goals.{in-Some+in_ok-choice+in_ok-numbers+in_ok-put_arrivals, in_default}

pub loop-k-init : goal.loop-k-init
loop-k-init c = ([], sym (append-nil (map arrival_view c.args.rows.now.items)), none_of_batch c.args.index.now (view c.args.t.now) c.args.batch.now)

pub choice-requires : goal.choice-requires
choice-requires c = omega (arith, c.loop-k-test.true, c.len-k-end.ensures)

pub loop-k-preserved : goal.loop-k-preserved
loop-k-preserved c =
    let a = c.args.index.now in
    let t = view c.args.t.now in
    let b = c.args.batch.now in
    let k = c.loop-k.k in
    let holds : Holds c.args.batch.now c.loop-k.k = omega (arith, c.loop-k-test.true, c.len-k-end.ensures) in
    let r = c.in_ok-reached_by_occurrences.field-0 in
    let s = c.in_ok-by_choice.by_choice in
    let first = map arrival_view c.args.rows.now.items in
    let old = map arrival_view c.loop-k.rows.items in
    elim c.match-row.branch [
      | in-Some+in_ok-choice+in_ok-numbers+in_ok-put_arrivals w ↦
          let set = w.in-Some.states.now in
          let states : w.deref-in-Some.result.now ≡ members set = w.deref-in-Some.ensures.value ∙ w.in_ok-numbers.ensures in
          let row = states ∙ ap members_at (sym w.in-Some.is) ∙ c.row.ensures in
          let up = subst (AllPairs (λ x y. x < y)) (sym states) (members_ascending set) in
          arrivals_choice a t b k holds r s c.in_ok-reached_by_occurrences.ensures c.in_ok-by_choice.ensures c.requires.ordered first old (map arrival_view c.match-row.rows.items)
          w.deref.result.now w.deref-in-Some.result.now
          c.loop-k.invariant up row (w.deref.ensures.value ∙ w.in_ok-choice.ensures) (ap (λ (v : Vec Arrival Global). map arrival_view v.items) w.rows-is ∙ w.in_ok-put_arrivals.ensures)
      | in_default w ↦
          subst (λ (v : Vec Arrival Global). HaveBatchArrivals a t b (k + 1) first (map arrival_view v.items)) (sym w.rows-is)
          (arrivals_no_row a t b k holds r s c.in_ok-reached_by_occurrences.ensures c.in_ok-by_choice.ensures first old c.loop-k.invariant (sym c.row.ensures ∙ ap members_at w.in_default.is))
    ]

pub returns : goal.returns
returns c =
    let all : c.loop-k.k ≡ length c.args.batch.now.tails = omega (arith, c.loop-k-test.false, c.loop-k.auto.k-end, c.len-k-end.ensures) in
    subst (λ (k : ℕ). HaveBatchArrivals c.args.index.now (view c.args.t.now) c.args.batch.now k (map arrival_view c.args.rows.now.items) (map arrival_view c.loop-k.rows.items)) all c.loop-k.invariant
