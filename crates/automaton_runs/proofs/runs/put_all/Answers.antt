use Rattle.std.proofs.Common.{◌≡◌, ◌+◌, ℕ, List, map, length, ap, sym, subst, ◌∙◌}
use Rattle.term_core.specs.View.{view}
use Rattle.automaton_runs.specs.Arrivals.{arrival_view, AreFrontArrivals}
use Rattle.automaton_runs.specs.Choices.{Batch, occurrences_of}
use Rattle.automaton_runs.proofs.Arrived.{Pair, none_of_fronts, fronts_more, arrivals_end}
use Rattle.automaton_runs.proofs.BatchParts.{front_at, fronts_end}
use Rattle.rewriting.proofs.Members.{place_among}
use Rattle.automaton_runs.proofs.runs.put_all.Goals as goal

pub loop-front-init : goal.loop-front-init
loop-front-init c = subst (λ (rows : List Pair). AreFrontArrivals c.args.index.now (view c.args.t.now) c.args.choices.now 0 rows) (sym c.requires.none)
    (none_of_fronts c.args.index.now (view c.args.t.now) c.args.choices.now)

pub put_batch-requires-clause-length : goal.put_batch-requires-clause-length
put_batch-requires-clause-length c =
    let at = front_at _ c.fronts-front-items.result.now c.fronts-front-items.ensures c.loop-front.front-index c.front-item.result c.loop-front-test.true c.front-item.is in
    let long = c.requires.choices.long c.front-item.result.items (place_among c.args.choices.now.fronts c.loop-front.front-index c.front-item.result.items at) in
    ap occurrences_of c.in_ok-batch.ensures ∙ ap (λ (f : List ℕ). length f + c.args.choices.now.width) c.deref.ensures.value ∙ long

pub loop-front-preserved : goal.loop-front-preserved
loop-front-preserved c =
    let a = c.args.index.now in
    let t = view c.args.t.now in
    let n = c.loop-front.front-index in
    let front = c.front-item.result.items in
    let at = front_at _ c.fronts-front-items.result.now c.fronts-front-items.ensures c.loop-front.front-index c.front-item.result c.loop-front-test.true c.front-item.is in
    let is : c.in_ok-batch.batch ≡ record { front = c.front-item.result.items; width = c.args.choices.now.width; tails = c.args.choices.now.tails } =
    c.in_ok-batch.ensures ∙ ap (λ (f : List ℕ). let b : Batch = record { front = f; width = c.args.choices.now.width; tails = c.args.choices.now.tails } in b) c.deref.ensures.value in
    let (more, put, here) = c.in_ok-put_batch.ensures in
    fronts_more a t c.args.choices.now c.requires.choices n front at c.in_ok-batch.batch is (map arrival_view c.loop-front.rows.items) more c.loop-front.invariant here
    (map arrival_view c.put_batch.new.rows.items) put

pub returns : goal.returns
returns c =
    let past = fronts_end _ c.fronts-front-items.result.now c.fronts-front-items.ensures c.loop-front.front-index c.loop-front-test.false in
    arrivals_end c.args.index.now (view c.args.t.now) c.args.choices.now c.requires.choices c.loop-front.front-index (map arrival_view c.loop-front.rows.items) past c.loop-front.invariant
