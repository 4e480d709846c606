use Rattle.std.proofs.Common.{◌≡◌, ◌+◌, ◌∙◌, ℕ, List, length, refl, ap, sym, subst}
use Rattle.std.proofs.lemmas.Bool.{false≢true}
use Rattle.certificates.specs.Evidence.{Automaton}
use Rattle.automata.specs.Runs.{ReachBy}
use Rattle.automata.specs.Closed.{Excludes}
use Rattle.term_core.specs.View.{view}
use Rattle.automaton_runs.specs.Counted.{Finds}
use Rattle.automaton_runs.specs.Choices.{Batch, occurrences_of}
use Rattle.automaton_runs.specs.Reached.{AreWhere}
use Rattle.automaton_runs.proofs.BatchParts.{front_at, fronts_end}
use Rattle.rewriting.proofs.Members.{place_among}
use Rattle.tree_automata.specs.Accepts.{IsOneAccepting}
use Rattle.tree_automata.specs.Batches.{batch_at}
use Rattle.tree_automata.proofs.Batches.{IsNot, below_more, throughout, excluded, not_excluded, none_in}
use Rattle.tree_automata.proofs.exclusion.is_excluded.Goals as goal

pub reached_by_occurrences-requires-clause-length : goal.reached_by_occurrences-requires-clause-length
reached_by_occurrences-requires-clause-length c =
    let at = front_at _ c.fronts-front-items.result.now c.fronts-front-items.ensures c.loop-front.front-index c.front-item.result c.loop-front-test.true c.front-item.is in
    let long = c.requires.choices.long c.front-item.result.items (place_among c.args.choices.now.fronts c.loop-front.front-index c.front-item.result.items at) in
    ap occurrences_of c.in_ok-batch.ensures ∙ ap (λ (f : List ℕ). length f + c.args.choices.now.width) c.deref.ensures.value ∙ long

pub returns-then-is_one_accepting : goal.returns-then-is_one_accepting
returns-then-is_one_accepting c =
    let a = c.args.index.now in
    let t = view c.args.t.now in
    let front = c.front-item.result.items in
    let at = front_at _ c.fronts-front-items.result.now c.fronts-front-items.ensures c.loop-front.front-index c.front-item.result c.loop-front-test.true c.front-item.is in
    let is : c.in_ok-batch.batch ≡ batch_at c.args.choices.now c.front-item.result.items = c.in_ok-batch.ensures ∙ ap (batch_at c.args.choices.now) c.deref.ensures.value in (
      λ h. absurd (false≢true h),
      λ ex.
          absurd
          (not_excluded a t c.args.choices.now c.requires.choices front (place_among c.args.choices.now.fronts c.loop-front.front-index front at) c.in_ok-reached.reached
          (subst (λ (b : Batch). AreWhere b (ReachBy (Finds a) t) c.in_ok-reached.reached) is c.in_ok-reached.ensures)
          (subst (λ (x : Automaton). IsOneAccepting x c.in_ok-reached.reached) (sym c.requires.index) (c.if-is_one_accepting.ensures.0 refl))
          (subst (λ (x : Automaton). Excludes a.symbols x t) (sym c.requires.index) ex)),
    )

pub loop-front-preserved : goal.loop-front-preserved
loop-front-preserved c =
    let a = c.args.index.now in
    let t = view c.args.t.now in
    let front = c.front-item.result.items in
    let at = front_at _ c.fronts-front-items.result.now c.fronts-front-items.ensures c.loop-front.front-index c.front-item.result c.loop-front-test.true c.front-item.is in
    let is : c.in_ok-batch.batch ≡ batch_at c.args.choices.now c.front-item.result.items = c.in_ok-batch.ensures ∙ ap (batch_at c.args.choices.now) c.deref.ensures.value in
    below_more a t (IsNot a t) c.args.choices.now c.requires.choices c.loop-front.front-index front at c.loop-front.invariant
    (none_in a t c.args.choices.now c.requires.choices front (place_among c.args.choices.now.fronts c.loop-front.front-index front at) c.in_ok-reached.reached
    (subst (λ (b : Batch). AreWhere b (ReachBy (Finds a) t) c.in_ok-reached.reached) is c.in_ok-reached.ensures)
    (λ h. false≢true (c.if-is_one_accepting.ensures.1 (subst (λ (x : Automaton). IsOneAccepting x c.in_ok-reached.reached) c.requires.index h))))

pub returns : goal.returns
returns c =
    let a = c.args.index.now in
    let t = view c.args.t.now in
    let past = fronts_end _ c.fronts-front-items.result.now c.fronts-front-items.ensures c.loop-front.front-index c.loop-front-test.false in (
      λ _.
          subst (λ (x : Automaton). Excludes a.symbols x t) c.requires.index
          (excluded a t (throughout a t (IsNot a t) c.args.choices.now c.requires.choices c.loop-front.front-index past c.loop-front.invariant)),
      λ _. refl,
    )
