use Rattle.std.proofs.Common.{◌≡◌, ◌+◌, ◌∙◌, ℕ, List, length, ap, sym, subst, subst₂, Some, slice_get}
use Rattle.std.specs.Prelude.{IfSome}
use Rattle.rewriting.specs.Variables.{variable_occurrences}
use Rattle.term_core.specs.View.{view}
use Rattle.automaton_runs.specs.Choices.{Batch, occurrences_of}
use Rattle.automaton_runs.specs.Reached.{AreWhere}
use Rattle.automaton_runs.proofs.BatchParts.{front_at, fronts_end}
use Rattle.rewriting.proofs.Members.{place_among}
use Rattle.tree_automata.specs.Kept.{IsKeptBy}
use Rattle.tree_automata.specs.Batches.{batch_at, FailureInAnswers}
use Rattle.tree_automata.proofs.Batches.{throughout, open_here, below_past}
use Rattle.tree_automata.proofs.Fronts.{known_at}
use Rattle.tree_automata.proofs.closure.first_open.Goals as goal
use Rattle.tree_automata.proofs.closure.first_open.Goals.{In_ok-batch}

-- the front of the batch, and the batch
front_here : (c : In_ok-batch) → slice_get c.args.choices.now.fronts c.loop-front.front-index ≡ Some c.front-item.result.items
front_here c = front_at _ c.fronts-front-items.result.now c.fronts-front-items.ensures c.loop-front.front-index c.front-item.result c.loop-front-test.true c.front-item.is

batch_here : (c : In_ok-batch) → c.in_ok-batch.batch ≡ batch_at c.args.choices.now c.front-item.result.items
batch_here c = c.in_ok-batch.ensures ∙ ap (batch_at c.args.choices.now) c.deref.ensures.value

pub first_open_in-requires-clause-length : goal.first_open_in-requires-clause-length
first_open_in-requires-clause-length c =
    let at = front_here (goal.at.first_open_in-requires-clause-length c).In_ok-batch in
    let long = c.requires.choices.long c.front-item.result.items (place_among c.args.choices.now.fronts c.loop-front.front-index c.front-item.result.items at) in
    ap occurrences_of c.in_ok-batch.ensures ∙ ap (λ (f : List ℕ). length f + c.args.choices.now.width) c.deref.ensures.value ∙ long
    ∙ ap length (sym (c.deref-names.ensures.value ∙ c.in_ok-held.ensures))

pub first_open_in-requires-clause-known : goal.first_open_in-requires-clause-known
first_open_in-requires-clause-known c =
    let P = IsKeptBy c.args.inclusion.now c.args.index.now c.deref-names.result.now (view c.args.rule.now.right) in
    let choices = c.args.choices.now in
    let front = c.front-item.result.items in
    let at = front_here (goal.at.first_open_in-requires-clause-known c).In_ok-batch in
    let is = batch_here (goal.at.first_open_in-requires-clause-known c).In_ok-batch in
    subst (λ (b : Batch). IfSome c.as_ref-known.result (λ r. AreWhere b P r.now)) (sym is)
    (known_at choices P c.as_ref-known.result c.in_ok-always.always c.as_ref-known.ensures.value c.in_ok-always.ensures front
    (place_among choices.fronts c.loop-front.front-index front at))

pub returns-then-is_some : goal.returns-then-is_some
returns-then-is_some c =
    let a = c.args.index.now in
    let t = view c.args.rule.now.left in
    let P : List ℕ → List ℕ → ℕ → Type 0 = λ names. IsKeptBy c.args.inclusion.now c.args.index.now names (view c.args.rule.now.right) in
    let front = c.front-item.result.items in
    let at = front_here (goal.at.returns-then-is_some c).In_ok-batch in
    let is = batch_here (goal.at.returns-then-is_some c).In_ok-batch in
    let names : c.deref-names.result.now ≡ variable_occurrences (view c.args.rule.now.left) = c.deref-names.ensures.value ∙ c.in_ok-held.ensures in
    open_here a t (P (variable_occurrences t)) c.args.choices.now c.requires.choices c.loop-front.front-index front at c.loop-front.invariant c.in_ok-open.open c.if-is_some.ensures
    (subst₂ (λ (ns : List ℕ) (b : Batch). FailureInAnswers a t (P ns) b c.in_ok-open.open) names is c.in_ok-open.ensures)

pub loop-front-preserved : goal.loop-front-preserved
loop-front-preserved c =
    let a = c.args.index.now in
    let t = view c.args.rule.now.left in
    let P : List ℕ → List ℕ → ℕ → Type 0 = λ names. IsKeptBy c.args.inclusion.now c.args.index.now names (view c.args.rule.now.right) in
    let front = c.front-item.result.items in
    let at = front_here (goal.at.loop-front-preserved c).In_ok-batch in
    let is = batch_here (goal.at.loop-front-preserved c).In_ok-batch in
    let names : c.deref-names.result.now ≡ variable_occurrences (view c.args.rule.now.left) = c.deref-names.ensures.value ∙ c.in_ok-held.ensures in
    below_past a t (P (variable_occurrences t)) c.args.choices.now c.requires.choices c.loop-front.front-index front at c.loop-front.invariant c.in_ok-open.open c.if-is_some.ensures
    (subst₂ (λ (ns : List ℕ) (b : Batch). FailureInAnswers a t (P ns) b c.in_ok-open.open) names is c.in_ok-open.ensures)

pub returns : goal.returns
returns c =
    let a = c.args.index.now in
    let t = view c.args.rule.now.left in
    let P = IsKeptBy c.args.inclusion.now a (variable_occurrences t) (view c.args.rule.now.right) in
    let past = fronts_end _ c.fronts-front-items.result.now c.fronts-front-items.ensures c.loop-front.front-index c.loop-front-test.false in
    throughout a t P c.args.choices.now c.requires.choices c.loop-front.front-index past c.loop-front.invariant
