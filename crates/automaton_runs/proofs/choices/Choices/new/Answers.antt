use Rattle.std.proofs.Common.{◌≡◌, ◌-◌, ◌≤◌, ◌∙◌, List, ℕ, Vec, Global, length, take, drop, ap, sym, subst, length-drop, arith}
use Rattle.std.proofs.lemmas.List.{length-map}
use Rattle.std.proofs.lemmas.Result.{IfOk-weaker}
use Rattle.term_core.specs.View.{view}
use Rattle.rewriting.specs.Lists.{IsAmong}
use Rattle.automaton_runs.specs.Choices.{as_lists, choices_of, Tails, AreChoices}
use Rattle.automaton_runs.specs.Possible.{AreFronts}
use Rattle.automaton_runs.proofs.ChoiceLists.{of_choices, of_long}
use Rattle.automaton_runs.proofs.MadeChoices.{choices_are, zeros_are}
use Rattle.automaton_runs.proofs.choices.Choices.new.Goals as goal

pub returns-then-states-eq1 : goal.returns-then-states-eq1
returns-then-states-eq1 c =
    let a = c.args.index.now in
    let t = view c.args.t.now in
    IfOk-weaker c.zeros.result _ (AreChoices c.args.index.now (view c.args.t.now))
    (λ choices is. subst (AreChoices c.args.index.now (view c.args.t.now)) (sym is)
    (zeros_are c.args.index.now (view c.args.t.now) c.len.result (sym c.states.ensures ∙ c.if-states-eq1.true) (c.len.ensures ∙ c.in_ok-occurrences.field-0.ok.0
    ∙ ap length c.in_ok-occurrences.ensures))) c.zeros.ensures

pub new-requires-clause-wide : goal.new-requires-clause-wide
new-requires-clause-wide c list h =
    let pools = as_lists c.deref.result.now in
    let there = subst (λ (ls : List (List ℕ)). IsAmong list ls) c.in_ok-start.ensures.choices h in
    let count : c.len-2.result ≡ length c.deref.result.now = c.len-2.ensures ∙ c.in_ok-pools.pools.ok.0 ∙ ap length (sym c.deref.ensures.value) in
    let long = of_long (drop c.in_ok-start.start (as_lists c.deref.result.now)) list (of_choices (drop c.in_ok-start.start (as_lists c.deref.result.now)) list there) in
    omega (arith, length-drop c.in_ok-start.start (as_lists c.deref.result.now), length-map c.deref.result.now (λ v. v.items))

pub returns : goal.returns
returns c =
    let a = c.args.index.now in
    let t = view c.args.t.now in
    let start = c.in_ok-start.start in
    let pools = as_lists c.in_ok-pools.pools.items in
    let fronts = as_lists c.in_ok-fronts.fronts.items in
    let lists = as_lists c.in_ok-start.lists.items in
    let count : c.len-2.result ≡ length (as_lists c.in_ok-pools.pools.items) = c.len-2.ensures ∙ c.in_ok-pools.pools.ok.0 ∙ sym (length-map c.in_ok-pools.pools.items (λ v. v.items)) in
    let within : c.in_ok-start.start ≤ length (as_lists c.in_ok-pools.pools.items) =
    omega (arith, c.in_ok-start.ensures.within, length-map c.in_ok-pools.pools.items (λ v. v.items), ap length c.deref.ensures.value) in
    let firsts = subst (λ (vs : List (Vec ℕ Global)). AreFronts a t (take start (as_lists vs)) (drop start (as_lists vs)) fronts) c.deref-2.ensures.value c.in_ok-fronts.ensures in
    let last = subst (λ (vs : List (Vec ℕ Global)). lists ≡ choices_of (drop start (as_lists vs))) c.deref.ensures.value c.in_ok-start.ensures.choices in
    let whole = choices_are a t pools c.in_ok-pools.ensures start within fronts lists firsts last in
    subst (λ (x : Tails). AreChoices a t (record { fronts = fronts; width = x.width; tails = x.lists })) (sym c.in_ok-tails.ensures)
    (subst (λ (n : ℕ). AreChoices a t (record { fronts = fronts; width = n - start; tails = lists })) (sym count) whole)
