use Rattle.std.proofs.Common.{◌≡◌, ◌-◌, ◌∙◌, List, ℕ, Vec, Global, length, take, drop, ap, sym, subst, arith, length-take-le}
use Rattle.std.proofs.lemmas.List.{length-map, drop-map, take-map, take_rest}
use Rattle.std.proofs.lemmas.Result.{IfOk-weaker}
use Rattle.rewriting.specs.Lists.{IsAmong}
use Rattle.number_sets.specs.Sets.{members}
use Rattle.term_core.specs.View.{view}
use Rattle.automaton_runs.specs.Choices.{as_lists, choices_of}
use Rattle.automaton_runs.specs.Possible.{ArePossible, AreChosen, AreFronts}
use Rattle.automaton_runs.proofs.MayArrive.{all_fronts, front_long, chosen_fronts}
use Rattle.automaton_runs.proofs.possible.possible_fronts.Goals as goal
use Rattle.automaton_runs.proofs.possible.possible_fronts.Goals.{In_ok-all}

-- all choices of the states before the start
choices : (c : In_ok-all) → as_lists c.in_ok-all.all.items ≡ choices_of (take c.args.start (as_lists c.args.pools.now))
choices c = c.in_ok-all.ensures ∙ ap choices_of (sym (take-map (λ v. v.items) c.args.start c.args.pools.now))

pub returns-then-len-le1 : goal.returns-then-len-le1
returns-then-len-le1 c =
    let pools = as_lists c.args.pools.now in
    let is = choices (goal.at.returns-then-len-le1 c).In_ok-all in
    all_fronts c.args.index.now (view c.args.t.now) (take c.args.start pools) (drop c.args.start pools) (as_lists c.in_ok-all.all.items) is

pub possible-requires-clause-long : goal.possible-requires-clause-long
possible-requires-clause-long c front h =
    let pools = as_lists c.args.pools.now in
    let is = choices (goal.at.possible-requires-clause-long c).In_ok-all in
    let there = subst (λ (vs : List (Vec ℕ Global)). IsAmong front (as_lists vs)) c.deref.ensures.value h in
    let long = length-map c.args.pools.now (λ v. v.items) in
    front_long c.args.index.now (view c.args.t.now) (take c.args.start pools) (drop c.args.start pools) (as_lists c.in_ok-all.all.items) is front there
    ∙ length-take-le c.args.start pools (omega (arith, c.requires.within))

pub returns : goal.returns
returns c =
    let a = c.args.index.now in
    let t = view c.args.t.now in
    let pools = as_lists c.args.pools.now in
    let all = as_lists c.in_ok-all.all.items in
    let set = members c.in_ok-set.set in
    let is = choices (goal.at.returns c).In_ok-all in
    let others : as_lists (take (length c.args.pools.now - c.args.start) (drop c.args.start c.args.pools.now)) ≡ drop c.args.start (as_lists c.args.pools.now) =
    ap as_lists (take_rest c.args.pools.now c.args.start) ∙ sym (drop-map (λ v. v.items) c.args.start c.args.pools.now) in
    let possible : ArePossible c.args.index.now (view c.args.t.now) (as_lists c.in_ok-all.all.items) (drop c.args.start (as_lists c.args.pools.now)) (members c.in_ok-set.set) =
    subst (λ (ls : List (List ℕ)). ArePossible a t all ls set) others
    (subst (λ (vs : List (Vec ℕ Global)). ArePossible a t (as_lists vs) (as_lists (take (length c.args.pools.now - c.args.start) (drop c.args.start c.args.pools.now))) set)
    c.deref.ensures.value c.in_ok-set.ensures) in
    IfOk-weaker c.chosen.result _ (λ fronts. AreFronts a t (take c.args.start pools) (drop c.args.start pools) (as_lists fronts.items))
    (λ fronts chosen. chosen_fronts a t (take c.args.start pools) (drop c.args.start pools) all is set (as_lists fronts.items) possible
    (subst (λ (vs : List (Vec ℕ Global)). AreChosen (as_lists vs) set (as_lists fronts.items)) c.deref-2.ensures.value chosen))
    c.chosen.ensures
