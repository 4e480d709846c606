use Rattle.std.proofs.Common.{◌↔◌, ◌<◌, ◌∙◌, ℕ, length, sym, subst}
use Rattle.std.proofs.lemmas.List.{length-map}
use Rattle.std.proofs.lemmas.Result.{IfOk-weaker}
use Rattle.rewriting.specs.Lists.{IsAmong}
use Rattle.number_sets.specs.Sets.{members}
use Rattle.number_sets.specs.declared.rows.NumberRelation.{NumberRelation}
use Rattle.term_core.specs.View.{view}
use Rattle.automaton_runs.specs.Choices.{as_lists}
use Rattle.automaton_runs.specs.Possible.{MayReach, ArePossible}
use Rattle.automaton_runs.proofs.MayArrive.{possible_are}
use Rattle.automaton_runs.proofs.possible.possible.Goals as goal

pub returns : goal.returns
returns c =
    let a = c.args.index.now in
    let t = view c.args.t.now in
    let fronts = as_lists c.args.fronts.now in
    let pools = as_lists c.args.pools.now in
    let all = members c.in_ok-all.all in
    let rs = c.in_ok-places.places.items in
    let (made, is, each) = c.in_ok-put_anywhere.ensures in
    let count = length-map c.args.fronts.now (λ v. v.items) in
    let numbers : (k : ℕ) → IsAmong k (members c.in_ok-all.all) ↔ (k < length (as_lists c.args.fronts.now)) = λ k. subst (λ (n : ℕ). IsAmong k (members c.in_ok-all.all) ↔ (k < n))
    (sym count) (c.in_ok-all.ensures k) in
    let may : MayReach c.args.index.now (members c.in_ok-all.all) c.deref.result.now (view c.in_ok-linear.field-0) c.relation.result.now =
    subst (λ (r : NumberRelation). MayReach c.args.index.now (members c.in_ok-all.all) c.deref.result.now (view c.in_ok-linear.field-0) r) (sym c.relation.ensures) c.in_ok-reached.ensures in
    IfOk-weaker c.rights.result _ (λ set. ArePossible c.args.index.now (view c.args.t.now) (as_lists c.args.fronts.now) (as_lists c.args.pools.now) (members set))
    (λ set h. possible_are fronts pools rs made all c.in_ok-places.ensures.each each a t (view c.in_ok-linear.field-0) c.args.start c.deref.result.now c.relation.result.now
    (members set) (c.deref.ensures.value ∙ is) c.in_ok-linear.ensures
    c.in_ok-places.ensures.long numbers c.requires.long may h) c.rights.ensures
