use Rattle.std.proofs.Common.{List, ℕ, [], ◌∷◌, ◌++◌, ◌∙◌, ap, sym, subst, append_assoc, take}
use Rattle.std.specs.List.{AllZip}
use Rattle.number_sets.specs.Sets.{members}
use Rattle.number_sets.specs.declared.rows.NumberRelation.{NumberRelation}
use Rattle.automaton_runs.specs.Choices.{as_lists}
use Rattle.automaton_runs.specs.Possible.{IsAnywhere}
use Rattle.automaton_runs.proofs.BatchParts.{lists_more}
use Rattle.automaton_runs.proofs.Zips.{zip_push}
use Rattle.automaton_runs.proofs.possible.put_anywhere.Goals as goal

pub loop-pool-preserved : goal.loop-pool-preserved
loop-pool-preserved c =
    let all = members c.args.all.now in
    let r = c.in_ok-anywhere.field-0 in
    let (made, is, each) = c.loop-pool.invariant in
    let more = lists_more c.args.pools.now c.loop-pool.pool-index c.pool-item.result c.loop-pool-test.true c.pool-item.is in
    let here = subst (λ (qs : List ℕ). IsAnywhere (members c.args.all.now) qs c.in_ok-anywhere.field-0) c.deref.ensures.value c.in_ok-anywhere.ensures in (
      made ++ c.in_ok-anywhere.field-0 ∷ [],
      c.in_ok-push.ensures.items ∙ ap (λ (l : List NumberRelation). l ++ c.in_ok-anywhere.field-0 ∷ []) is ∙ append_assoc c.args.places.now.items made (c.in_ok-anywhere.field-0 ∷ []),
      subst (λ (ls : List (List ℕ)). AllZip (IsAnywhere (members c.args.all.now)) ls (made ++ c.in_ok-anywhere.field-0 ∷ [])) (sym more)
          (zip_push (IsAnywhere (members c.args.all.now)) (as_lists (take c.loop-pool.pool-index c.args.pools.now)) made c.pool-item.result.items c.in_ok-anywhere.field-0 each here),
    )
