use Rattle.std.proofs.Common.{◌≡◌, ◌+◌, ◌-◌, ◌∙◌, [], length, take, sym, ap, arith}
use Rattle.rule_index.specs.Levels.{later_parts, levels_of}
use Rattle.rule_index.proofs.Deepest.{some_levels, no_levels, low, number_fits, first_small, taken_levels, taken_parts, left_levels, left_parts, none_above, nothing}
use Rattle.rule_index.proofs.parts.next_argument.Goals as goal
use Rattle.rule_index.proofs.parts.next_argument.Goals.{After-index-rest}

-- the deepest level's number, from 0
last : (c : After-index-rest) → (c.len-last.result - 1) + 1 ≡ length c.levels.later.items
last c =
    let some = some_levels c.levels.later.len _ c.is_empty.ensures c.levels-test.true in
    let is = c.len-last.ensures in
    let long = c.levels.later.ok.0 in
    omega (arith, some, is, long)

pub index_mut-requires-in-Some : goal.index_mut-requires-in-Some
index_mut-requires-in-Some c =
    let below = low c.levels.path.items c.levels.later.items c.levels.invariant.levels (c.len-last.result - 1) (last (goal.at.index_mut-requires-in-Some c).After-index-rest)
    c.index-rest.result.now c.index-rest.ensures in
    let long = c.levels.path.ok.0 in
    omega (arith, below, long)

pub overflow_add-index_mut : goal.overflow_add-index_mut
overflow_add-index_mut c =
    let few =
    number_fits c.levels.path.items c.levels.later.items c.levels.invariant.levels (c.len-last.result - 1) (last (goal.at.overflow_add-index_mut c).After-index-rest)
    c.index-rest.result.now c.index-rest.ensures
    c.in-Some.part.now c.in-Some.others c.in-Some.ensures.cases.0 c.index_mut-in-Some.result.now c.index_mut-in-Some.ensures.value in
    omega (arith, few)

pub returns-in-Some-clause-levels : goal.returns-in-Some-clause-levels
returns-in-Some-clause-levels c =
    taken_levels c.levels.path.items c.levels.later.items c.levels.invariant.levels (c.len-last.result - 1) (last (goal.at.returns-in-Some-clause-levels c).After-index-rest)
    c.index-rest.result.now c.index-rest.ensures
    c.in-Some.part.now c.in-Some.others c.in-Some.ensures.cases.0 c.index_mut-in-Some.result.now c.index_mut-in-Some.ensures.value

pub returns-in-Some-clause-next : goal.returns-in-Some-clause-next
returns-in-Some-clause-next c =
    let end = last (goal.at.returns-in-Some-clause-next c).After-index-rest in (
      first_small c.levels.path.items c.levels.later.items c.levels.invariant.levels (c.len-last.result - 1) end c.index-rest.result.now c.index-rest.ensures c.in-Some.part.now
          c.in-Some.others c.in-Some.ensures.cases.0
          c.index_mut-in-Some.result.now c.index_mut-in-Some.ensures.value,
      c.levels.invariant.parts
          ∙ taken_parts c.levels.path.items c.levels.later.items c.levels.invariant.levels (c.len-last.result - 1) end c.index-rest.result.now c.index-rest.ensures
          c.in-Some.part.now c.in-Some.others c.in-Some.ensures.cases.0
          c.index_mut-in-Some.result.now c.index_mut-in-Some.ensures.value,
    )

pub levels-preserved : goal.levels-preserved
levels-preserved c =
    let k = c.len-last.result - 1 in
    let end = last (goal.at.levels-preserved c).After-index-rest in
    let later = c.levels.later.items in
    let path = c.levels.path.items in
    let few = c.len-last.ensures in
    let below = low path later c.levels.invariant.levels k end c.index-rest.result.now c.index-rest.ensures in
    let one : c.levels.later.len - 1 ≡ k = ap (λ n. n - 1) (sym few) in
    let two : c.levels.path.len - 1 ≡ k = none_above path later c.levels.invariant.levels k end c.index-rest.result.now c.index-rest.ensures c.levels.path.len c.levels.path.ok.0 in
    record {
      levels = left_levels path later c.levels.invariant.levels k end c.index-rest.result.now c.index-rest.ensures c.in_default.ensures.variant.1 _ _
          (c.pop-in-levels.ensures.rest ∙ ap (λ n. take n path) two) (c.pop.ensures.rest ∙ ap (λ n. take n later) one);
      parts =
          c.levels.invariant.parts
          ∙ left_parts path later c.levels.invariant.levels k end c.index-rest.result.now c.index-rest.ensures c.in_default.ensures.variant.1 _ _
          (c.pop-in-levels.ensures.rest ∙ ap (λ n. take n path) two) (c.pop.ensures.rest ∙ ap (λ n. take n later) one);
    }

pub returns-clause-next : goal.returns-clause-next
returns-clause-next c =
    let none = no_levels c.levels.later.items c.levels.later.len _ c.levels.later.ok.0 c.is_empty.ensures c.levels-test.false in
    let gone : later_parts [] c.levels.path.items (levels_of c.levels.later.items) ≡ [] = nothing c.levels.path.items c.levels.later.items none in
    (c.levels.invariant.parts ∙ gone, gone)
