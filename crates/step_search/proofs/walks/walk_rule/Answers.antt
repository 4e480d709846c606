use Rattle.std.proofs.Common.{suc, [], ◌∷◌, map, drop, sym, ◌∙◌, subst, arith}
use Rattle.term_core.specs.RuleView.{condition_view}
use Rattle.simplifications.proofs.Rules.{split_at}
use Rattle.simplified_spaces.specs.Tries.{tries_of}
use Rattle.step_search.proofs.Places.{taken_more}
use Rattle.step_search.proofs.Known.{few_conds, its_try, all_taken}
use Rattle.step_search.proofs.Segments.{SoFar, nothing_yet, part_ends, part_fails, part_done, all_done}
use Rattle.step_search.proofs.walks.walk_rule.Goals as goal

pub overflow_cast-count : goal.overflow_cast-count
overflow_cast-count c =
    let few = few_conds c.args.sys.now c.args.number c.args.rule.now c.rules_are_sound.ensures c.requires in
    let long = c.len.ensures ∙ c.args.rule.now.conds.ok.0 in
    omega (arith, few, long)

pub overflow_mul-count : goal.overflow_mul-count
overflow_mul-count c =
    let few = few_conds c.args.sys.now c.args.number c.args.rule.now c.rules_are_sound.ensures c.requires in
    let long = c.len.ensures ∙ c.args.rule.now.conds.ok.0 in
    omega (arith, few, long)

pub overflow_add-count : goal.overflow_add-count
overflow_add-count c =
    let few = few_conds c.args.sys.now c.args.number c.args.rule.now c.rules_are_sound.ensures c.requires in
    let long = c.len.ensures ∙ c.args.rule.now.conds.ok.0 in
    omega (arith, few, long)

pub walk_one-requires-clause-few : goal.walk_one-requires-clause-few
walk_one-requires-clause-few c = few_conds c.args.sys.now c.args.number c.args.rule.now c.rules_are_sound.ensures c.requires

pub returns-in_err-end : goal.returns-in_err-end
returns-in_err-end c =
    let xs = tries_of c.args.number (map condition_view c.args.rule.now.conds.items) in
    let k = c.tries.place in
    let it = its_try c.args.rule.now c.args.number c.len.result c.len.ensures c.if-is_empty.ensures k c.tries-test.true in
    part_fails c.tries.invariant c.walk_one.new.budget xs (it.0 ∷ []) (drop (suc k) xs) (split_at xs k it.0 it.1) c.from_residual.result c.from_residual.ensures.0 (c.in_err-end.ensures it.0 it.1)

pub returns-in_default : goal.returns-in_default
returns-in_default c =
    let xs = tries_of c.args.number (map condition_view c.args.rule.now.conds.items) in
    let k = c.tries.place in
    let it = its_try c.args.rule.now c.args.number c.len.result c.len.ensures c.if-is_empty.ensures k c.tries-test.true in
    part_ends c.tries.invariant c.walk_one.new.budget xs (it.0 ∷ []) (drop (suc k) xs) (split_at xs k it.0 it.1) c.in_ok-end.end c.in_default.not-Nothing (c.in_ok-end.ensures it.0 it.1)

pub tries-init : goal.tries-init
tries-init c = nothing_yet c.args.sys.now c.args.budget.now

pub tries-preserved : goal.tries-preserved
tries-preserved c =
    let xs = tries_of c.args.number (map condition_view c.args.rule.now.conds.items) in
    let k = c.tries.place in
    let it = its_try c.args.rule.now c.args.number c.len.result c.len.ensures c.if-is_empty.ensures k c.tries-test.true in
    subst (λ z. SoFar c.args.sys.now z c.args.budget.now c.walk_one.new.budget) (sym (taken_more xs k it.0 it.1))
    (part_done c.tries.invariant c.walk_one.new.budget xs (it.0 ∷ []) (drop (suc k) xs) (split_at xs k it.0 it.1) c.in_ok-end.end c.in-Nothing.is (c.in_ok-end.ensures it.0 it.1))

pub returns : goal.returns
returns c =
    all_done c.tries.invariant (tries_of c.args.number (map condition_view c.args.rule.now.conds.items))
    (all_taken c.args.rule.now c.args.number c.len.result c.len.ensures c.if-is_empty.ensures c.tries.place c.tries-test.false)
