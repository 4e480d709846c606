use Rattle.std.proofs.Common.{rules, ◌≡◌, ◌≤◌, ◌<◌, ◌^◌, map, length, sym, ap, ◌∙◌, subst₂, arith}
use Rattle.std.proofs.lemmas.List.{length-map}
use Rattle.rewriting.specs.Prelude.{sides, variables_of}
use Rattle.rewriting.proofs.Laws.{well_formed}
use Rattle.term_core.specs.RuleView.{condition_view}
use Rattle.query_space.specs.Variables.{past_all_variables}
use Rattle.query_space.proofs.Numbers.{as_many}
use Rattle.query_search.specs.Answers.{SearchAnswers}
use Rattle.query_search.proofs.Ending.{searched, says_true, says_nothing, enough, few_numbers}
use Rattle.query_search.proofs.answer.Goals as goal

pub try_all-requires-clause-counted : goal.try_all-requires-clause-counted
try_all-requires-clause-counted c =
    let cs = map condition_view c.args.q.now.conds.items in
    let many : past_all_variables (sides cs) ≡ length c.args.q.now.names.items = as_many (sides cs) c.requires.numbered ∙ sym c.requires.named in
    let here : c.len-count.result ≡ past_all_variables (sides cs) = grind (arith, rules, c.len-count.ensures, many) in
    here ∙ ap (λ ds. past_all_variables (sides (map condition_view ds))) (sym c.deref.ensures.value)

pub returns-clause-searched : goal.returns-clause-searched
returns-clause-searched c =
    subst₂ (λ sys ds. SearchAnswers sys (map condition_view ds) c.args.budget.now c.try_all.new.budget c.try_all.result) c.in_ok-indexed.ensures c.deref.ensures.value
    (searched c.in_ok-indexed.indexed (map condition_view c.deref.result.now) c.args.budget.now c.try_all.new.budget c.try_all.result c.try_all.ensures)

pub returns-clause-says : goal.returns-clause-says
returns-clause-says c =
    let cs = map condition_view c.args.q.now.conds.items in
    says_true c.args.sys.now cs c.args.budget.now c.try_all.new.budget (well_formed c.args.sys.now c.rules_are_sound.ensures) c.requires.over c.try_all.result
    (subst₂ (λ sys ds. SearchAnswers sys (map condition_view ds) c.args.budget.now c.try_all.new.budget c.try_all.result) c.in_ok-indexed.ensures c.deref.ensures.value
    (searched c.in_ok-indexed.indexed (map condition_view c.deref.result.now) c.args.budget.now c.try_all.new.budget c.try_all.result c.try_all.ensures))

pub returns-clause-nothing : goal.returns-clause-nothing
returns-clause-nothing c =
    says_nothing c.args.sys.now (map condition_view c.args.q.now.conds.items) c.args.budget.now c.try_all.new.budget c.try_all.result
    (subst₂ (λ sys ds. SearchAnswers sys (map condition_view ds) c.args.budget.now c.try_all.new.budget c.try_all.result) c.in_ok-indexed.ensures c.deref.ensures.value
    (searched c.in_ok-indexed.indexed (map condition_view c.deref.result.now) c.args.budget.now c.try_all.new.budget c.try_all.result c.try_all.ensures))

pub overflow_cast-count : goal.overflow_cast-count
overflow_cast-count c =
    let cs = map condition_view c.args.q.now.conds.items in
    let few : length cs ≤ 200 = (let e = length-map c.args.q.now.conds.items condition_view in let h = c.requires.few in omega (arith, e, h)) in
    let low : length (variables_of (sides cs)) < 2 ^ 32 = few_numbers cs c.requires.fit few in
    let named = c.requires.named in
    let here : c.len-count.result ≡ length c.args.q.now.names.items = grind (arith, rules, c.len-count.ensures) in
    omega (arith, low, named, here)

pub returns-clause-enough : goal.returns-clause-enough
returns-clause-enough c h =
    enough c.args.sys.now (map condition_view c.args.q.now.conds.items) c.args.budget.now c.try_all.new.budget h c.try_all.result
    (subst₂ (λ sys ds. SearchAnswers sys (map condition_view ds) c.args.budget.now c.try_all.new.budget c.try_all.result) c.in_ok-indexed.ensures c.deref.ensures.value
    (searched c.in_ok-indexed.indexed (map condition_view c.deref.result.now) c.args.budget.now c.try_all.new.budget c.try_all.result c.try_all.ensures))
