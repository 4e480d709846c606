use Rattle.std.proofs.Common.{◌≡◌, ◌+◌, map, length, ap, ◌∙◌, subst, arith}
use Rattle.std.proofs.lemmas.List.{length-map}
use Rattle.rewriting.specs.Unraveling.{heads}
use Rattle.term_core.specs.Prelude.{head_view, rule_view}
use Rattle.grid_search.specs.Needed.{DoNeedBelow, numbers_needing}
use Rattle.grid_search.proofs.Needed.{unraveled_need}
use Rattle.grid_search.proofs.prefix.PrefixJudge.new.Goals as goal

pub numbers_by_need-requires-clause-needs : goal.numbers_by_need-requires-clause-needs
numbers_by_need-requires-clause-needs c =
    let made = c.in_ok-unraveled.ensures in
    let u = c.in_ok-unraveled.unraveled in
    let symbols = map head_view u.heads.items in
    let count : length symbols + 1 ≡ c.len.result + 1 = (let many = length-map u.heads.items head_view in let held = u.heads.ok.0 in let len = c.len.ensures in omega (arith, many, held, len)) in
    subst (λ n. DoNeedBelow n (map rule_view c.rules-rules.result.now)) count
    (unraveled_need c.args.sys.now u.system symbols (map rule_view c.rules-rules.result.now) made.system made.heads c.rules-rules.ensures.sound c.rules-rules.ensures.rules)

pub invariant_of-result : goal.invariant_of-result
invariant_of-result c =
    let made = c.in_ok-unraveled.ensures in
    let u = c.in_ok-unraveled.unraveled in
    let symbols : length (map head_view u.heads.items) ≡ length (heads c.args.sys.now) = ap length made.heads in
    record {
      sound = c.rules-own_rules.ensures.sound;
      made = made;
      as_many = (let many = length-map u.heads.items head_view in let held = u.heads.ok.0 in let len = c.len.ensures in let count = c.in_ok-completed.ensures.count in
          omega (arith, symbols, many, held, len, count));
      completed = λ k. c.in_ok-completed.ensures.listed k ∙ ap (numbers_needing k 1) (c.rules-rules.ensures.rules ∙ ap (λ z. z.rules) made.system);
    }
