use Rattle.std.proofs.Common.{◌≡◌, ◌∙◌, ap, sym, length, arith, add-one}
use Rattle.std.proofs.lemmas.List.{length-map}
use Rattle.term_core.specs.RuleView.{rule_view}
use Rattle.portfolio.proofs.StepOrigins.{next_own, own_origins, numbers_behind}
use Rattle.portfolio.proofs.untouched.all_numbers.Goals as goal

pub loop-place-preserved : goal.loop-place-preserved
loop-place-preserved c = c.in_ok-push.ensures.items ∙ next_own c.loop-place.place _ c.loop-place.numbers.items (add-one c.loop-place.place) c.loop-place.invariant

pub returns : goal.returns
returns c =
    let below = c.loop-place.auto.place-end in
    let all : c.loop-place.place ≡ length c.rules-rules.result.now = omega (arith, below, c.loop-place-test.false) in
    let rules = sym (length-map c.rules-rules.result.now rule_view) ∙ ap length c.rules-rules.ensures.rules in
    own_origins c.args.sys.now c.loop-place.numbers.items (c.loop-place.invariant ∙ ap (numbers_behind 0) (all ∙ rules))
