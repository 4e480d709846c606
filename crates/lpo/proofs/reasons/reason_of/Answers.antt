use Rattle.std.proofs.Common.{◌≡◌, ◌∙◌, ◌+◌, ap, map, length, subst, arith, Err}
use Rattle.rewriting.specs.Unraveling.{unraveled_rule}
use Rattle.term_core.specs.RuleView.{rule_view}
use Rattle.unravel.specs.RuleAnswers.{OneRuleAnswers}
use Rattle.unravel.proofs.Progress.{terms_fit_here, front_room, front_fail}
use Rattle.lpo.proofs.FirstReason.{Walk, walk_begin, walk_room, walk_next, walk_finish}
use Rattle.lpo.proofs.reasons.reason_of.Goals as goal

pub loop-i-init : goal.loop-i-init
loop-i-init c = walk_begin c.args.first c.args.rules.now c.args.shape c.args.places.now

pub rules_of_one-requires-clause-fits : goal.rules_of_one-requires-clause-fits
rules_of_one-requires-clause-fits c = terms_fit_here c.args.rules.now c.loop-i.i c.index-rules-i.result c.requires.fits c.loop-i-test.true c.index-rules-i.is

pub rules_of_one-requires-clause-symbols : goal.rules_of_one-requires-clause-symbols
rules_of_one-requires-clause-symbols c =
    let room = front_room c.args.first c.args.rules.now c.loop-i.i c.loop-i.symbol c.index-rules-i.result c.loop-i.invariant.front c.loop-i-test.true c.index-rules-i.is in
    let few = c.requires.symbols in
    omega (arith, room, few)

pub returns-in-Err-TooLarge : goal.returns-in-Err-TooLarge
returns-in-Err-TooLarge c =
    let large = subst (λ e. OneRuleAnswers (unraveled_rule c.loop-i.symbol (rule_view c.index-rules-i.result)) (Err e)) c.in-Err-TooLarge.field-0-is c.in-Err-TooLarge.ensures in
    front_fail c.args.first c.args.rules.now c.loop-i.i c.loop-i.symbol c.index-rules-i.result c.loop-i.invariant.front c.loop-i-test.true c.index-rules-i.is large

pub reason_with-reason-requires : goal.reason_with-reason-requires
reason_with-reason-requires c =
    let made = ap (map rule_view) c.deref.ensures.value ∙ c.in-Ok.ensures.0 in
    let room = walk_room c.args.first c.args.rules.now c.args.shape c.args.places.now c.loop-i.i c.loop-i.symbol c.loop-i.before c.loop-i.reason c.index-rules-i.result
    c.deref.result.now c.loop-i.invariant c.loop-i-test.true c.index-rules-i.is made in
    let few = c.requires.few in
    omega (arith, room, few)

pub raised-before-requires : goal.raised-before-requires
raised-before-requires c =
    let room = walk_room c.args.first c.args.rules.now c.args.shape c.args.places.now c.loop-i.i c.loop-i.symbol c.loop-i.before c.loop-i.reason c.index-rules-i.result
    c.in-Ok.unraveled.items c.loop-i.invariant c.loop-i-test.true c.index-rules-i.is c.in-Ok.ensures.0 in
    let count = c.len.ensures ∙ c.in-Ok.unraveled.ok.0 in
    let few = c.requires.few in
    omega (arith, room, count, few)

pub raised-symbol-requires : goal.raised-symbol-requires
raised-symbol-requires c =
    let room = front_room c.args.first c.args.rules.now c.loop-i.i c.loop-i.symbol c.index-rules-i.result c.loop-i.invariant.front c.loop-i-test.true c.index-rules-i.is in
    let count = c.len-in-loop-i.ensures ∙ c.index-rules-i.result.conds.ok.0 in
    let few = c.requires.symbols in
    omega (arith, room, count, few)

pub loop-i-preserved : goal.loop-i-preserved
loop-i-preserved c =
    let made = ap (map rule_view) c.deref.ensures.value ∙ c.in-Ok.ensures.0 in
    let next = walk_next c.args.first c.args.rules.now c.args.shape c.args.places.now c.loop-i.i c.loop-i.symbol c.loop-i.before c.loop-i.reason c.index-rules-i.result
    c.deref.result.now c.loop-i.invariant c.loop-i-test.true c.index-rules-i.is made
    c.reason_with-reason.result c.in-Ok.ensures.1 c.reason_with-reason.ensures in
    let symbol : c.loop-i.symbol + length c.index-rules-i.result.conds.items ≡ c.raised-symbol.result =
    omega (arith, c.raised-symbol.ensures, (c.len-in-loop-i.ensures ∙ c.index-rules-i.result.conds.ok.0)) in
    let before : c.loop-i.before + length c.deref.result.now ≡ c.raised-before.result =
    omega (arith, c.raised-before.ensures, (c.len.ensures ∙ c.in-Ok.unraveled.ok.0), ap length c.deref.ensures.value) in
    subst (λ n. Walk c.args.first c.args.rules.now c.args.shape c.args.places.now (c.loop-i.i + 1) n c.raised-before.result c.reason_with-reason.result) symbol
    (subst (λ n. Walk c.args.first c.args.rules.now c.args.shape c.args.places.now (c.loop-i.i + 1) (c.loop-i.symbol + length c.index-rules-i.result.conds.items) n
    c.reason_with-reason.result) before next)

pub returns : goal.returns
returns c = walk_finish c.args.first c.args.rules.now c.args.shape c.args.places.now c.loop-i.i c.loop-i.symbol c.loop-i.before c.loop-i.reason c.loop-i.invariant c.loop-i-test.false
