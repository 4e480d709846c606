use Rattle.std.proofs.Common.{◌≡◌, ◌<◌, ◌⊎◌, Err, ◌∙◌, subst}
use Rattle.term_core.specs.RuleView.{rule_view}
use Rattle.simplify.specs.Inlining.{InlinedAnswers}
use Rattle.simplify.proofs.Replaced.{no_change, few_here, fit_here, no_such_condition, no_naming, too_large_here, good_inline}
use Rattle.simplify.proofs.steps.inline_condition.Goals as goal

pub returns-in_default : goal.returns-in_default
returns-in_default c = let s = c.rules-rules.ensures in no_change c.args.sys.now s.sound c.rules-rules.result.now s.rules c.args.number c.args.cond c.in_default.ensures.none

pub returns-in_default-place_of : goal.returns-in_default-place_of
returns-in_default-place_of c =
    let s = c.rules-rules.ensures in
    let p = c.in-Some.ensures.some in
    no_such_condition c.args.sys.now s.sound c.rules-rules.result.now s.rules c.args.number c.in-Some.place c.index-rules-place.result p.0 p.1 c.index-rules-place.is c.args.cond
    (subst (λ n. (c.args.cond ≡ 0) ⊎ (n < c.args.cond)) (c.len.ensures ∙ c.index-rules-place.result.conds.ok.0) c.in_default-place_of.ensures.none)

pub returns-in_default-name : goal.returns-in_default-name
returns-in_default-name c =
    let s = c.rules-rules.ensures in
    let p = c.in-Some.ensures.some in
    let q = c.in-Some-place_of.ensures.some in
    no_naming c.args.sys.now s.sound c.rules-rules.result.now s.rules c.args.number c.in-Some.place c.index-rules-place.result p.0 p.1 c.index-rules-place.is c.args.cond c.in-Some-place_of.k q.0
    (subst (λ n. c.in-Some-place_of.k < n) (c.len.ensures ∙ c.index-rules-place.result.conds.ok.0) q.1) c.in_default-name.ensures.none

pub inline-requires-clause-fits : goal.inline-requires-clause-fits
inline-requires-clause-fits c =
    let s = c.rules-rules.ensures in fit_here c.args.sys.now s.sound c.rules-rules.result.now s.rules c.in-Some.place c.index-rules-place.result c.in-Some.ensures.some.1 c.index-rules-place.is

pub inline-requires-clause-few : goal.inline-requires-clause-few
inline-requires-clause-few c =
    let s = c.rules-rules.ensures in few_here c.args.sys.now s.sound c.rules-rules.result.now s.rules c.in-Some.place c.index-rules-place.result c.in-Some.ensures.some.1 c.index-rules-place.is

pub returns-in-Ok : goal.returns-in-Ok
returns-in-Ok c =
    let s = c.rules-rules.ensures in
    let p = c.in-Some.ensures.some in
    let q = c.in-Some-place_of.ensures.some in
    good_inline c.args.sys.now s.sound c.rules-rules.result.now s.rules c.args.number c.in-Some.place c.index-rules-place.result p.0 p.1 c.index-rules-place.is c.args.cond c.in-Some-place_of.k q.0
    (subst (λ n. c.in-Some-place_of.k < n) (c.len.ensures ∙ c.index-rules-place.result.conds.ok.0) q.1) c.in-Some-name.x c.in-Some-name.ensures.some c.in-Ok.new c.in-Ok.ensures

pub unreachable-requires : goal.unreachable-requires
unreachable-requires c = rw c.in-Err-NoPosition.field-0-is at c.in-Err-NoPosition.ensures

pub returns-in-Err-TooLarge : goal.returns-in-Err-TooLarge
returns-in-Err-TooLarge c =
    let s = c.rules-rules.ensures in
    let p = c.in-Some.ensures.some in
    let q = c.in-Some-place_of.ensures.some in
    too_large_here c.args.sys.now s.sound c.rules-rules.result.now s.rules c.args.number c.in-Some.place c.index-rules-place.result p.0 p.1 c.index-rules-place.is c.args.cond c.in-Some-place_of.k q.0
    (subst (λ n. c.in-Some-place_of.k < n) (c.len.ensures ∙ c.index-rules-place.result.conds.ok.0) q.1) c.in-Some-name.x c.in-Some-name.ensures.some
    (subst (λ z. InlinedAnswers (rule_view c.index-rules-place.result) c.in-Some-place_of.k c.in-Some-name.x (Err z)) c.in-Err-TooLarge.field-0-is c.in-Err-TooLarge.ensures)
