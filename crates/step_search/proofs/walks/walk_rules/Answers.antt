use Rattle.std.proofs.Common.{◌≡◌, ◌+◌, suc, map, drop, slice_get, Some, add-one, sym, ap, ◌∙◌, subst, arith}
use Rattle.std.proofs.lemmas.List.{take_all, length-map}
use Rattle.general_lemmas.proofs.Places.{slice_get-map_read}
use Rattle.term_core.specs.RuleView.{rule_view}
use Rattle.simplified_spaces.specs.Tries.{tries, tries_of, tries_from}
use Rattle.step_search.proofs.Places.{rule_tries, more_tries}
use Rattle.step_search.proofs.Segments.{SoFar, nothing_yet, part_ends, part_fails, part_done, all_done}
use Rattle.step_search.proofs.walks.walk_rules.Goals as goal

pub walk_rule-requires : goal.walk_rule-requires
walk_rule-requires c =
    rw add-one
    (subst (λ rs. slice_get rs c.rules.i ≡ Some (rule_view c.index-rules-i.result)) c.rules-rules.ensures.rules
    (slice_get-map_read rule_view c.rules-rules.result.now c.rules.i c.index-rules-i.result c.rules-test.true c.index-rules-i.is))

pub returns-in_err-end : goal.returns-in_err-end
returns-in_err-end c =
    let rs = map rule_view c.rules-rules.result.now in
    let k = c.rules.i in
    let at = slice_get-map_read rule_view c.rules-rules.result.now k c.index-rules-i.result c.rules-test.true c.index-rules-i.is in
    let all = ap (tries_from 1) (sym c.rules-rules.ensures.rules) ∙ rule_tries rs k (rule_view c.index-rules-i.result) at in
    part_fails c.rules.invariant c.walk_rule.new.budget (tries c.args.sys.now) (tries_of (k + 1) (rule_view c.index-rules-i.result).conditions)
    (tries_from (suc (k + 1)) (drop (suc k) rs)) all c.from_residual.result c.from_residual.ensures.0 c.in_err-end.ensures

pub returns-in_default : goal.returns-in_default
returns-in_default c =
    let rs = map rule_view c.rules-rules.result.now in
    let k = c.rules.i in
    let at = slice_get-map_read rule_view c.rules-rules.result.now k c.index-rules-i.result c.rules-test.true c.index-rules-i.is in
    let all = ap (tries_from 1) (sym c.rules-rules.ensures.rules) ∙ rule_tries rs k (rule_view c.index-rules-i.result) at in
    part_ends c.rules.invariant c.walk_rule.new.budget (tries c.args.sys.now) (tries_of (k + 1) (rule_view c.index-rules-i.result).conditions)
    (tries_from (suc (k + 1)) (drop (suc k) rs)) all c.in_ok-end.end c.in_default.not-Nothing c.in_ok-end.ensures

pub rules-init : goal.rules-init
rules-init c = nothing_yet c.args.sys.now c.args.budget.now

pub rules-preserved : goal.rules-preserved
rules-preserved c =
    let rs = map rule_view c.rules-rules.result.now in
    let k = c.rules.i in
    let at = slice_get-map_read rule_view c.rules-rules.result.now k c.index-rules-i.result c.rules-test.true c.index-rules-i.is in
    let all = ap (tries_from 1) (sym c.rules-rules.ensures.rules) ∙ rule_tries rs k (rule_view c.index-rules-i.result) at in
    subst (λ z. SoFar c.args.sys.now z c.args.budget.now c.walk_rule.new.budget) (sym (more_tries rs k (rule_view c.index-rules-i.result) at))
    (part_done c.rules.invariant c.walk_rule.new.budget (tries c.args.sys.now) (tries_of (k + 1) (rule_view c.index-rules-i.result).conditions)
    (tries_from (suc (k + 1)) (drop (suc k) rs)) all c.in_ok-end.end c.in-Nothing.is c.in_ok-end.ensures)

pub returns : goal.returns
returns c =
    let rs = map rule_view c.rules-rules.result.now in
    let long = length-map c.rules-rules.result.now rule_view in
    let end = c.rules-test.false in
    all_done c.rules.invariant (tries c.args.sys.now) (ap (tries_from 1) (take_all c.rules.i rs (omega (arith, long, end)) ∙ c.rules-rules.ensures.rules))
