use Rattle.std.proofs.Common.{◌≡◌, Some, map, slice_get, sym, ap, ◌∙◌, subst, arith}
use Rattle.std.proofs.lemmas.List.{length-map}
use Rattle.std.proofs.lemmas.Bool.{false≢true}
use Rattle.general_lemmas.proofs.Places.{slice_get-map_read}
use Rattle.cert_model.specs.CertificateView.{linear_entry_view}
use Rattle.term_core.specs.RuleView.{rule_view}
use Rattle.linear_interp.proofs.Judging.{one_more, all_hold}
use Rattle.grid_search.proofs.Completed.{rule_ready}
use Rattle.grid_search.proofs.Prefixes.{DoesFallWithin, dead_at, not_dead}
use Rattle.grid_search.proofs.prefix.check_prefix.Goals as goal
use Rattle.grid_search.proofs.prefix.check_prefix.Goals.{then-rule_needs-prefix+in_ok-does_fall+else-not-branch, else-rule_needs-prefix}

pub does_fall-requires : goal.does_fall-requires
does_fall-requires c =
    let h = c.requires in
    let long = length-map c.args.prefix.now linear_entry_view in
    let needs = c.rule_needs.ensures in
    let within = c.if-rule_needs-prefix.true in
    rule_ready h.system c.args.unraveled.now.system (map linear_entry_view c.args.prefix.now) c.rules-rule-items.result.now h.unraveled.system h.well h.prefix
    c.rules-rule-items.ensures.rules c.rules-rule-items.ensures.counted c.rules-rule-items.ensures.sound
    c.rules.rule-index c.rule-item.result c.rules-test.true c.rule-item.is (omega (arith, needs, within, long))

pub returns-then-not-branch : goal.returns-then-not-branch
returns-then-not-branch c =
    λ sys u.
    let es = map linear_entry_view c.args.prefix.now in
    let long = length-map c.args.prefix.now linear_entry_view in
    let needs = c.rule_needs.ensures in
    let within = c.if-rule_needs-prefix.true in
    let there = subst (λ rules. slice_get rules c.rules.rule-index ≡ Some (rule_view c.rule-item.result)) (c.rules-rule-items.ensures.rules ∙ ap (λ z. z.rules) u.system)
    (slice_get-map_read rule_view c.rules-rule-items.result.now c.rules.rule-index c.rule-item.result c.rules-test.true c.rule-item.is) in
    dead_at sys es c.rules.rule-index (rule_view c.rule-item.result) there (omega (arith, needs, within, long)) (λ f. false≢true (sym c.if-not-branch.true ∙ c.in_ok-does_fall.ensures.1 f))

pub rules-preserved : goal.rules-preserved
rules-preserved c =
    let es = map linear_entry_view c.args.prefix.now in
    let long = length-map c.args.prefix.now linear_entry_view in
    let needs = c.rule_needs.ensures in
    let holds : DoesFallWithin es (rule_view c.rule-item.result) =
    elim c.if-rule_needs-prefix.branch [
      | then-rule_needs-prefix+in_ok-does_fall+else-not-branch w ↦ λ few. w.in_ok-does_fall.ensures.0 w.if-not-branch.false
      | else-rule_needs-prefix w ↦ λ few. absurd (let more = w.if-rule_needs-prefix.false in omega (arith, more, needs, few, long))
    ] in
    one_more (DoesFallWithin es) c.rules-rule-items.result.now c.rules.rule-index c.rule-item.result c.rules.invariant c.rules-test.true c.rule-item.is holds

pub returns : goal.returns
returns c =
    λ sys u.
    let es = map linear_entry_view c.args.prefix.now in
    not_dead sys es
    (λ j r at needs.
    all_hold (DoesFallWithin es) c.rules-rule-items.result.now c.rules.rule-index c.rules.invariant c.rules-test.false j r
    (subst (λ rules. slice_get rules j ≡ Some r) (sym (c.rules-rule-items.ensures.rules ∙ ap (λ z. z.rules) u.system)) at) needs)
