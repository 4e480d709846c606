use Rattle.std.proofs.Common.{refl, sym, subst, map, Err, Ok}
use Rattle.term_core.specs.View.{view}
use Rattle.term_core.proofs.Rules.{handed_on}
use Rattle.cert_model.specs.CertificateView.{redex_view}
use Rattle.rule_index.specs.Parts.{part}
use Rattle.rule_index.proofs.Numbers.{number_some}
use Rattle.redex_conditions.specs.Judged.{IsJudgedOn}
use Rattle.redex_conditions.specs.Redexes.{places, part_redexes}
use Rattle.noncon_check.specs.Walks.{PlacesAnswer}
use Rattle.noncon_check.proofs.Parts.{next_rule, rule_fails, rules_end}
use Rattle.noncon_check.proofs.redexes.Judge.judge_part.Goals as goal

pub judge_rule-requires-clause-number : goal.judge_rule-requires-clause-number
judge_rule-requires-clause-number c =
    let sys = c.args.self.now.sys.now in
    let u = view c.args.part.now in
    number_some sys u _ _ c.rules_at-numbers.ensures c.loop-number-test.true

pub loop-number-init : goal.loop-number-init
loop-number-init c a h =
    let sys = c.args.self.now.sys.now in
    let u = view c.args.part.now in
    subst (λ ns. PlacesAnswer (IsJudgedOn sys c.args.self.now.own u) (map redex_view c.args.self.now.entries.now) c.args.at (places sys c.args.self.now.which (part c.args.path.now u) ns) a)
    c.rules_at-numbers.ensures h

pub returns-in_err-next : goal.returns-in_err-next
returns-in_err-next c =
    let sys = c.args.self.now.sys.now in
    let u = view c.args.part.now in
    subst (λ a. PlacesAnswer (IsJudgedOn sys c.args.self.now.own u) (map redex_view c.args.self.now.entries.now) c.args.at (part_redexes sys c.args.self.now.which (part c.args.path.now u)) a)
    (sym (handed_on _ _ c.from_residual.ensures.1))
    (c.loop-number.invariant (Err c.in_err-next.field-0.0) (rule_fails _ _ sys _ (part c.args.path.now u) _ _ _ c.loop-number-test.true refl _ _ c.in_err-next.ensures))

pub loop-number-preserved : goal.loop-number-preserved
loop-number-preserved c a h = c.loop-number.invariant a (next_rule _ _ c.args.self.now.sys.now _ (part c.args.path.now (view c.args.part.now)) _ _ _ c.loop-number-test.true
    refl _ _ a c.in_ok-next.ensures h)

pub returns : goal.returns
returns c = c.loop-number.invariant (Ok c.loop-number.next) (rules_end _ _ c.args.self.now.sys.now _ (part c.args.path.now (view c.args.part.now)) _ _ _ c.loop-number-test.false)
