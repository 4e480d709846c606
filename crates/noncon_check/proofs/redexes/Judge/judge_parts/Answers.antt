use Rattle.std.proofs.Common.{sym, subst, map, Err}
use Rattle.term_core.specs.View.{view}
use Rattle.term_core.proofs.Rules.{handed_on}
use Rattle.cert_model.specs.CertificateView.{redex_view}
use Rattle.rule_index.specs.Parts.{part}
use Rattle.redex_conditions.specs.Judged.{IsJudgedAt}
use Rattle.redex_conditions.specs.Redexes.{redexes}
use Rattle.noncon_check.specs.Walks.{PlacesAnswer}
use Rattle.noncon_check.proofs.Parts.{next_part, part_fails}
use Rattle.rule_index.proofs.Levels.{told_part}
use Rattle.redex_conditions.proofs.Parts.{ahead_rest}
use Rattle.noncon_check.proofs.redexes.Judge.judge_parts.Goals as goal

pub returns-in_err-next : goal.returns-in_err-next
returns-in_err-next c =
    let sys = c.args.self.now.sys.now in
    let t = view c.args.end.now in
    let es = map redex_view c.args.self.now.entries.now in
    subst (λ a. PlacesAnswer (IsJudgedAt sys c.args.self.now.own t) es c.args.at (redexes sys c.args.self.now.which t) a) (sym (handed_on _ _ c.from_residual-in_err-next.ensures.1))
    (c.parts.invariant.rest (Err c.in_err-next.field-0.0)
    (part_fails sys c.args.self.now.which c.args.self.now.own es t c.parts.walk.rest c.next.new.self.rest (part c.position.result.now (view c.in-Some.part.now))
    (told_part _ _ _ _ _ _ c.in_ok-part.ensures c.in-Some.is c.position.ensures) c.parts.invariant.ahead c.parts.next c.in_err-next.field-0.0 c.in_err-next.ensures))

pub parts-preserved : goal.parts-preserved
parts-preserved c =
    let sys = c.args.self.now.sys.now in
    let t = view c.args.end.now in
    let es = map redex_view c.args.self.now.entries.now in
    let q = part c.position.result.now (view c.in-Some.part.now) in
    record {
      ahead = ahead_rest t c.parts.walk.rest c.next.new.self.rest q (told_part _ _ _ _ _ _ c.in_ok-part.ensures c.in-Some.is c.position.ensures) c.parts.invariant.ahead;
      rest = λ a h. c.parts.invariant.rest a (next_part sys c.args.self.now.which c.args.self.now.own es t c.parts.walk.rest c.next.new.self.rest q
          (told_part _ _ _ _ _ _ c.in_ok-part.ensures c.in-Some.is c.position.ensures) c.parts.invariant.ahead c.parts.next c.in_ok-next.next a c.in_ok-next.ensures h);
    }
