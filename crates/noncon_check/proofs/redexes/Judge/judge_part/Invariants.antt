use Rattle.std.proofs.Common.{ℕ, map, drop, Result}
use Rattle.term_core.specs.View.{view}
use Rattle.cert_model.specs.CertificateView.{redex_view}
use Rattle.rule_index.specs.Parts.{part}
use Rattle.validity.specs.declared.CheckError.{CheckError}
use Rattle.redex_conditions.specs.Judged.{IsJudgedOn}
use Rattle.redex_conditions.specs.Redexes.{places, part_redexes}
use Rattle.noncon_check.specs.Walks.{PlacesAnswer}
use Rattle.noncon_check.proofs.redexes.Judge.judge_part.Given as goal

abbrev pub invariant-loop-number : goal.invariant-loop-number
invariant-loop-number l = (a : Result ℕ CheckError)
    → PlacesAnswer (IsJudgedOn l.self.sys.now l.self.own (view l.part)) (map redex_view l.self.entries.now) l.next
    (places l.self.sys.now l.self.which (part l.path (view l.part)) (drop l.number-index l.numbers)) a
    → PlacesAnswer (IsJudgedOn l.self.sys.now l.self.own (view l.part)) (map redex_view l.self.entries.now) l.at (part_redexes l.self.sys.now l.self.which (part l.path (view l.part))) a
