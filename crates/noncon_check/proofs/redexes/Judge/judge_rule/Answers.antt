use Rattle.std.proofs.Common.{map}
use Rattle.term_core.specs.View.{view}
use Rattle.cert_model.specs.CertificateView.{redex_view}
use Rattle.rule_index.proofs.Numbers.{rule_is}
use Rattle.redex_conditions.specs.Judged.{IsJudgedOn}
use Rattle.noncon_check.proofs.Rules.{unmatched_pass, matched_answers}
use Rattle.redex_conditions.proofs.Rules.{sound_is}
use Rattle.noncon_check.proofs.redexes.Judge.judge_rule.Goals as goal

pub judge_entry-requires-clause-sound : goal.judge_entry-requires-clause-sound
judge_entry-requires-clause-sound c = sound_is c.args.self.now.sys.now _ c.requires.ready.rules c.requires.ready.sound _ c.requires.number _

pub returns-in-Unmatched : goal.returns-in-Unmatched
returns-in-Unmatched c =
    unmatched_pass c.args.self.now.sys.now (view c.args.part.now) c.args.number _
    (rule_is c.args.self.now.sys.now _ c.requires.ready.rules _ c.requires.number c.index-self-number.result)
    (IsJudgedOn c.args.self.now.sys.now c.args.self.now.own (view c.args.part.now)) c.args.path.now (map redex_view c.args.self.now.entries.now) c.args.self.now.which c.args.at
    (rw c.in-Unmatched.is at c.in_ok-match_term.ensures)

pub returns-in-Bound : goal.returns-in-Bound
returns-in-Bound c =
    matched_answers c.args.self.now.sys.now (view c.args.part.now) c.args.number _
    (rule_is c.args.self.now.sys.now _ c.requires.ready.rules _ c.requires.number c.index-self-number.result) _ _ _ _ _ _ _
    (rw c.in-Bound.is at c.in_ok-match_term.ensures) c.judge_entry.ensures
