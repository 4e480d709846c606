use Rattle.std.proofs.Common.{◌≡◌, Some, map, sym, subst}
use Rattle.rewriting.specs.Rules.{rule_at}
use Rattle.term_core.specs.Prelude.{view, rule_view}
use Rattle.term_core.specs.SystemView.{IsSound}
use Rattle.cert_model.specs.CertificateView.{redex_view}
use Rattle.cert_model.specs.EvidenceView.{inf_evidence_view}
use Rattle.rule_index.specs.Parts.{part}
use Rattle.rule_index.proofs.Numbers.{rule_is}
use Rattle.redex_conditions.proofs.Ends.{rules_sound}
use Rattle.redex_conditions.proofs.Rules.{sound_is}
use Rattle.noncon_search.proofs.Adding.{unmatched_added, match_added, match_fails}
use Rattle.noncon_search.proofs.entries.EntryMaker.add_rule.Goals as goal

pub evidence_for-requires-clause-sound : goal.evidence_for-requires-clause-sound
evidence_for-requires-clause-sound c =
    let sys = c.args.self.now.sys.now in
    let rules = c.rules.ensures in
    subst (IsSound sys.arities) (sym c.index-rules-number.is)
    (sound_is sys c.rules.result.now rules.rules (rules_sound sys c.rules.result.now rules.sound rules.rules rules.counted) c.args.number c.requires.number c.index-rules-number.result)

pub returns-in_default : goal.returns-in_default
returns-in_default c =
    let sys = c.args.self.now.sys.now in
    let is = subst (λ z. rule_at sys c.args.number ≡ Some (rule_view z)) (sym c.index-rules-number.is)
    (rule_is sys c.rules.result.now c.rules.ensures.rules c.args.number c.requires.number c.index-rules-number.result) in
    unmatched_added sys c.args.self.now.own c.args.self.now.which (part c.args.path.now (view c.args.part.now)) c.args.number (rule_view c.index-rules-number.result) is
    (rw c.in_default.is at c.in_ok-values.ensures)
    (map redex_view c.args.entries.now.items)

pub returns-in_default-2 : goal.returns-in_default-2
returns-in_default-2 c =
    let sys = c.args.self.now.sys.now in
    let is = subst (λ z. rule_at sys c.args.number ≡ Some (rule_view z)) (sym c.index-rules-number.is)
    (rule_is sys c.rules.result.now c.rules.ensures.rules c.args.number c.requires.number c.index-rules-number.result) in
    match_fails sys c.args.self.now.own c.args.self.now.which (part c.args.path.now (view c.args.part.now)) c.args.number (rule_view c.index-rules-number.result) is c.in-Bound.values
    (rw c.in-Bound.is at c.in_ok-values.ensures) (rw c.in_default-2.is at c.in_ok-evidence.ensures) (map redex_view c.args.entries.now.items) (map redex_view c.args.entries.now.items)

pub returns : goal.returns
returns c =
    let sys = c.args.self.now.sys.now in
    let is = subst (λ z. rule_at sys c.args.number ≡ Some (rule_view z)) (sym c.index-rules-number.is)
    (rule_is sys c.rules.result.now c.rules.ensures.rules c.args.number c.requires.number c.index-rules-number.result) in
    let first = rw c.in-Some.is at c.in_ok-evidence.ensures in
    match_added sys c.args.self.now.own c.args.self.now.which (part c.args.path.now (view c.args.part.now)) c.args.number (rule_view c.index-rules-number.result) is c.in-Bound.values
    (rw c.in-Bound.is at c.in_ok-values.ensures) (inf_evidence_view c.in-Some.evidence) first.0 first.1 (map redex_view c.args.entries.now.items) (map redex_view c.add_entry.new.entries.items)
    c.in_ok-add_entry.ensures
