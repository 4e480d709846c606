use Rattle.std.proofs.Common.{◌≡◌, ◌+◌, ◌∙◌, ℕ, suc, List, map, drop, ap, sym, arith}
use Rattle.term_core.specs.RuleView.{rule_view}
use Rattle.cops_names.specs.NameLists.{with_names}
use Rattle.cops_write.specs.Text.{names_from}
use Rattle.cops_write.proofs.Rules.{numbered_at, names_behind}
use Rattle.cops_write.proofs.writer.collect_names.Goals as goal

pub add_names-requires : goal.add_names-requires
add_names-requires c = numbered_at _ _ _ c.requires.numbered c.rules-test.true c.rule-item.is

pub rules-preserved : goal.rules-preserved
rules-preserved c =
    let next : c.rules.number + 1 ≡ suc c.rules.number = omega arith in
    let rest = map rule_view (drop (c.rules.rule-index + 1) c.args.rules.now) in
    record {
      added = ap (λ (n : ℕ). with_names c.add_names.new.set (names_from c.args.names.now n rest)) next
          ∙ ap (λ (w : List (List ℕ)). with_names w (names_from c.args.names.now (suc c.rules.number) rest)) c.in_ok-add_names.ensures
          ∙ sym (names_behind c.args.names.now c.rules.set c.rules.number c.args.rules.now c.rules.rule-index c.rule-item.result c.rules-test.true c.rule-item.is)
          ∙ c.rules.invariant.added;
      counted = omega arith;
    }
