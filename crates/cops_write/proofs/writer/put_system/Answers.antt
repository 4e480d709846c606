use Rattle.std.proofs.Common.{◌∙◌, sym, subst}
use Rattle.rewriting.specs.Systems.{AreRules}
use Rattle.cops_write.specs.Text.{system_text}
use Rattle.cops_write.proofs.Growing.{both, as_text}
use Rattle.cops_write.proofs.Rules.{all_numbered, system_parts}
use Rattle.cops_write.proofs.writer.put_system.Goals as goal

pub collect_names-requires-clause-numbered : goal.collect_names-requires-clause-numbered
collect_names-requires-clause-numbered c =
    let s = c.rules-rules.ensures in
    all_numbered c.args.sys.now.arities c.rules-rules.result.now (subst (AreRules c.args.sys.now.arities) (sym s.rules) s.sound.rules) s.counted

pub returns : goal.returns
returns c =
    as_text (system_text c.args.names.now c.args.sys.now) (system_parts c.args.names.now c.args.sys.now _ _ c.rules-rules.ensures.rules (c.names.ensures ∙ c.in_ok-variables.ensures))
    (both c.in_ok-put_type.ensures (both c.in_ok-put_block.ensures (both c.in_ok-put.ensures (both c.in_ok-put_rules.ensures c.in_ok-put-2.ensures))))
