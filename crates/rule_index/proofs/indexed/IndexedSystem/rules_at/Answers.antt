use Rattle.std.proofs.Common.{◌∙◌, ap}
use Rattle.rule_index.specs.Roots.{rules_at}
use Rattle.term_core.specs.View.{view}
use Rattle.rule_index.proofs.Numbers.{index_rules}
use Rattle.rule_index.proofs.indexed.IndexedSystem.rules_at.Goals as goal

pub returns : goal.returns
returns c =
    c.rules_at.ensures ∙ (index_rules c.self.inside.system.now c.self.inside.index c.self.invariant.index (view c.args.part.now) ∙ ap (λ s. rules_at s (view c.args.part.now)) c.self.view_is)
