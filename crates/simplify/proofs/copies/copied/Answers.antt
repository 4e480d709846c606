use Rattle.std.proofs.Common.{sym, subst}
use Rattle.term_core.specs.RuleView.{AreCounted}
use Rattle.simplify.proofs.Slices.{counted_copies}
use Rattle.simplify.proofs.copies.copied.Goals as goal

pub of_parts-requires-clause-counted : goal.of_parts-requires-clause-counted
of_parts-requires-clause-counted c =
    counted_copies c.in_ok-out.out.items c.copy_rules.new.out.items c.rules-rules.result.now (subst AreCounted (sym c.in_ok-out.ensures.items) tt) c.rules-rules.ensures.counted
    c.in_ok-copy_rules.ensures.rules c.in_ok-copy_rules.ensures.counts
