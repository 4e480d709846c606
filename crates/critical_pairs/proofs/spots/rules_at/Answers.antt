use Rattle.critical_pairs.proofs.Runs.{rules_there}
use Rattle.critical_pairs.proofs.spots.rules_at.Goals as goal

pub returns-clause-renamed : goal.returns-clause-renamed
returns-clause-renamed c =
    rules_there c.args.sys.now _ _ _ c.inner_rules.result.now c.outer_rules.result.now c.inner_rules.ensures.rules c.outer_rules.ensures.rules c.index-inner_rules-triple.result
    c.index-outer_rules-triple.result c.index-inner_rules-triple.is c.index-outer_rules-triple.is
