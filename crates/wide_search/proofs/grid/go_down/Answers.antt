use Rattle.std.proofs.Common.{◌∙◌}
use Rattle.grid_search.proofs.Standing.{within_arities}
use Rattle.wide_search.proofs.Prefixes.{one_further}
use Rattle.wide_search.proofs.grid.go_down.Goals as goal

pub bounds-arities-symbol : goal.bounds-arities-symbol
bounds-arities-symbol c =
    within_arities c.args.judge.now c.args.prefix.now.items c.heads.result.now c.heads.ensures.heads c.arities.result.now c.len-symbol.result c.arities.ensures
    (c.len-symbol.ensures ∙ c.args.prefix.now.ok.0) c.requires.more

pub returns : goal.returns
returns c =
    let entry = c.in_ok-first_entry.ensures in
    one_further c.args.judge.now c.args.prefix.now.items c.heads.result.now c.heads.ensures.heads c.arities.result.now c.len-symbol.result _ _ c.arities.ensures
    (c.len-symbol.ensures ∙ c.args.prefix.now.ok.0) c.requires.more
    c.in_ok-first_entry.field-0 entry.head entry.count entry.tried c.requires.alive c.push.new.self.items c.in_ok-push.ensures.items
