use Rattle.std.proofs.Common.{◌∙◌}
use Rattle.grid_search.proofs.Standing.{within_arities, one_more}
use Rattle.grid_search.proofs.walk.go_down.Goals as goal

pub bounds-arities-symbol : goal.bounds-arities-symbol
bounds-arities-symbol c =
    within_arities c.args.judge.now c.args.prefix.now.items c.heads.result.now c.heads.ensures.heads c.arities.result.now c.len-symbol.result c.arities.ensures
    (c.len-symbol.ensures ∙ c.args.prefix.now.ok.0) c.requires

pub returns : goal.returns
returns c =
    one_more c.args.judge.now c.args.prefix.now.items c.heads.result.now c.heads.ensures.heads c.arities.result.now c.len-symbol.result _ _ c.arities.ensures
    (c.len-symbol.ensures ∙ c.args.prefix.now.ok.0) c.requires
    c.in_ok-first_entry.field-0 c.in_ok-first_entry.ensures c.push.new.self.items c.in_ok-push.ensures.items
