use Rattle.std.proofs.Common.{◌∙◌}
use Rattle.cops_names.proofs.Numbers.{numbers}
use Rattle.cops_names.proofs.names.Names.symbol_number.Goals as goal

pub returns : goal.returns
returns c = rw (← c.self.view_is) (c.in_ok-n.ensures.index ∙ numbers c.args.name.now c.self.inside.symbols.entries)

pub returns-in_err-n : goal.returns-in_err-n
returns-in_err-n c = rw (← c.self.view_is) (c.from_residual.ensures ∙ c.in_err-n.ensures.index ∙ numbers c.args.name.now c.self.inside.symbols.entries)
