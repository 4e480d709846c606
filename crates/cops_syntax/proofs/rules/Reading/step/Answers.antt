use Rattle.std.proofs.Common.{reverse, sym, subst}
use Rattle.cops_syntax.specs.Flat.{CanRead}
use Rattle.cops_syntax.proofs.Pushes.{can_raise_push}
use Rattle.cops_syntax.proofs.rules.Reading.step.Goals as goal

pub behind-requires : goal.behind-requires
behind-requires c = subst CanRead (sym c.in_ok-push_bare-in-Bare-default.ensures) (can_raise_push _ _ (reverse c.args.self.now.opens.items) c.requires)
