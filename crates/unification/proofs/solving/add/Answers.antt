use Rattle.std.proofs.Common.{ap, ◌∙◌, sym, subst}
use Rattle.unification.specs.Solving.{bindings, AreInTurn}
use Rattle.unification.proofs.Found.{bindings-push, in_turn-push}
use Rattle.unification.proofs.solving.add.Goals as goal

pub returns : goal.returns
returns c =
    let pushed = c.in_ok-push.ensures.items in
    record {
      turns = subst AreInTurn (sym pushed) (in_turn-push c.args.found.now.items _ c.requires.turns (record { free = c.requires.free; head = c.requires.head; apart = c.requires.apart }));
      extended = ap bindings pushed ∙ bindings-push c.args.found.now.items _;
    }
