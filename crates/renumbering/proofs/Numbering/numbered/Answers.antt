use Rattle.std.proofs.Common.{◌≡◌, Result, Ok, Err, IfOk}
use Rattle.rewriting.specs.Prelude.{apply, odd}
use Rattle.term_core.specs.View.{view}
use Rattle.renumbering.specs.Spread.{spreading}
use Rattle.renumbering.proofs.Spreads.{odd_is_spread}
use Rattle.renumbering.proofs.Numbering.numbered.Goals as goal

lifted : {T E : Type 0} {P Q : T → Type 0} → ((u : T) → P u → Q u) → (r : Result T E) → IfOk r P → IfOk r Q
lifted f (Ok u) h = f u h
lifted f (Err e) h = h

pub returns-clause-odd : goal.returns-clause-odd
returns-clause-odd c =
    lifted {Q = λ u. apply odd (view c.args.t.now) ≡ apply (spreading c.numbered_by.new.row.keys) (view u)}
    (λ u n. odd_is_spread c.numbered_by.new.row.keys (view c.args.t.now) (view u) n.names n.below) c.numbered_by.result c.numbered_by.ensures.numbered
