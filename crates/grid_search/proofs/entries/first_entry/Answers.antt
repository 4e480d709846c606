use Rattle.std.proofs.Common.{add-one, arith}
use Rattle.term_core.specs.HeadView.{head_view}
use Rattle.grid_search.proofs.Turns.{first_more, first_made}
use Rattle.grid_search.proofs.entries.first_entry.Goals as goal

pub places-preserved : goal.places-preserved
places-preserved c =
    let numbers = c.numbers_at.result in
    rw c.in_ok-push.ensures.items
    (first_more (head_view c.args.head) c.args.arity c.places.place numbers.lowest numbers.highest c.places.coeffs.items (omega (arith, c.places-test.true))
    (c.numbers_at.ensures.tried c.args.arity (add-one c.args.arity)) c.places.invariant)

pub returns : goal.returns
returns c = first_made (head_view c.args.head) c.args.arity c.places.place c.places.coeffs.items (omega (arith, c.places-test.false)) c.places.invariant
