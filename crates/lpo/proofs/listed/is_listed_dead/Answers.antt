use Rattle.std.proofs.Common.{get_or, map, sym}
use Rattle.std.proofs.lemmas.Option.{slice_get-get_or}
use Rattle.general_lemmas.proofs.Places.{slice_get-map_read}
use Rattle.rewriting.proofs.Members.{place_among}
use Rattle.term_core.specs.RuleView.{rule_view}
use Rattle.lpo.proofs.Noting.{one_alive, all_alive}
use Rattle.lpo.proofs.listed.is_listed_dead.Goals as goal

pub bounds-rules-number : goal.bounds-rules-number
bounds-rules-number c =
    let numbers = c.args.numbers.now in
    let n = get_or numbers c.numbers.number-index 0 in c.requires n (place_among numbers c.numbers.number-index n (slice_get-get_or numbers c.numbers.number-index 0 c.numbers-test.true))

pub returns-then-is_dead : goal.returns-then-is_dead
returns-then-is_dead c =
    let numbers = c.args.numbers.now in
    let n = get_or numbers c.numbers.number-index 0 in
    let inside = c.requires n (place_among numbers c.numbers.number-index n (slice_get-get_or numbers c.numbers.number-index 0 c.numbers-test.true)) in
    (n, rule_view c.index-rules-number.result, slice_get-map_read rule_view c.args.rules.now n c.index-rules-number.result inside c.index-rules-number.is, sym c.if-is_dead.ensures)

pub numbers-preserved : goal.numbers-preserved
numbers-preserved c =
    let numbers = c.args.numbers.now in
    let n = get_or numbers c.numbers.number-index 0 in
    let at = slice_get-get_or numbers c.numbers.number-index 0 c.numbers-test.true in
    let inside = c.requires n (place_among numbers c.numbers.number-index n at) in
    one_alive c.args.places.now (map rule_view c.args.rules.now) numbers c.numbers.number-index n (rule_view c.index-rules-number.result) c.numbers.invariant at
    (slice_get-map_read rule_view c.args.rules.now n c.index-rules-number.result inside c.index-rules-number.is) (sym c.if-is_dead.ensures)

pub returns : goal.returns
returns c = all_alive c.args.places.now (map rule_view c.args.rules.now) c.args.numbers.now c.numbers.number-index c.numbers.invariant c.numbers-test.false
