use Rattle.std.proofs.Common.{◌≡◌, map, length, arith}
use Rattle.std.proofs.lemmas.List.{length-map}
use Rattle.term_core.specs.Prelude.{head_view, rule_view}
use Rattle.precedence_search.proofs.Seeing.{fewer, is_whole, sees_good}
use Rattle.precedence_search.proofs.walk.visit.Goals as goal

pub returns-then-len-heads : goal.returns-then-len-heads
returns-then-len-heads c =
    λ sys is alive.
    let hs = map head_view c.args.heads.now in
    let order = map head_view c.args.walk.now.prefix.items in
    let ps = c.args.walk.now.places.items in
    let rs = map rule_view c.args.rules.now in
    let e : length order ≡ length hs =
    (let one = length-map c.args.walk.now.prefix.items head_view in
    let two = length-map c.args.heads.now head_view in
    let held = c.len.ensures in
    let ok = c.args.walk.now.prefix.ok.0 in
    let same = c.if-len-heads.true in omega (arith, one, two, held, ok, same)) in
    (is_whole sys hs rs is.of order ps c.requires.in_place e, sees_good sys hs rs is.of order ps c.requires.in_place is.sound e (c.if-are_dead.ensures sys is.of alive))

pub returns-else-len-heads : goal.returns-else-len-heads
returns-else-len-heads c =
    λ sys is alive.
    let hs = map head_view c.args.heads.now in
    let order = map head_view c.args.walk.now.prefix.items in
    let ps = c.args.walk.now.places.items in
    let rs = map rule_view c.args.rules.now in (
      c.if-are_dead.ensures sys is.of alive,
      fewer sys hs rs is.of order ps c.requires.in_place
          (λ e. c.if-len-heads.false
          (let one = length-map c.args.walk.now.prefix.items head_view in
          let two = length-map c.args.heads.now head_view in
          let held = c.len.ensures in
          let ok = c.args.walk.now.prefix.ok.0 in omega (arith, one, two, held, ok, e))),
    )
