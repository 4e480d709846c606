use Rattle.std.proofs.Common.{◌≡◌, ◌-◌, refl, sym, length, arith, ◌∙◌}
use Rattle.std.proofs.lemmas.List.{length-set}
use Rattle.query_search.proofs.Turning.{none_turned, turned_back, turned_up, all_turned}
use Rattle.query_search.proofs.choices.Turns.turn.Goals as goal

pub places-init : goal.places-init
places-init c =
    let old = c.args.self.now.numbers in
    let counted : length old.items ≡ c.len-place.result = sym (c.len-place.ensures ∙ old.ok.0) in
    record { within = omega (arith, counted); last = refl; turned = none_turned c.args.self.now.last old.items c.len-place.result (omega (arith, counted)) }

pub places-preserved : goal.places-preserved
places-preserved c =
    let old = c.args.self.now in
    let known = c.places.invariant in
    let within = known.within in
    record {
      within = omega (arith, within);
      last = known.last;
      turned =
          turned_back old.last old.numbers.items c.places.self.numbers.items c.places.place (c.places.place - 1) c.index_mut-number.result.now
          (let some = c.places-test.true in omega (arith, some)) within known.turned
          c.index_mut-number.ensures.value (let most = c.if-number-self.false in let same = known.last in omega (arith, most, same));
    }

pub returns-then-number-self-clause-next : goal.returns-then-number-self-clause-next
returns-then-number-self-clause-next c ts xs many as_many =
    let old = c.args.self.now in
    let known = c.places.invariant in
    turned_up old.last old.numbers.items c.places.self.numbers.items c.places.place (c.places.place - 1) c.index_mut-number.result.now
    (let some = c.places-test.true in omega (arith, some)) known.within known.turned
    c.index_mut-number.ensures.value ts xs many as_many (let less = c.if-number-self.true in let same = known.last in omega (arith, less, same))

pub returns-then-number-self-clause-count : goal.returns-then-number-self-clause-count
returns-then-number-self-clause-count c = length-set c.places.self.numbers.items (c.places.place - 1) _ ∙ c.places.invariant.turned.as_many

pub returns-clause-next : goal.returns-clause-next
returns-clause-next c ts xs many as_many =
    all_turned c.args.self.now.last c.args.self.now.numbers.items c.places.self.numbers.items c.places.place (let none = c.places-test.false in omega (arith, none))
    c.places.invariant.turned ts xs many as_many
