use Rattle.std.proofs.Common.{◌≡◌, ◌++◌, ◌∙◌, length, ap, append_assoc, arith}
use Rattle.rewriting.specs.Substitutions.{apply, values_of}
use Rattle.term_core.specs.View.{view}
use Rattle.reach.specs.Keys.{cells}
use Rattle.reach.proofs.Around.{length-around}
use Rattle.reach.proofs.splices.instance_between.Goals as goal

pub returns-then-others-gt-MOST_LISTED_NODES : goal.returns-then-others-gt-MOST_LISTED_NODES
returns-then-others-gt-MOST_LISTED_NODES c =
    let long = length-around c.args.front.now c.args.back.now (apply (values_of c.args.values.now) (view c.args.t.now)) in
    let big = c.if-others-gt-MOST_LISTED_NODES.true in
    omega (arith, long, big)

pub returns-in_default : goal.returns-in_default
returns-in_default c =
    let long = length-around c.args.front.now c.args.back.now (apply (values_of c.args.values.now) (view c.args.t.now)) in
    let low = c.if-others-gt-MOST_LISTED_NODES.false in
    let none = rw c.in_default.is at c.room_of.ensures.none in
    omega (arith, long, low, none)

pub add_instance-requires-clause-instance : goal.add_instance-requires-clause-instance
add_instance-requires-clause-instance c =
    let left = rw c.in-Some.is at c.room_of.ensures.left in
    omega (arith, left)

pub returns : goal.returns
returns c =
    let u = apply (values_of c.args.values.now) (view c.args.t.now) in
    let whole : c.extend_from_slice-2.new.self.items ≡ c.args.front.now ++ (cells u ++ c.args.back.now) =
    c.in_ok-extend_from_slice-2.ensures.items
    ∙ ap (λ z. z ++ c.args.back.now) (c.in_ok-add_instance.ensures ∙ ap (λ z. z ++ cells u) (c.in_ok-extend_from_slice.ensures.items ∙ ap (λ z. z ++ c.args.front.now) c.in_ok-key.ensures.items))
    ∙ append_assoc c.args.front.now (cells u) c.args.back.now in
    let many = ap length whole in
    let long = length-around c.args.front.now c.args.back.now u in
    let low = c.if-others-gt-MOST_LISTED_NODES.false in
    let left = rw c.in-Some.is at c.room_of.ensures.left in
    (whole, omega (arith, many, long, low, left))
