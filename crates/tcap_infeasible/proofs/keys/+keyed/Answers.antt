use Rattle.std.proofs.Common.{◌<◌, subst}
use Rattle.rewriting.specs.Terms.{size}
use Rattle.rewriting.proofs.Lists.{front_refl}
use Rattle.term_core.specs.View.{view}
use Rattle.term_core.proofs.Sizes.{size_inside}
use Rattle.tcap_infeasible.proofs.Places.{variable_grown, one_place, place_room, whole_grown, whole_keyed}
use Rattle.tcap_infeasible.proofs.keys.+keyed.Goals as goal

pub keyed-requires : goal.keyed-requires
keyed-requires t c = (
  subst (λ z. size (view c.arg-item.result) < z) c.decreases (size_inside c.args.t.now c.in-Fun.f c.in-Fun.args c.deref-arg-items.result.now c.loop-arg.arg-index c.arg-item.result
      c.in-Fun.is c.deref-arg-items.ensures.value c.loop-arg-test.true c.arg-item.is),
  (
    c.requires.symbols,
    place_room c.args.t.now c.in-Fun.f c.in-Fun.args c.deref-arg-items.result.now c.loop-arg.arg-index c.in-Fun.is c.deref-arg-items.ensures.value c.args.symbols c.args.foreign.now
        c.keyed_symbol.new.foreign c.loop-arg.foreign c.args.variables.now c.loop-arg.variables c.in_ok-symbol-in-Fun.ensures.grown c.loop-arg.places.items c.arg-item.result
        c.loop-arg-test.true c.arg-item.is c.loop-arg.invariant c.requires.room,
  ),
)

pub loop-arg-preserved : goal.loop-arg-preserved
loop-arg-preserved t c =
    one_place c.args.symbols c.keyed_symbol.new.foreign c.loop-arg.foreign c.keyed.new.foreign c.args.variables.now c.loop-arg.variables c.keyed.new.variables
    c.deref-arg-items.result.now c.loop-arg.arg-index c.loop-arg.places.items c.push.new.self.items c.arg-item.result c.in_ok-keyed-in-Fun.field-0 c.loop-arg-test.true
    c.arg-item.is c.loop-arg.invariant
    (record {
      foreign_front = c.in_ok-keyed-in-Fun.ensures.foreign_front;
      front = c.in_ok-keyed-in-Fun.ensures.front;
      foreign_distinct = c.in_ok-keyed-in-Fun.ensures.foreign_distinct;
      distinct = c.in_ok-keyed-in-Fun.ensures.distinct;
      foreign_grown = c.in_ok-keyed-in-Fun.ensures.foreign_grown;
      grown = c.in_ok-keyed-in-Fun.ensures.grown;
      is = c.in_ok-keyed-in-Fun.ensures.keys;
    }) c.in_ok-push-in-Fun.ensures.items

pub returns-in_ok-number-in-Var-clause-foreign_front : goal.returns-in_ok-number-in-Var-clause-foreign_front
returns-in_ok-number-in-Var-clause-foreign_front t c = front_refl c.args.foreign.now

pub returns-in_ok-number-in-Var-clause-grown : goal.returns-in_ok-number-in-Var-clause-grown
returns-in_ok-number-in-Var-clause-grown t c = variable_grown c.args.variables.now c.number.new.self c.args.t.now c.in-Var.x c.in-Var.is c.in_ok-number-in-Var.ensures.row

pub returns-after-loop-arg-clause-foreign_grown : goal.returns-after-loop-arg-clause-foreign_grown
returns-after-loop-arg-clause-foreign_grown t c =
    (whole_grown c.args.t.now c.in-Fun.f c.in-Fun.args c.deref-arg-items.result.now c.loop-arg.arg-index c.in-Fun.is c.deref-arg-items.ensures.value c.args.symbols
    c.args.foreign.now c.keyed_symbol.new.foreign c.loop-arg.foreign c.args.variables.now c.loop-arg.variables c.in_ok-symbol-in-Fun.ensures.grown c.loop-arg.places.items
    c.loop-arg-test.false c.loop-arg.invariant).0

pub returns-after-loop-arg-clause-grown : goal.returns-after-loop-arg-clause-grown
returns-after-loop-arg-clause-grown t c =
    (whole_grown c.args.t.now c.in-Fun.f c.in-Fun.args c.deref-arg-items.result.now c.loop-arg.arg-index c.in-Fun.is c.deref-arg-items.ensures.value c.args.symbols
    c.args.foreign.now c.keyed_symbol.new.foreign c.loop-arg.foreign c.args.variables.now c.loop-arg.variables c.in_ok-symbol-in-Fun.ensures.grown c.loop-arg.places.items
    c.loop-arg-test.false c.loop-arg.invariant).1

pub returns-after-loop-arg-clause-keys : goal.returns-after-loop-arg-clause-keys
returns-after-loop-arg-clause-keys t c =
    whole_keyed c.args.t.now c.in-Fun.f c.in-Fun.args c.deref-arg-items.result.now c.loop-arg.arg-index c.in-Fun.is c.deref-arg-items.ensures.value c.args.symbols
    c.args.foreign.now c.keyed_symbol.new.foreign c.loop-arg.foreign c.args.variables.now c.loop-arg.variables c.in_ok-symbol-in-Fun.ensures.grown c.loop-arg.places
    c.in_ok-symbol-in-Fun.symbol c.loop-arg-test.false c.loop-arg.invariant c.in_ok-symbol-in-Fun.ensures.key
