use Rattle.std.proofs.Common.{◌+◌, ◌-◌, ◌/◌, ◌<◌, ◌∙◌, ap, Some, length, map, take, subst, sym, add-one, arith}
use Rattle.cert_model.specs.EvidenceView.{transition_view}
use Rattle.automaton_grow.specs.Placing.{AreBefore, transition_of}
use Rattle.automaton_grow.proofs.Order.{those_below, those_above}
use Rattle.general_lemmas.proofs.Places.{slice_get-map_read}
use Rattle.automaton_grow.proofs.ordered.place.Goals as goal

pub halves-preserved-in-Less : goal.halves-preserved-in-Less
halves-preserved-in-Less c =
    let middle = c.halves.low + (c.halves.high - c.halves.low) / 2 in
    let inside : middle < length c.args.transitions.now = omega arith in
    record {
      in_order = omega arith;
      within = c.halves.invariant.within;
      before =
          subst (λ k. AreBefore (take k (map transition_view c.args.transitions.now)) (transition_of c.args.symbol c.args.args.now c.args.target)) (sym (add-one middle))
          (those_below (map transition_view c.args.transitions.now) middle (transition_view c.index-transitions-middle.result) _ c.requires
          (slice_get-map_read transition_view c.args.transitions.now middle c.index-transitions-middle.result inside c.index-transitions-middle.is) c.in-Less.ensures);
      behind = c.halves.invariant.behind;
    }

pub halves-preserved : goal.halves-preserved
halves-preserved c =
    let middle = c.halves.low + (c.halves.high - c.halves.low) / 2 in
    let inside : middle < length c.args.transitions.now = omega arith in
    record {
      in_order = omega arith;
      within = omega arith;
      before = c.halves.invariant.before;
      behind = those_above (map transition_view c.args.transitions.now) middle (transition_view c.index-transitions-middle.result) _ c.requires
          (slice_get-map_read transition_view c.args.transitions.now middle c.index-transitions-middle.result inside c.index-transitions-middle.is) c.in-Greater.ensures;
    }

pub returns-in-Equal : goal.returns-in-Equal
returns-in-Equal c =
    let middle = c.halves.low + (c.halves.high - c.halves.low) / 2 in
    let inside : middle < length c.args.transitions.now = omega arith in
    slice_get-map_read transition_view c.args.transitions.now middle c.index-transitions-middle.result inside c.index-transitions-middle.is ∙ ap Some c.in-Equal.ensures
