use Rattle.std.proofs.Common.{map, sym, ap, ◌∙◌}
use Rattle.std.proofs.lemmas.List.{length-map}
use Rattle.rewriting.specs.Terms.{app, nil}
use Rattle.term_core.specs.RuleView.{condition_view}
use Rattle.query_space.specs.Assignments.{constants}
use Rattle.query_space.specs.Items.{value_items}
use Rattle.search_answers.proofs.Walking.{begins, fails}
use Rattle.query_search.specs.Answers.{reply_view}
use Rattle.query_search.specs.Choices as choices
use Rattle.query_search.proofs.Turning.{same_chosen, first_assigned}
use Rattle.query_search.proofs.Assigning.{value_ends, value_goes_on, value_last}
use Rattle.query_search.proofs.assignments.try_assignments.Goals as goal

pub assignments-init : goal.assignments-init
assignments-init c =
    let sys = c.args.sys.now in
    let cs = map condition_view c.args.conds.now in
    let ts = choices.constants_of c.in_ok-constants.constants.items in
    let many = c.in_ok-turns.ensures.count ∙ c.len.ensures ∙ c.in_ok-open.open.ok.0 in
    record {
      as_many = many;
      last = c.in_ok-turns.ensures.last ∙ c.len-2.ensures ∙ c.in_ok-constants.constants.ok.0;
      walking = begins (first_assigned sys cs ts c.in_ok-open.open.items c.in_ok-turns.turns.numbers.items (c.in_ok-constants.ensures ∙ ap constants c.system.ensures) c.in_ok-open.ensures
          c.in_ok-turns.ensures.zeros many);
    }

pub returns-in_err-end : goal.returns-in_err-end
returns-in_err-end c =
    fails c.assignments.invariant.walking reply_view c.try_values.new.budget c.from_residual-in_err-end.result c.from_residual-in_err-end.ensures.0 c.in_err-end.ensures

pub returns-in_default : goal.returns-in_default
returns-in_default c =
    let sys = c.args.sys.now in
    let cs = map condition_view c.args.conds.now in
    value_ends sys cs (value_items sys cs) c.args.budget.now c.assignments.budget c.try_values.new.budget (choices.constants_of c.in_ok-constants.constants.items)
    c.in_ok-open.open.items c.assignments.turns.numbers.items
    c.in_ok-values.values (c.in_ok-values.ensures ∙ same_chosen c.in_ok-constants.constants.items c.deref-in-assignments.result.now c.in_ok-open.open.items c.deref.result.now
    c.assignments.turns.numbers.items c.deref-in-assignments.ensures.value c.deref.ensures.value)
    c.assignments.invariant.walking c.in_ok-end.end c.in_ok-end.ensures c.in_default.not-Exhausted

pub returns-then-not-turn : goal.returns-then-not-turn
returns-then-not-turn c =
    let sys = c.args.sys.now in
    let cs = map condition_view c.args.conds.now in
    let ts = choices.constants_of c.in_ok-constants.constants.items in
    value_last sys cs (value_items sys cs) c.args.budget.now c.assignments.budget c.try_values.new.budget ts c.in_ok-open.open.items c.assignments.turns.numbers.items
    c.in_ok-values.values (c.in_ok-values.ensures ∙ same_chosen c.in_ok-constants.constants.items c.deref-in-assignments.result.now c.in_ok-open.open.items c.deref.result.now
    c.assignments.turns.numbers.items c.deref-in-assignments.ensures.value c.deref.ensures.value)
    c.assignments.invariant.walking c.in_ok-end.end c.in_ok-end.ensures c.turn.new.self.numbers.items
    (c.if-not-turn.ensures.next ts c.in_ok-open.open.items (length-map c.in_ok-constants.constants.items (λ f. app f nil) ∙ sym c.assignments.invariant.last) (sym c.assignments.invariant.as_many))
    c.in-Exhausted.is

pub assignments-preserved : goal.assignments-preserved
assignments-preserved c =
    let sys = c.args.sys.now in
    let cs = map condition_view c.args.conds.now in
    let ts = choices.constants_of c.in_ok-constants.constants.items in
    record {
      as_many = c.if-not-turn.ensures.count ∙ c.assignments.invariant.as_many;
      last = c.if-not-turn.ensures.last ∙ c.assignments.invariant.last;
      walking =
          value_goes_on sys cs (value_items sys cs) c.args.budget.now c.assignments.budget c.try_values.new.budget ts c.in_ok-open.open.items c.assignments.turns.numbers.items
          c.in_ok-values.values (c.in_ok-values.ensures ∙ same_chosen c.in_ok-constants.constants.items c.deref-in-assignments.result.now c.in_ok-open.open.items c.deref.result.now
          c.assignments.turns.numbers.items c.deref-in-assignments.ensures.value c.deref.ensures.value)
          c.assignments.invariant.walking c.in_ok-end.end c.in_ok-end.ensures c.turn.new.self.numbers.items
          (c.if-not-turn.ensures.next ts c.in_ok-open.open.items (length-map c.in_ok-constants.constants.items (λ f. app f nil) ∙ sym c.assignments.invariant.last)
          (sym c.assignments.invariant.as_many))
          c.in-Exhausted.is;
    }
