use Rattle.std.proofs.Common.{◌≡◌, ◌↔◌, ◌∙◌, Some, slice_get, option_map, ap, sym, subst}
use Rattle.std.proofs.lemmas.Option.{slice_get-map}
use Rattle.number_sets.specs.Sets.{members}
use Rattle.number_sets.specs.Relation.{Relates}
use Rattle.number_sets.specs.declared.rows.NumberRelation.{NumberRelation}
use Rattle.automaton_runs.specs.Indexed.{pointed}
use Rattle.automaton_runs.specs.Reached.{IsOneOf, IsReachedFrom}
use Rattle.automaton_runs.specs.Relations.{relation_of, relations}
use Rattle.automaton_runs.proofs.Led.{reached_by_symbol, reached_by_first}
use Rattle.automaton_runs.proofs.batch_runs.reached_from.Goals as goal
use Rattle.automaton_runs.proofs.batch_runs.reached_from.Goals.{in-Some+in_ok-put_by_first-in-Some, in_default+in_ok-put_transitions-in_default}

pub returns : goal.returns
returns c q k =
    let a = c.args.index.now in
    let f = c.args.f in
    let all = members c.args.all.now in
    let rs = relations c.args.args.now in
    let none = c.new-made.ensures q k in
    elim c.match-first.branch [
      | in-Some+in_ok-put_by_first-in-Some w ↦
          let first = w.relation-in-Some.result.now in
          let at : Some w.relation-in-Some.result.now ≡ slice_get (relations c.args.args.now) 0 =
          ap Some w.relation-in-Some.ensures ∙ ap (option_map relation_of) w.in-Some.ensures.value ∙ sym (slice_get-map relation_of c.args.args.now 0) in
          subst (λ (r : NumberRelation). Relates r q k ↔ (IsOneOf rs all k × IsReachedFrom a f rs q k)) (sym w.made-is)
          (reached_by_first a f q k all first rs none at (w.in_ok-put_by_first-in-Some.ensures q k))
      | in_default+in_ok-put_transitions-in_default w ↦
          subst (λ (r : NumberRelation). Relates r q k ↔ (IsOneOf rs all k × IsReachedFrom a f rs q k)) (sym w.made-is)
          (reached_by_symbol a f q k all rs none (pointed c.with_symbol-transitions.result.now) c.with_symbol-transitions.ensures (w.in_ok-put_transitions-in_default.ensures q k))
    ]
