use Rattle.std.proofs.Common.{length, ap, arith, ◌∙◌}
use Rattle.std.proofs.lemmas.Result.{IfOk-weaker}
use Rattle.automata.specs.Runs.{ReachBy}
use Rattle.automaton_runs.specs.Counted.{Finds}
use Rattle.term_core.specs.View.{view}
use Rattle.number_sets.specs.Sets.{below}
use Rattle.number_sets.proofs.Members.{length-below}
use Rattle.automaton_runs.specs.Reached.{AreWhere}
use Rattle.automaton_runs.proofs.NumberedTerms.{where_occurrences, leaves_few}
use Rattle.automaton_runs.proofs.batch_runs.reached_by_occurrences.Goals as goal

pub numbers-requires : goal.numbers-requires
numbers-requires c =
    let low = c.requires.fits.nodes in
    let long = c.requires.length in
    let is = c.occurrences.ensures.count in
    omega (arith, leaves_few (view c.args.t.now))

pub reached-requires : goal.reached-requires
reached-requires c = ap length (c.deref.ensures.value ∙ c.in_ok-names.ensures) ∙ length-below c.occurrences.result ∙ c.occurrences.ensures.count

pub returns : goal.returns
returns c =
    IfOk-weaker c.reached.result _ (AreWhere c.args.batch.now (ReachBy (Finds c.args.index.now) (view c.args.t.now)))
    (λ r. where_occurrences c.args.index.now c.args.batch.now (view c.args.t.now) (view c.in_ok-linear.field-0) c.deref.result.now r c.requires.length c.occurrences.ensures.wide
    (c.deref.ensures.value ∙ c.in_ok-names.ensures ∙ ap below c.occurrences.ensures.count) c.in_ok-linear.ensures) c.reached.ensures
