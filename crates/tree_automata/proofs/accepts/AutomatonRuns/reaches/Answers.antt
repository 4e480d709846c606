use Rattle.std.proofs.Common.{◌∙◌, ◌↔◌, ◌<◌, ℕ, IsTrue, ap, subst}
use Rattle.automata.specs.Runs.{RunsFrom0}
use Rattle.automata.specs.Evidence.{IsAccepted}
use Rattle.term_core.specs.View.{view}
use Rattle.cert_model.specs.EvidenceView.{automaton_view}
use Rattle.automaton_runs.specs.Counted.{Indexed}
use Rattle.tree_automata.specs.Accepts.{IsMarked}
use Rattle.tree_automata.proofs.Accepted.{marks_are, accepted_is}
use Rattle.tree_automata.proofs.accepts.AutomatonRuns.reaches.Goals as goal

pub returns-clause-marks : goal.returns-clause-marks
returns-clause-marks c =
    let a = automaton_view c.args.self.now in
    let t = view c.args.t.now in
    subst (λ (i : Indexed). (q : ℕ) → q < a.states → IsMarked c.mark_all.new.out q ↔ RunsFrom0 i.symbols a t q) c.in_ok-index.ensures
    (marks_are a c.in_ok-index.index t c.in_ok-reached.reached c.mark_all.new.out (ap (λ (i : Indexed). i.automaton) c.in_ok-index.ensures) c.in_ok-reached.ensures
    c.mark_all.ensures.marked (c.mark_all.ensures.len ∙ c.requires.long))

pub returns-clause-hit : goal.returns-clause-hit
returns-clause-hit c =
    let a = automaton_view c.args.self.now in
    let t = view c.args.t.now in
    subst (λ (i : Indexed). IsTrue c.is_one_accepting.result ↔ IsAccepted i.symbols a t) c.in_ok-index.ensures
    (accepted_is a c.in_ok-index.index t c.in_ok-reached.reached c.is_one_accepting.result (ap (λ (i : Indexed). i.automaton) c.in_ok-index.ensures) c.in_ok-reached.ensures c.is_one_accepting.ensures)
