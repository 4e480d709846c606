use Rattle.std.proofs.Common.{◌≡◌, ◌∙◌, Some, ap}
use Rattle.std.proofs.lemmas.Result.{IfOk-weaker}
use Rattle.rewriting.specs.Signatures.{Signature}
use Rattle.cert_model.specs.EvidenceView.{automaton_view}
use Rattle.automaton_runs.specs.Counted.{Indexed, under}
use Rattle.tree_automata.proofs.closure.index_under.Goals as goal

pub returns : goal.returns
returns c =
    IfOk-weaker c.new.result _ (λ (i : Indexed). i ≡ under c.args.sys.now (automaton_view c.args.a.now))
    (λ i h. h ∙ ap (λ (s : Signature). let made : Indexed = record { symbols = Some s; automaton = automaton_view c.args.a.now } in made) c.arities.ensures) c.new.ensures
