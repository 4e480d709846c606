use Rattle.std.proofs.Common.{sym, ◌∙◌, subst}
use Rattle.cert_model.specs.EvidenceView.{automaton_view}
use Rattle.automaton_runs.specs.Counted.{Indexed, Finds, symbols_of}
use Rattle.automaton_runs.specs.declared.index.Known.{Known}
use Rattle.automaton_runs.proofs.Twins.{looked_up}
use Rattle.automaton_runs.proofs.index.AutomatonIndex.has.Goals as goal

pub returns : goal.returns
returns c =
    let k : Known = record { symbol = c.args.symbol; args = c.args.args; target = c.args.target } in
    let i = looked_up (record { symbols = symbols_of c.self.inside.arities; automaton = automaton_view c.self.inside.automaton.now }) c.self.inside.known.keys k c.self.invariant.known in (
      λ yes. subst (λ (a : Indexed). Finds a c.args.symbol c.args.args.now c.args.target) c.self.view_is (i.0 (sym c.contains.ensures ∙ yes)),
      λ has. c.contains.ensures ∙ i.1 (subst (λ (a : Indexed). Finds a c.args.symbol c.args.args.now c.args.target) (sym c.self.view_is) has),
    )
