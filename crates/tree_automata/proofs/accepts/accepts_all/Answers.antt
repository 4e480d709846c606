use Rattle.std.proofs.Common.{refl}
use Rattle.automaton_runs.specs.Counted.{Finds}
use Rattle.tree_automata.proofs.Accepted.{zeros_more, zeros_all}
use Rattle.tree_automata.proofs.accepts.accepts_all.Goals as goal

pub loop-f-preserved : goal.loop-f-preserved
loop-f-preserved c =
    zeros_more c.args.sys.now.arities c.arities-arity-items.result.now (Finds c.args.index.now) c.loop-f.f c.arities-arity-items.ensures (c.if-not-keeps_zero.ensures.0 refl) c.loop-f.invariant

pub returns : goal.returns
returns c = (
  λ h.
      record {
        symbols = zeros_all c.args.sys.now.arities c.arities-arity-items.result.now (Finds c.args.index.now) c.loop-f.f c.arities-arity-items.ensures c.loop-f-test.false c.loop-f.invariant;
        variables = c.has.ensures.0 h;
      },
  λ any. c.has.ensures.1 any.variables,
)
