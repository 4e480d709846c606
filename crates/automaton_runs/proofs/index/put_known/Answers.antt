use Rattle.std.proofs.Common.{refl, sym}
use Rattle.automaton_runs.specs.Counted.{symbols_of}
use Rattle.automaton_runs.specs.declared.index.Known.{Known}
use Rattle.automaton_runs.proofs.Twins.{put_counted, fields}
use Rattle.automaton_runs.proofs.index.put_known.Goals as goal

pub returns-in_ok-insert : goal.returns-in_ok-insert
returns-in_ok-insert c =
    let k : Known = record { symbol = c.args.transition.now.symbol; args = c.deref.result; target = c.args.transition.now.target } in
    put_counted (symbols_of c.args.arities) c.args.states c.args.transition.now k c.args.known.now.keys c.insert.new.self.keys
    (fields k c.args.transition.now refl c.deref.ensures.value refl) c.in_ok-insert.ensures.keys
    (sym c.if-is_counted.ensures)
