use Rattle.std.proofs.Common.{◌≡◌, ◌++◌, take, map}
use Rattle.cops_names.specs.NamesView.{texts_of}
use Rattle.term_core.specs.View.{view}
use Rattle.concon_run.specs.Query.{value_lines}
use Rattle.concon_run.proofs.queries.put_values.Given as goal

abbrev pub invariant-values : goal.invariant-values
invariant-values l = (l.number ≡ l.value-index) × (l.out.items ≡ l.fn.out.items ++ value_lines l.names (texts_of l.variables) (map view (take l.value-index l.values)))
