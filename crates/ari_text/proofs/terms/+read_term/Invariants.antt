use Rattle.std.proofs.Common.{◌≡◌, ◌≤◌, length}
use Rattle.ari_text.specs.Reads.{AreTermsRead}
use Rattle.ari_text.proofs.terms.+read_term.Given as goal

abbrev pub decreases-read_term : goal.decreases-read_term
decreases-read_term l = length l.reader.now

abbrev pub decreases-read_call : goal.decreases-read_call
decreases-read_call l = length l.reader.now

abbrev pub invariant-read_call-arguments : goal.invariant-read_call-arguments
invariant-read_call-arguments l = record {
  read : AreTermsRead l.initial.reader l.reader l.initial.nodes.items l.nodes.items l.counter;
  onward : length l.reader ≤ length l.initial.reader;
  functions : l.scope.functions ≡ l.initial.scope.functions;
}
