use Rattle.std.proofs.Common.{◌≡◌, ◌++◌, List, length}
use Rattle.std.specs.Vec.Iter.{into_iter_items, into_iter_len}
use Rattle.file_text.specs.Syntax.{RuleTree}
use Rattle.cops_syntax.specs.View.{AreRules}
use Rattle.cops_read.proofs.Repeats.{Rules}
use Rattle.cops_read.proofs.rules.read_rules.Given as goal

abbrev pub invariant-rules : goal.invariant-rules
invariant-rules l = record {
  read : (trees : List RuleTree) → AreRules l.fn.texts.items trees
      → Rules l.fn.scope.block l.fn.has_type l.fn.scope.names.symbols trees (length l.yielded) l.scope.names.symbols l.scope.names.variables l.rules.items;
  left : l.yielded ++ into_iter_items l.text-iterator ≡ l.fn.texts.items;
  many : into_iter_len l.text-iterator ≡ length (into_iter_items l.text-iterator);
  number : length l.rules.items ≡ length l.yielded;
  listed : length l.scope.names.variables ≡ length l.yielded;
  block : l.scope.block ≡ l.fn.scope.block;
}
