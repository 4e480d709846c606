use Rattle.std.proofs.Common.{drop, ◌↔◌}
use Rattle.rewriting.specs.Classes.{AreConstructorTerms}
use Rattle.term_core.specs.View.{views}
use Rattle.ctrs_classes.proofs.constructors.+is_constructor.Given as goal

abbrev pub invariant-loop-arg : goal.invariant-loop-arg
invariant-loop-arg l = AreConstructorTerms l.sys (views l.arg-items) ↔ AreConstructorTerms l.sys (views (drop l.arg-index l.arg-items))
