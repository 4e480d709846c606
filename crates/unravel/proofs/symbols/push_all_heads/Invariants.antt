use Rattle.std.proofs.Common.{◌≡◌, ◌+◌, ◌++◌, map, drop}
use Rattle.rewriting.specs.Unraveling.{auxiliary_heads}
use Rattle.term_core.specs.Prelude.{head_view, rule_view}
use Rattle.unravel.proofs.symbols.push_all_heads.Given as goal

abbrev pub invariant-loop-i : goal.invariant-loop-i
invariant-loop-i l = map head_view l.out.items ++ auxiliary_heads (l.i + 1) (map rule_view (drop l.i l.rules)) ≡ map head_view l.fn.out.items ++ auxiliary_heads 1 (map rule_view l.rules)
