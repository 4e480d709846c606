-- The lists that a `RuleIndex` stands for.
use Rattle.std.specs.Prelude.{List, ℕ, map}
use Rattle.rule_index.specs.declared.RuleIndex.TheInside.{Inside}

abbrev pub index_view : Inside → List (List ℕ)
index_view i = map (λ v. v.items) i.buckets.items
