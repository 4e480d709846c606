-- The list that a `NameSet` stands for.
use Rattle.std.specs.Prelude.{List, ℕ, map}
use Rattle.cops_names.specs.declared.name_set.NameSet.TheInside.{Inside}

abbrev pub set_view : Inside → List (List ℕ)
set_view s = map (λ k. k.now) s.names.keys
