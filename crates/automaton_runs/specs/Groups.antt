-- Values by a number.
use Rattle.std.specs.Prelude.{ℕ, List, [], Option, None, Some, Vec}
use Rattle.std.specs.declared.alloc.Global.{Global}
use Rattle.std.specs.Ordering.{nat_cmp}
use Rattle.std.specs.BTreeMap.{get}
use Rattle.automaton_runs.specs.declared.groups.Groups.{Groups}

abbrev pub items_of : {V : Type 0} → Option (Vec V Global) → List V
items_of None = []
items_of (Some list) = list.items

-- the values at a number, in order
abbrev pub listed : {V : Type 0} → Groups V → ℕ → List V
listed groups number = items_of (get nat_cmp groups.lists number)
