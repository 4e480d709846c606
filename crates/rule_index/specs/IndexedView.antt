-- The system that an `IndexedSystem` stands for, and what it keeps.
use Rattle.rewriting.specs.Rules as math
use Rattle.rule_index.specs.Index.{IsIndexOf}
use Rattle.rule_index.specs.Linear.{TellLinear}
use Rattle.rule_index.specs.declared.indexed.IndexedSystem.TheInside.{Inside}

abbrev pub indexed_view : Inside → math.System
indexed_view i = i.system.now

-- the index is the system's, and it is told which left sides are linear
pub record IsIndexed (i : Inside) : Type 0 where
  pub index : IsIndexOf i.system.now i.index
  pub linear : TellLinear i.system.now.rules i.linear.items
