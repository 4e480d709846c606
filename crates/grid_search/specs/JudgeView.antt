-- The system that a `PrefixJudge` stands for, and what it keeps.
use Rattle.std.specs.Prelude.{ℕ, suc, ◌≡◌, length}
use Rattle.rewriting.specs.Prelude.{System, IsSystem, unraveled, heads}
use Rattle.unravel.specs.Answers.{IsUnraveled}
use Rattle.grid_search.specs.Needed.{numbers_needing}
use Rattle.unravel.specs.Listed.{listed}
use Rattle.grid_search.specs.declared.prefix.PrefixJudge.TheInside.{Inside}

abbrev pub judge_view : Inside → System
judge_view i = i.own.now

-- the unraveling of the system, and for each number of first entries the rules that need them
pub record IsHeld (i : Inside) : Type 0 where
  pub sound : IsSystem i.own.now
  pub made : IsUnraveled i.own.now i.unraveled
  pub as_many : length i.completed.items ≡ suc (length (heads i.own.now))
  pub completed : (k : ℕ) → listed i.completed.items k ≡ numbers_needing k 1 (unraveled i.own.now).rules
