-- The system that a `PreparedSystem` stands for, and what it keeps.
use Rattle.std.specs.Prelude.{◌≡◌, map}
use Rattle.rewriting.specs.Prelude.{System, IsSystem}
use Rattle.term_core.specs.RuleView.{rule_view}
use Rattle.prepared_system.specs.Renamed.{inner_rules, outer_rules}
use Rattle.prepared_system.specs.declared.PreparedSystem.TheInside.{Inside}

abbrev pub prepared_view : Inside → System
prepared_view s = s.indexed

-- its rules are those of that system, renamed apart
pub record IsPrepared (s : Inside) : Type 0 where
  pub sound : IsSystem s.indexed
  pub inners : map rule_view s.inners.items ≡ inner_rules s.indexed
  pub outers : map rule_view s.outers.items ≡ outer_rules s.indexed
