-- What the redexes of an end are judged by.
use Rattle.std.specs.Prelude.{ℕ, ◌≡◌, ◌<◌, ◌≤◌, ◌^◌, List, length, map}
use Rattle.rewriting.specs.Prelude.{System, IsSystem}
use Rattle.term_core.specs.Prelude.{rule_view}
use Rattle.term_core.specs.SystemView.{AreSound}
use Rattle.term_core.specs.declared.systems.Rule.{Rule}
use Rattle.certificates.specs.Certificates.{Apartness, by_normal_forms, by_rigid_caps}
use Rattle.cert_model.specs.declared.model.Redex.{Redex}

-- the rules are the system's, the entries are few, and the end has few variables
pub record IsReady (sys : System) (rs : List Rule) (es : List Redex) (n : ℕ) : Type 0 where
  pub system : IsSystem sys
  pub rules : map rule_view rs ≡ sys.rules
  pub sound : AreSound sys.arities rs
  pub few : length es < 2 ^ 32
  pub own : n ≤ 10000

-- numbers of 32 bits tell the entries
abbrev pub AreFew : Apartness → Type 0
AreFew (by_normal_forms es) = length es < 2 ^ 32
AreFew by_rigid_caps = Unit {0}
