-- What the bytes of FILE are: the text of a system, or refused.
use Rattle.std.specs.Prelude.{ℕ, List}
use Rattle.rewriting.specs.Prelude.{System, IsConfluent}
use Rattle.join_systems.specs.FileRelation.{IsFileConfluent}
use Rattle.certificates.specs.Certificates.{Certificate}
use Rattle.valid_certificates.specs.CarriedBack.{IsPeakApart}
use Rattle.cops_names.specs.NameTable.{NameTable}
use Rattle.run_parts.specs.Bytes.{Bytes, SpellsSystem}
use Rattle.concon_run.specs.FileRefusals.{FileRefusal, IsFileRefused}

-- the file is refused
abbrev pub IsRefusedFile : Bytes → FileRefusal → Type 0
IsRefusedFile file refusal = (bytes : List ℕ) × file bytes × IsFileRefused bytes refusal

-- the file's own relation is confluent, and so is that of the system
pub record IsWhollyConfluent (sys : System) : Type 0 where
  pub file : IsFileConfluent sys
  pub system : IsConfluent sys

-- the file spells a system, and its own relation is confluent
abbrev pub IsConfirmed : Bytes → Type 0
IsConfirmed file = (sys : System) × (names : NameTable) × SpellsSystem file sys names × IsWhollyConfluent sys

-- the file spells a system, for which there is a peak, behind good steps or behind none: its derivations lead from the start to two terms without a common reduct
abbrev pub IsDisproved : Bytes → Type 0
IsDisproved file = (sys : System) × (names : NameTable) × (c : Certificate) × SpellsSystem file sys names × IsPeakApart sys c
