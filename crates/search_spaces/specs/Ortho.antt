-- The space of certificates of almost orthogonal systems: it has one certificate at most.
use Rattle.std.specs.Prelude.{ℕ, ◌≡◌, ◌⊎◌, List}
use Rattle.rewriting.specs.Rules.{System}
use Rattle.unifier_run.specs.Overlaps.{Overlap, AreOverlaps}
use Rattle.certificates.specs.Certificates.{PairEntry, Certificate, ortho_certificate}
use Rattle.cops_names.specs.NameTable.{NameTable}
use Rattle.valid_certificates.specs.Kinds.{ortho}
use Rattle.valid_certificates.specs.Confluence.{IsInOrthoClasses}
use Rattle.first_found.specs.Items.{cost_of}
use Rattle.first_found.specs.Rows.{AreFirsts, EndsAtRow}
use Rattle.first_found.specs.Spaces.{Space}
use Rattle.search_spaces.specs.Texts.{HasText}
use Rattle.search_spaces.specs.PairItems.{ortho_items}
use Rattle.search_spaces.specs.Entries.{IsFirstEntry, overlap_cost}

-- the four classes hold, and these are the overlaps
pub record IsOrthoOpen (sys : System) (os : List Overlap) : Type 0 where
  pub classes : IsInOrthoClasses sys
  pub overlaps : AreOverlaps sys os

-- an entry with the first valid evidence among the items
abbrev pub IsOrthoEntry : System → Overlap → PairEntry → ℕ → Type 0
IsOrthoEntry sys = IsFirstEntry ortho sys ortho_items

-- the certificate of the space: an entry for each overlap, at the cost n together
pub record IsOrthoFound (names : NameTable) (sys : System) (c : Certificate) (n : ℕ) : Type 0 where
  pub overlaps : List Overlap
  pub is_open : IsOrthoOpen sys overlaps
  pub entries : List PairEntry
  pub firsts : AreFirsts (IsOrthoEntry sys) overlaps entries n
  pub certificate : c ≡ ortho_certificate entries
  pub text : HasText names c

-- all items of all overlaps; nothing where a class fails or the overlaps are refused
abbrev pub IsOrthoCost : System → ℕ → Type 0
IsOrthoCost sys n =
    ((os : List Overlap) × IsOrthoOpen sys os × (n ≡ cost_of (overlap_cost ortho_items) os)) ⊎ (((os : List Overlap) → IsOrthoOpen sys os → ⊥) × (n ≡ 0))

abbrev pub ortho_space : NameTable → System → Space Certificate
ortho_space names sys = record { Holds = λ c. (n : ℕ) × IsOrthoFound names sys c n; Finds = IsOrthoFound names sys; Costs = IsOrthoCost sys }

-- what a search pays where it finds nothing: up to and with the first overlap that has no evidence; or for all entries, where they make too long a text
abbrev pub IsOrthoPaid : NameTable → System → ℕ → Type 0
IsOrthoPaid names sys n =
    ((os : List Overlap) × IsOrthoOpen sys os
    × (EndsAtRow (IsOrthoEntry sys) (overlap_cost ortho_items) os n ⊎ ((es : List PairEntry) × AreFirsts (IsOrthoEntry sys) os es n × (HasText names (ortho_certificate es) → ⊥))))
    ⊎ (((os : List Overlap) → IsOrthoOpen sys os → ⊥) × (n ≡ 0))
