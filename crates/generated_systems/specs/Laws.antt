-- Laws of the generated systems.
use Rattle.std.specs.Prelude.{ℕ, ◌*◌, ◌<◌, ◌≤◌}
use Rattle.unifier_run.specs.declared.TheConstants.{MOST_OVERLAPS}
use Rattle.unifier_run.specs.Overlaps.{AreOverlaps}
use Rattle.cops_names.specs.NameTable.{NameTable}
use Rattle.valid_certificates.specs.Kinds.{ortho}
use Rattle.valid_certificates.specs.Confluence.{IsInOrthoClasses}
use Rattle.first_found.specs.Items.{IsFirst, one}
use Rattle.first_found.specs.Rows.{AreFirsts}
use Rattle.search_spaces.specs.PairItems.{GivesEvidence, ortho_items}
use Rattle.search_spaces.specs.Texts.{HasText}
use Rattle.search_spaces.specs.Ortho.{IsOrthoEntry, ortho_space}
use Rattle.generated_systems.specs.Generated.{generated}
use Rattle.generated_systems.specs.Certificate.{overlap_for, conflict, generated_overlaps, generated_entries, generated_certificate}

-- they are left-linear, of type 3, extended properly oriented and right-stable
abbrev pub GeneratedAreInOrthoClasses : Type 0
GeneratedAreInOrthoClasses = (n : ℕ) → IsInOrthoClasses (generated n)

-- of each overlap the third item is the first that gives valid evidence: the sides differ, caps do not clash, and the conditions conflict
abbrev pub OverlapsHaveConflicts : Type 0
OverlapsHaveConflicts = (n k : ℕ) → k < n → IsFirst one (GivesEvidence ortho (generated n) (overlap_for k)) (ortho_items (overlap_for k)) conflict 3

-- all entries together cost 3n
abbrev pub EntriesAreFirsts : Type 0
EntriesAreFirsts = (n : ℕ) → AreFirsts (IsOrthoEntry (generated n)) (generated_overlaps n) (generated_entries n) (3 * n)

-- the overlaps are these n, where they are not too many
abbrev pub GeneratedHaveOverlaps : Type 0
GeneratedHaveOverlaps = (n : ℕ) → n ≤ MOST_OVERLAPS → AreOverlaps (generated n) (generated_overlaps n)

-- the certificate has a text, whatever the names
abbrev pub CertificatesHaveTexts : Type 0
CertificatesHaveTexts = (names : NameTable) (n : ℕ) → n ≤ MOST_OVERLAPS → HasText names (generated_certificate n)

-- it is found at the price 3n
abbrev pub CertificatesAreFound : Type 0
CertificatesAreFound = (names : NameTable) (n : ℕ) → n ≤ MOST_OVERLAPS → (ortho_space names (generated n)).Finds (generated_certificate n) (3 * n)
