-- The certificate is found at its price.
use Rattle.std.proofs.Common.{refl}
use Rattle.generated_systems.specs.Certificate.{generated_overlaps, generated_entries}
use Rattle.generated_systems.specs.Laws.{CertificatesAreFound}
use Rattle.generated_systems.proofs.Classes.{in_classes}
use Rattle.generated_systems.proofs.Entries.{entries_are_firsts}
use Rattle.generated_systems.proofs.Overlaps.{are_overlaps}
use Rattle.generated_systems.proofs.Texts.{have_texts}

pub are_found : CertificatesAreFound
are_found names n few =
    record {
      overlaps = generated_overlaps n;
      is_open = record { classes = in_classes n; overlaps = are_overlaps n few };
      entries = generated_entries n;
      firsts = entries_are_firsts n;
      certificate = refl;
      text = have_texts names n few;
    }
