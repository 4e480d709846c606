-- The program's kinds of certificates as those of the definitions.
use Rattle.valid_certificates.specs.Kinds.{Kind, ortho, quasi}
use Rattle.validity.specs.declared.CertKind.{CertKind}
use Rattle.validity.specs.declared.CertKind.TheVariants.{Ortho, Quasi}

abbrev pub kind_view : CertKind → Kind
kind_view Ortho = ortho
kind_view Quasi = quasi
